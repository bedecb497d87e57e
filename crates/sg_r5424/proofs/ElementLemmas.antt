-- Elements at the front of a text.
use Rattle.std.proofs.Common.{◌≡◌, ℕ, ◌≤◌, ◌<◌, ◌⊎◌, inl, inr, nat_eq, List, [], ◌∷◌, ◌++◌, length, drop, map, refl, sym, ap, ◌∙◌, subst, arith, append_assoc, append-nil, length-append, Bool, true, false}
use Rattle.std.proofs.lemmas.Bool.{true≢false, ne_eqb}
use Rattle.std.specs.declared.result.Result.{Result}
use Rattle.std.specs.declared.result.Result.TheVariants.{Ok, Err}
use Rattle.std.specs.declared.alloc.AllocError.{AllocError}
use Rattle.sg_msg.specs.Message.{NameValue}
use Rattle.sg_msg.specs.Build.{Build}
use Rattle.sg_r5424.specs.Takes.{PutsPairs}
use Rattle.sg_r5424.specs.Data.{Param}
use Rattle.sg_r5424.specs.Data.{StopsAtByte, IsSdName, Params, HasParams, element_name, element_pairs, param_pair, IsElement, Elements, IsData}
use Rattle.sg_r5424.specs.Data.Params.{closed}
use Rattle.sg_r5424.specs.Data.Elements.{none, more}
use Rattle.sg_r5424.proofs.NameLemmas.{name_once}
use Rattle.sg_r5424.proofs.ParamLemmas.{params_cases, params_once, params_shorter}
use Rattle.sg_r3164.proofs.StampsOnce.{first_same}

abbrev is_open : ℕ → Bool
is_open b = nat_eq b 91

pub element_once : (text : List ℕ) (a b : List NameValue) (s t : List ℕ) → IsElement text a s → IsElement text b t → (a ≡ b) × (s ≡ t)
element_once text a b s t p q =
    let behind : p.behind ≡ q.behind = ap (drop 1) (sym p.opens ∙ q.opens) in
    let id = name_once q.behind p.id q.id p.behind_id q.behind_id (subst (λ (x : List ℕ). IsSdName x p.id p.behind_id) behind p.is_id) q.is_id in
    let params = params_once q.behind_id p.params q.params s t (subst (λ (x : List ℕ). Params x p.params s) id.1 p.are_params) q.are_params in
    (p.are_pairs ∙ (ap (λ x. element_pairs x p.params) id.0 ∙ (ap (λ x. element_pairs q.id x) params.0 ∙ sym q.are_pairs)), params.1)

-- where an element can't be read
pub no_id : (text behind : List ℕ) → text ≡ 91 ∷ behind → ((name rest : List ℕ) → ¬ IsSdName behind name rest) → (pairs : List NameValue) (rest : List ℕ) → ¬ IsElement text pairs rest
no_id text behind e never pairs rest = λ h.
    let same : h.behind ≡ behind = ap (drop 1) (sym h.opens ∙ e) in
    never h.id h.behind_id (subst (λ (x : List ℕ). IsSdName x h.id h.behind_id) same h.is_id)

pub no_params : (text behind id left : List ℕ) → text ≡ 91 ∷ behind → IsSdName behind id left → ((pairs : List NameValue) (rest : List ℕ) → ¬ HasParams id left pairs rest) → (pairs : List NameValue) (rest : List ℕ) → ¬ IsElement text pairs rest
no_params text behind id left e is_id never pairs rest = λ h.
    let same : h.behind ≡ behind = ap (drop 1) (sym h.opens ∙ e) in
    let other = name_once behind h.id id h.behind_id left (subst (λ (x : List ℕ). IsSdName x h.id h.behind_id) same h.is_id) is_id in
    never (map (param_pair id) h.params) rest (h.params, (subst (λ (x : List ℕ). Params x h.params rest) other.1 h.are_params, refl))

-- an element without parameters
pub bare_element : (text behind id left rest : List ℕ) → text ≡ 91 ∷ behind → IsSdName behind id left → left ≡ 93 ∷ rest → IsElement text ((record { name = element_name id; value = [] }) ∷ []) rest
bare_element text behind id left rest e is_id ends = record {
  id = id;
  params = [];
  behind = behind;
  behind_id = left;
  opens = e;
  is_id = is_id;
  are_params = rw ends (closed rest);
  are_pairs = refl;
}

-- and one with them
pairs_of_some : (id left rest : List ℕ) (params : List Param) → ((r : List ℕ) → ¬ (left ≡ 93 ∷ r)) → Params left params rest → map (param_pair id) params ≡ element_pairs id params
pairs_of_some id left rest [] never h = elim (params_cases left [] rest h) [ inl e ↦ absurd (never rest e.0) | inr m ↦ absurd (let wrong = m.are_params in cc) ]
pairs_of_some id left rest (param ∷ params) never h = refl

pub full_element : (text behind id left : List ℕ) (pairs : List NameValue) (rest : List ℕ) → text ≡ 91 ∷ behind → IsSdName behind id left → ((r : List ℕ) → ¬ (left ≡ 93 ∷ r)) → HasParams id left pairs rest → IsElement text pairs rest
full_element text behind id left pairs rest e is_id never h = record {
  id = id;
  params = h.0;
  behind = behind;
  behind_id = left;
  opens = e;
  is_id = is_id;
  are_params = h.1.0;
  are_pairs = h.1.1 ∙ pairs_of_some id left rest h.0 never h.1.0;
}

-- what was read behind an identifier
pub element_taken : (text behind id left new : List ℕ) (before after : Build) (result : Result Bool AllocError) → text ≡ 91 ∷ behind → IsSdName behind id left → ((r : List ℕ) → ¬ (left ≡ 93 ∷ r)) → length left ≤ length text → PutsPairs (HasParams id) left new before after result → PutsPairs IsElement text new before after result
element_taken text behind id left new before after (Ok true) e is_id never less p =
    (p.0, (full_element text behind id left p.0 new e is_id never p.1.0, p.1.1, let l = p.1.2 in omega arith))
element_taken text behind id left new before after (Ok false) e is_id never less p =
    (no_params text behind id left e is_id p.0, let l = p.1 in omega arith)
element_taken text behind id left new before after (Err wrong) e is_id never less p = tt

-- the cases of elements
pub record AnotherElement (text : List ℕ) (pairs : List NameValue) (rest : List ℕ) : Type 0 where
  pub one : List NameValue
  pub others : List NameValue
  pub middle : List ℕ
  pub are_pairs : pairs ≡ one ++ others
  pub first : IsElement text one middle
  pub behind : Elements middle others rest

pub elements_cases : (text : List ℕ) (pairs : List NameValue) (rest : List ℕ) → Elements text pairs rest → ((rest ≡ text) × (pairs ≡ []) × StopsAtByte is_open text) ⊎ AnotherElement text pairs rest
elements_cases _ _ _ (none text stops) = inl (refl, refl, stops)
elements_cases _ _ _ (more text middle rest one pairs first behind) = inr (record { one = one; others = pairs; middle = middle; are_pairs = refl; first = first; behind = behind })

not_open : (text : List ℕ) (pairs : List NameValue) (rest : List ℕ) → StopsAtByte is_open text → ¬ IsElement text pairs rest
not_open text pairs rest stops = λ h.
    let wrong : StopsAtByte is_open (91 ∷ h.behind) = subst (λ (x : List ℕ). StopsAtByte is_open x) h.opens stops in
    true≢false wrong

pub elements_once : (text : List ℕ) (a b : List NameValue) (s t : List ℕ) → Elements text a s → Elements text b t → (a ≡ b) × (s ≡ t)
elements_once _ _ b _ t (none text stops) q =
    elim (elements_cases text b t q) [
      | inl e ↦ (sym e.1, sym e.0)
      | inr m ↦ absurd (not_open text m.one m.middle stops m.first)
    ]
elements_once _ _ b _ t (more text middle s one pairs first behind) q =
    elim (elements_cases text b t q) [
      | inl e ↦ absurd (not_open text one middle e.2 first)
      | inr m ↦
          let here = element_once text one m.one middle m.middle first m.first in
          let rest = elements_once middle pairs m.others s t behind (subst (λ (x : List ℕ). Elements x m.others t) (sym here.1) m.behind) in
          (ap (λ x. x ++ pairs) here.0 ∙ (ap (λ x. m.one ++ x) rest.0 ∙ sym m.are_pairs), rest.1)
    ]

pub data_once : (text : List ℕ) (a b : List NameValue) (s t : List ℕ) → IsData text a s → IsData text b t → (a ≡ b) × (s ≡ t)
data_once [] a b s t p q = absurd p
data_once (x ∷ text) a b s t (inl p) (inl q) = (p.1 ∙ sym q.1, p.2 ∙ sym q.2)
data_once (x ∷ text) a b s t (inl p) (inr q) = absurd (omega (arith, p.0, q.0))
data_once (x ∷ text) a b s t (inr p) (inl q) = absurd (omega (arith, p.0, q.0))
data_once (x ∷ text) a b s t (inr p) (inr q) = elements_once (x ∷ text) a b s t p.1 q.1

-- The pairs of a text are those read so far and those of what is left.
pub record ReachedIn (start : List ℕ) (done : List NameValue) (text : List ℕ) : Type 0 where
  pub whole : (pairs : List NameValue) (rest : List ℕ) → Elements text pairs rest → Elements start (done ++ pairs) rest
  pub only : (pairs : List NameValue) (rest : List ℕ) → Elements start pairs rest → (left : List NameValue) × ((pairs ≡ done ++ left) × Elements text left rest)

pub reached_in_none : (start : List ℕ) → ReachedIn start [] start
reached_in_none start = record { whole = λ pairs rest h. h; only = λ pairs rest h. (pairs, (refl, h)) }

pub reached_in_more : (start : List ℕ) (done : List NameValue) (text : List ℕ) (one : List NameValue) (middle : List ℕ) → ReachedIn start done text → IsElement text one middle → ReachedIn start (done ++ one) middle
reached_in_more start done text one middle r first = record {
  whole = λ pairs rest h. rw append_assoc (r.whole (one ++ pairs) rest (more text middle rest one pairs first h));
  only = λ pairs rest h.
      let was = r.only pairs rest h in
      elim (elements_cases text was.0 rest was.1.1) [
        | inl e ↦ absurd (not_open text one middle e.2 first)
        | inr m ↦
            let here = element_once text m.one one m.middle middle m.first first in (
              m.others,
              (
                was.1.0 ∙ (ap (λ x. done ++ x) (m.are_pairs ∙ ap (λ x. x ++ m.others) here.0) ∙ sym (append_assoc done one m.others)),
                subst (λ (x : List ℕ). Elements x m.others rest) here.1 m.behind,
              ),
            )
      ];
}

pub reached_in_end : (start : List ℕ) (done : List NameValue) (text : List ℕ) → ReachedIn start done text → StopsAtByte is_open text → Elements start done text
reached_in_end start done text r stops = rw append-nil at (r.whole [] text (none text stops))

pub reached_in_stuck : (start : List ℕ) (done : List NameValue) (text : List ℕ) → ReachedIn start done text → ¬ StopsAtByte is_open text → ((pairs : List NameValue) (rest : List ℕ) → ¬ IsElement text pairs rest) → (pairs : List NameValue) (rest : List ℕ) → ¬ Elements start pairs rest
reached_in_stuck start done text r opens never pairs rest = λ h.
    let was = r.only pairs rest h in
    elim (elements_cases text was.0 rest was.1.1) [ inl e ↦ opens e.2 | inr m ↦ never m.one m.middle m.first ]

-- whether a bracket opens
pub stops_unless : (text : List ℕ) → ((rest : List ℕ) → ¬ (text ≡ 91 ∷ rest)) → StopsAtByte is_open text
stops_unless [] never = tt
stops_unless (b ∷ text) never = ne_eqb b 91 (λ e. never text (ap (λ x. x ∷ text) e))

pub opens_with : (text rest : List ℕ) → text ≡ 91 ∷ rest → ¬ StopsAtByte is_open text
opens_with text rest e = λ stops. true≢false (subst (λ (x : List ℕ). StopsAtByte is_open x) e stops)

-- where structured data can't be read
pub no_data : (text : List ℕ) → ((rest : List ℕ) → ¬ (text ≡ 45 ∷ rest)) → ((rest : List ℕ) → ¬ (text ≡ 91 ∷ rest)) → (pairs : List NameValue) (rest : List ℕ) → ¬ IsData text pairs rest
no_data [] no_nil no_open pairs rest = λ h. h
no_data (b ∷ text) no_nil no_open pairs rest = λ h. elim h [
  | inl e ↦ no_nil text (ap (λ x. x ∷ text) e.0)
  | inr e ↦ no_open text (ap (λ x. x ∷ text) e.0)
]

pub no_elements : (text behind : List ℕ) → text ≡ 91 ∷ behind → ((pairs : List NameValue) (rest : List ℕ) → ¬ Elements text pairs rest) → (pairs : List NameValue) (rest : List ℕ) → ¬ IsData text pairs rest
no_elements [] behind e never pairs rest = λ h. h
no_elements (b ∷ text) behind e never pairs rest = λ h. elim h [
  | inl f ↦ let wrong = first_same b 91 text behind e in omega (arith, f.0, wrong)
  | inr f ↦ never pairs rest f.1
]

pub nil_data : (text rest : List ℕ) → text ≡ 45 ∷ rest → IsData text [] rest
nil_data text rest e = rw e (inl (refl, refl, refl))

pub some_data : (text behind : List ℕ) (pairs : List NameValue) (rest : List ℕ) → text ≡ 91 ∷ behind → Elements text pairs rest → IsData text pairs rest
some_data [] behind pairs rest e h = absurd (cc)
some_data (b ∷ text) behind pairs rest e h = inr (first_same b 91 text behind e, h)

-- what was read and put of structured data, as far as here
pub record ElementsSoFar (start : List ℕ) (before : Build) (text : List ℕ) (now : Build) : Type 0 where
  pub done : List NameValue
  pub reached : ReachedIn start done text
  pub set : now ≡ record before { put = before.put ++ done }
  pub shorter : length text ≤ length start

pub so_far_none : (start : List ℕ) (before : Build) → ElementsSoFar start before start before
so_far_none start before = record { done = []; reached = reached_in_none start; set = ap (λ (x : List NameValue). record before { put = x }) (sym (append-nil before.put)); shorter = omega arith }

pub so_far_more : (start : List ℕ) (before : Build) (text : List ℕ) (now : Build) (one : List NameValue) (middle : List ℕ) (after : Build) → ElementsSoFar start before text now → IsElement text one middle → length middle ≤ length text → after ≡ record now { put = now.put ++ one } → ElementsSoFar start before middle after
so_far_more start before text now one middle after s first less put =
    let old = s.shorter in
    let change : Build → Build = λ x. record x { put = x.put ++ one } in
    record {
      done = s.done ++ one;
      reached = reached_in_more start s.done text one middle s.reached first;
      set = put ∙ (ap change s.set ∙ ap (λ (x : List NameValue). record before { put = x }) (append_assoc before.put s.done one));
      shorter = omega arith;
    }

pub so_far_end : (start behind : List ℕ) (before : Build) (text : List ℕ) (now : Build) → start ≡ 91 ∷ behind → ElementsSoFar start before text now → ((rest : List ℕ) → ¬ (text ≡ 91 ∷ rest)) → (pairs : List NameValue) × (IsData start pairs text × (now ≡ record before { put = before.put ++ pairs }) × (length text ≤ length start))
so_far_end start behind before text now e s never =
    (s.done, (some_data start behind s.done text e (reached_in_end start s.done text s.reached (stops_unless text never)), s.set, s.shorter))

pub so_far_stuck : (start behind : List ℕ) (before : Build) (text : List ℕ) (now : Build) (left : List ℕ) → start ≡ 91 ∷ behind → ElementsSoFar start before text now → text ≡ 91 ∷ left → ((pairs : List NameValue) (rest : List ℕ) → ¬ IsElement text pairs rest) → (pairs : List NameValue) (rest : List ℕ) → ¬ IsData start pairs rest
so_far_stuck start behind before text now left e s opens never pairs rest =
    no_elements start behind e (reached_in_stuck start s.done text s.reached (opens_with text left opens) never) pairs rest

-- an element takes bytes
pub element_shorter : (text : List ℕ) (pairs : List NameValue) (rest : List ℕ) → IsElement text pairs rest → length rest < length text
element_shorter text pairs rest h =
    let a = ap length h.opens in
    let b = ap length h.is_id.is_text in
    let d = params_shorter h.behind_id h.params rest h.are_params in
    omega (arith, a, b, d, length-append h.id h.behind_id)
