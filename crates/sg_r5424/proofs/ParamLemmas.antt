-- Parameters at the front of a text.
use Rattle.std.proofs.Common.{◌≡◌, ℕ, ◌≤◌, ◌<◌, ◌⊎◌, inl, inr, List, [], ◌∷◌, ◌++◌, length, drop, codes, map, refl, sym, ap, ◌∙◌, subst, arith, append_assoc, append-nil, length-append, false}
use Rattle.std.proofs.lemmas.List.{map-append}
use Rattle.sg_msg.specs.Macros.{is_hard, date_macros, other_macros}
use Rattle.sg_msg.specs.Message.{NameValue, IsPairName as MayBeName}
use Rattle.sg_msg.specs.Build.{Build}
use Rattle.sg_r5424.specs.Data.{Param}
use Rattle.sg_r5424.specs.Data.{IsSdName, IsParam, Params, HasParams, element_name, param_name, param_pair}
use Rattle.sg_r5424.specs.Values.{IsValue}
use Rattle.sg_r5424.specs.Data.Params.{closed, more}
use Rattle.sg_r5424.proofs.NameLemmas.{name_once}
use Rattle.sg_r5424.proofs.ValueLemmas.{value_once}
use Rattle.sg_r3164.proofs.StampsOnce.{first_same}

-- no macro is called like a pair of structured data
pub soft_data : (name : List ℕ) → is_hard (codes ".SDATA." ++ name) ≡ false
unfolding is_hard date_macros other_macros
soft_data name = refl

pub soft_param : (id name : List ℕ) → is_hard (param_name id name) ≡ false
unfolding is_hard date_macros other_macros
soft_param id name = refl

abbrev param_of : List ℕ → List ℕ → Param
param_of name value = record { name = name; value = value }

pub param_once : (text : List ℕ) (a b : Param) (s t : List ℕ) → IsParam text a s → IsParam text b t → (a ≡ b) × (s ≡ t)
param_once text a b s t p q =
    let behind : p.behind ≡ q.behind = ap (drop 1) (sym p.space ∙ q.space) in
    let named = subst (λ (x : List ℕ). IsSdName x a.name (61 ∷ 34 ∷ p.quoted)) behind p.name in
    let name = name_once q.behind a.name b.name (61 ∷ 34 ∷ p.quoted) (61 ∷ 34 ∷ q.quoted) named q.name in
    let quoted : p.quoted ≡ q.quoted = ap (drop 2) name.1 in
    let value = value_once q.quoted a.value b.value s t (subst (λ (x : List ℕ). IsValue x a.value s) quoted p.value) q.value in
    (ap (λ x. param_of x a.value) name.0 ∙ ap (λ x. param_of b.name x) value.0, value.1)

-- where a parameter can't be read
pub no_name : (text behind : List ℕ) → text ≡ 32 ∷ behind → ((name rest : List ℕ) → ¬ IsSdName behind name rest) → (param : Param) (rest : List ℕ) → ¬ IsParam text param rest
no_name text behind e never param rest = λ h.
    let same : h.behind ≡ behind = ap (drop 1) (sym h.space ∙ e) in
    never param.name (61 ∷ 34 ∷ h.quoted) (subst (λ (x : List ℕ). IsSdName x param.name (61 ∷ 34 ∷ h.quoted)) same h.name)

pub no_quote : (text behind name left : List ℕ) → text ≡ 32 ∷ behind → IsSdName behind name left → ((rest : List ℕ) → ¬ (left ≡ 61 ∷ 34 ∷ rest)) → (param : Param) (rest : List ℕ) → ¬ IsParam text param rest
no_quote text behind name left e is_name never param rest = λ h.
    let same : h.behind ≡ behind = ap (drop 1) (sym h.space ∙ e) in
    let named = subst (λ (x : List ℕ). IsSdName x param.name (61 ∷ 34 ∷ h.quoted)) same h.name in
    never h.quoted (name_once behind name param.name left (61 ∷ 34 ∷ h.quoted) is_name named).1

pub no_value : (text behind name quoted : List ℕ) → text ≡ 32 ∷ behind → IsSdName behind name (61 ∷ 34 ∷ quoted) → ((value rest : List ℕ) → ¬ IsValue quoted value rest) → (param : Param) (rest : List ℕ) → ¬ IsParam text param rest
no_value text behind name quoted e is_name never param rest = λ h.
    let same : h.behind ≡ behind = ap (drop 1) (sym h.space ∙ e) in
    let named = subst (λ (x : List ℕ). IsSdName x param.name (61 ∷ 34 ∷ h.quoted)) same h.name in
    let left : h.quoted ≡ quoted = ap (drop 2) (sym (name_once behind name param.name (61 ∷ 34 ∷ quoted) (61 ∷ 34 ∷ h.quoted) is_name named).1) in
    never param.value rest (subst (λ (x : List ℕ). IsValue x param.value rest) left h.value)

pub param_made : (text behind quoted : List ℕ) (param : Param) (rest : List ℕ) → text ≡ 32 ∷ behind → IsSdName behind param.name (61 ∷ 34 ∷ quoted) → IsValue quoted param.value rest → IsParam text param rest
param_made text behind quoted param rest e is_name is_value = record { behind = behind; quoted = quoted; space = e; name = is_name; value = is_value }

-- the cases of parameters
pub record Another (text : List ℕ) (params : List Param) (rest : List ℕ) : Type 0 where
  pub param : Param
  pub others : List Param
  pub middle : List ℕ
  pub are_params : params ≡ param ∷ others
  pub first : IsParam text param middle
  pub behind : Params middle others rest

pub params_cases : (text : List ℕ) (params : List Param) (rest : List ℕ) → Params text params rest → ((text ≡ 93 ∷ rest) × (params ≡ [])) ⊎ Another text params rest
params_cases _ _ _ (closed rest) = inl (refl, refl)
params_cases _ _ _ (more text middle rest param params first behind) = inr (record { param = param; others = params; middle = middle; are_params = refl; first = first; behind = behind })

-- a parameter doesn't begin with the closing bracket
pub no_bracket : (text rest left : List ℕ) (param : Param) → text ≡ 93 ∷ rest → ¬ IsParam text param left
no_bracket text rest left param e = λ h. let wrong = first_same 93 32 rest h.behind (sym e ∙ h.space) in omega (arith, wrong)

pub params_once : (text : List ℕ) (a b : List Param) (s t : List ℕ) → Params text a s → Params text b t → (a ≡ b) × (s ≡ t)
params_once _ _ b _ t (closed s) q =
    elim (params_cases (93 ∷ s) b t q) [
      | inl e ↦ (sym e.1, ap (drop 1) e.0)
      | inr m ↦ absurd (no_bracket (93 ∷ s) s m.middle m.param refl m.first)
    ]
params_once _ _ b _ t (more text middle s param params first behind) q =
    elim (params_cases text b t q) [
      | inl e ↦ absurd (no_bracket text t middle param e.0 first)
      | inr m ↦
          let one = param_once text param m.param middle m.middle first m.first in
          let rest = params_once middle params m.others s t behind (subst (λ (x : List ℕ). Params x m.others t) (sym one.1) m.behind) in
          (ap (λ x. x ∷ params) one.0 ∙ (ap (λ x. m.param ∷ x) rest.0 ∙ sym m.are_params), rest.1)
    ]

-- The parameters of a text are those read so far and those of what is left.
pub record ReachedParam (start : List ℕ) (done : List Param) (text : List ℕ) : Type 0 where
  pub whole : (params : List Param) (rest : List ℕ) → Params text params rest → Params start (done ++ params) rest
  pub only : (params : List Param) (rest : List ℕ) → Params start params rest → (left : List Param) × ((params ≡ done ++ left) × Params text left rest)

pub reached_none : (start : List ℕ) → ReachedParam start [] start
reached_none start = record { whole = λ params rest h. h; only = λ params rest h. (params, (refl, h)) }

pub reached_more : (start : List ℕ) (done : List Param) (text : List ℕ) (param : Param) (middle : List ℕ) → ReachedParam start done text → IsParam text param middle → ReachedParam start (done ++ param ∷ []) middle
reached_more start done text param middle r first = record {
  whole = λ params rest h. rw append_assoc (r.whole (param ∷ params) rest (more text middle rest param params first h));
  only = λ params rest h.
      let was = r.only params rest h in
      elim (params_cases text was.0 rest was.1.1) [
        | inl e ↦ absurd (no_bracket text rest middle param e.0 first)
        | inr m ↦
            let one = param_once text m.param param m.middle middle m.first first in (
              m.others,
              (
                was.1.0 ∙ (ap (λ x. done ++ x) (m.are_params ∙ ap (λ x. x ∷ m.others) one.0) ∙ sym (append_assoc done (param ∷ []) m.others)),
                subst (λ (x : List ℕ). Params x m.others rest) one.1 m.behind,
              ),
            )
      ];
}

-- the closing bracket ends them
pub reached_end : (start : List ℕ) (done : List Param) (text rest : List ℕ) → ReachedParam start done text → text ≡ 93 ∷ rest → Params start done rest
reached_end start done text rest r e =
    let last : Params text [] rest = rw e (closed rest) in
    rw append-nil at (r.whole [] rest last)

-- neither a parameter nor the bracket follows
pub reached_stuck : (start : List ℕ) (done : List Param) (text : List ℕ) → ReachedParam start done text → ((rest : List ℕ) → ¬ (text ≡ 93 ∷ rest)) → ((param : Param) (rest : List ℕ) → ¬ IsParam text param rest) → (params : List Param) (rest : List ℕ) → ¬ Params start params rest
reached_stuck start done text r no_end no_param params rest = λ h.
    let was = r.only params rest h in
    elim (params_cases text was.0 rest was.1.1) [ inl e ↦ no_end rest e.0 | inr m ↦ no_param m.param m.middle m.first ]

-- a parameter takes bytes
pub param_shorter : (text : List ℕ) (param : Param) (rest : List ℕ) → IsParam text param rest → length rest < length text
param_shorter text param rest h =
    let a = ap length h.space in
    let b = ap length h.name.is_text in
    let d = ap length h.value.is_text in
    omega (arith, a, b, d, length-append param.name (61 ∷ 34 ∷ h.quoted), length-append h.value.spelled (34 ∷ rest))

pub params_shorter : (text : List ℕ) (params : List Param) (rest : List ℕ) → Params text params rest → length rest < length text
params_shorter _ _ _ (closed rest) = omega arith
params_shorter _ _ _ (more text middle rest param params first behind) =
    let a = param_shorter text param middle first in
    let b = params_shorter middle params rest behind in
    omega arith

-- the names of pairs fit a message
pub param_fits : (id name : List ℕ) → length id ≤ 32 → length name ≤ 32 → MayBeName (param_name id name)
param_fits id name short also =
    (omega arith, omega (arith, length-append (id ++ codes ".") name, length-append id (codes ".")), soft_param id name)

pub element_fits : (id : List ℕ) → length id ≤ 32 → MayBeName (element_name id)
element_fits id short = (omega arith, omega arith, soft_data id)

-- what was read and put of an element's parameters, as far as here
pub record ParamsSoFar (id start : List ℕ) (before : Build) (text : List ℕ) (now : Build) : Type 0 where
  pub done : List Param
  pub reached : ReachedParam start done text
  pub set : now ≡ record before { put = before.put ++ map (param_pair id) done }
  pub shorter : length text ≤ length start

pub so_far_none : (id start : List ℕ) (before : Build) → ParamsSoFar id start before start before
so_far_none id start before = record { done = []; reached = reached_none start; set = ap (λ (x : List NameValue). record before { put = x }) (sym (append-nil before.put)); shorter = omega arith }

pub so_far_more : (id start : List ℕ) (before : Build) (text : List ℕ) (now : Build) (param : Param) (middle : List ℕ) (after : Build) → ParamsSoFar id start before text now → IsParam text param middle → after ≡ record now { put = now.put ++ param_pair id param ∷ [] } → ParamsSoFar id start before middle after
so_far_more id start before text now param middle after s first put =
    let less = param_shorter text param middle first in
    let old = s.shorter in
    let change : Build → Build = λ x. record x { put = x.put ++ param_pair id param ∷ [] } in
    let pairs : before.put ++ map (param_pair id) (s.done ++ param ∷ []) ≡ (before.put ++ map (param_pair id) s.done) ++ param_pair id param ∷ [] =
    ap (λ (x : List NameValue). before.put ++ x) (map-append (param_pair id) s.done (param ∷ []))
    ∙ sym (append_assoc before.put (map (param_pair id) s.done) (param_pair id param ∷ [])) in
    record {
      done = s.done ++ param ∷ [];
      reached = reached_more start s.done text param middle s.reached first;
      set = put ∙ (ap change s.set ∙ ap (λ (x : List NameValue). record before { put = x }) (sym pairs));
      shorter = omega arith;
    }

pub so_far_end : (id start : List ℕ) (before : Build) (text : List ℕ) (now : Build) (rest : List ℕ) → ParamsSoFar id start before text now → text ≡ 93 ∷ rest → (pairs : List NameValue) × (HasParams id start pairs rest × (now ≡ record before { put = before.put ++ pairs }) × (length rest ≤ length start))
so_far_end id start before text now rest s e =
    let size = ap length e in
    let old = s.shorter in
    (map (param_pair id) s.done, ((s.done, (reached_end start s.done text rest s.reached e, refl)), s.set, omega arith))

pub so_far_stuck : (id start : List ℕ) (before : Build) (text : List ℕ) (now : Build) → ParamsSoFar id start before text now → ((rest : List ℕ) → ¬ (text ≡ 93 ∷ rest)) → ((param : Param) (rest : List ℕ) → ¬ IsParam text param rest) → (pairs : List NameValue) (rest : List ℕ) → ¬ HasParams id start pairs rest
so_far_stuck id start before text now s no_end no_param pairs rest = λ h. reached_stuck start s.done text s.reached no_end no_param h.0 rest h.1.0
