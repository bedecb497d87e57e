-- What a search sees of one node, and of several.
use Rattle.std.proofs.Common.{◌≡◌, ◌≢◌, ℕ, ◌+◌, ◌<◌, Bool, true, false, not, cond, List, [], ◌∷◌, ◌++◌, length, get_or, set, take, refl, sym, ap, ◌∙◌, subst, inl, inr, ◌⊎◌, ⊎_elim, arith, length-append, get_or-set_same, get_or-set_other}
use Rattle.std.specs.List.{Contains, count_by}
use Rattle.std.proofs.lemmas.Bool.{true≢false, cases_eq, cases_lt}
use Rattle.std.proofs.lemmas.List.{length-set, length_push, get_or_past, take_more}
use Rattle.std.proofs.lemmas.List.Elements.{Contains-push, Contains-push_cases, Contains-append_left, Contains-append_right, Contains-append_cases}
use Rattle.std.proofs.lemmas.List.Sums.{sum_by-set}
use Rattle.sg_graph.specs.Visits.{VisitsNodes, unseen}

pub contains-none : {X : Type 0} (x : X) → Contains [] x → ⊥
contains-none x h = omega (arith, h.1)

pub contains-one : (x y : ℕ) → Contains (x ∷ []) y → x ≡ y
contains-one x y h = ⊎_elim (λ none. absurd (contains-none y none)) (λ same. same) (Contains-push_cases [] x y h)

pub marked-past : (seen : List Bool) (i : ℕ) → get_or seen i true ≡ false → i < length seen
marked-past seen i e =
    ⊎_elim (λ below. below) (λ past. absurd (true≢false (sym (get_or_past seen i true past) ∙ e))) (cases_lt i (length seen))

pub visits-none : (seen : List Bool) (waiting : List ℕ) → VisitsNodes [] seen waiting seen waiting
visits-none seen waiting = record {
  size = refl;
  all = λ i has. absurd (contains-none i has);
  stays = λ i h. h;
  only = λ i h. inl h;
  waited = λ i h. h;
  given = λ i h. inl h;
  count = refl;
}

pub visits-marked : (seen : List Bool) (waiting : List ℕ) (node : ℕ) → get_or seen node true ≡ true → VisitsNodes (node ∷ []) seen waiting seen waiting
visits-marked seen waiting node e = record {
  size = refl;
  all = λ i has. ap (λ k. get_or seen k true) (sym (contains-one node i has)) ∙ e;
  stays = λ i h. h;
  only = λ i h. inl h;
  waited = λ i h. h;
  given = λ i h. inl h;
  count = refl;
}

marks : (seen : List Bool) (node i : ℕ) → get_or seen i true ≡ true → get_or (set seen node true) i true ≡ true
marks seen node i e =
    ⊎_elim
    (λ same. ⊎_elim (λ below. ap (λ k. get_or (set seen node true) k true) same ∙ get_or-set_same seen node true true below) (λ past. get_or_past (set seen node true) i true (omega (arith, length-set seen node true, same))) (cases_lt node (length seen)))
    (λ other. get_or-set_other seen node i true true other ∙ e)
    (cases_eq i node)

marks-only : (seen : List Bool) (waiting : List ℕ) (node i : ℕ) → get_or (set seen node true) i true ≡ true → (get_or seen i true ≡ true) ⊎ (Contains (node ∷ []) i × Contains (waiting ++ node ∷ []) i)
marks-only seen waiting node i e =
    ⊎_elim
    (λ same. let P : ℕ → Type 0 = λ k. Contains (node ∷ []) k × Contains (waiting ++ node ∷ []) k in inr (subst P (sym same) (Contains-push [] node, Contains-push waiting node)))
    (λ other. inl (sym (get_or-set_other seen node i true true other) ∙ e))
    (cases_eq i node)

fewer : (seen : List Bool) (node : ℕ) → get_or seen node true ≡ false → unseen (set seen node true) + 1 ≡ unseen seen
fewer seen node e =
    let f : Bool → ℕ = λ b. cond (not b) 1 0 in
    let h = sum_by-set f seen node true true (marked-past seen node e) in
    let one : f (get_or seen node true) ≡ 1 = ap f e in
    omega (arith, h, one)

pub visits-new : (seen : List Bool) (waiting : List ℕ) (node : ℕ) → get_or seen node true ≡ false → VisitsNodes (node ∷ []) seen waiting (set seen node true) (waiting ++ node ∷ [])
visits-new seen waiting node e = record {
  size = length-set seen node true;
  all = λ i has. ap (λ k. get_or (set seen node true) k true) (sym (contains-one node i has)) ∙ get_or-set_same seen node true true (marked-past seen node e);
  stays = marks seen node;
  only = marks-only seen waiting node;
  waited = λ i h. Contains-append_left waiting (node ∷ []) i h;
  given = λ i h. Contains-append_cases waiting (node ∷ []) i h;
  count = omega (arith, fewer seen node e, length_push waiting node);
}

pub visits-pushed : (seen after : List Bool) (waiting waits : List ℕ) (node : ℕ) → get_or seen node true ≡ false → after ≡ set seen node true → waits ≡ waiting ++ node ∷ [] → VisitsNodes (node ∷ []) seen waiting after waits
visits-pushed seen after waiting waits node e marks pushes =
    let P : List Bool → Type 0 = λ s. VisitsNodes (node ∷ []) seen waiting s waits in
    let Q : List ℕ → Type 0 = λ w. VisitsNodes (node ∷ []) seen waiting (set seen node true) w in
    subst P (sym marks) (subst Q (sym pushes) (visits-new seen waiting node e))

-- some nodes, then some more
pub visits-join : (xs ys : List ℕ) (a b c : List Bool) (v w x : List ℕ) → VisitsNodes xs a v b w → VisitsNodes ys b w c x → VisitsNodes (xs ++ ys) a v c x
visits-join xs ys a b c v w x first second = record {
  size = second.size ∙ first.size;
  all = λ i has. ⊎_elim (λ left. second.stays i (first.all i left)) (λ right. second.all i right) (Contains-append_cases xs ys i has);
  stays = λ i h. second.stays i (first.stays i h);
  only = λ i h. ⊎_elim
      (λ before. ⊎_elim (λ old. inl old) (λ new. inr (Contains-append_left xs ys i new.0, second.waited i new.1)) (first.only i before))
      (λ new. inr (Contains-append_right xs ys i new.0, new.1))
      (second.only i h);
  waited = λ i h. second.waited i (first.waited i h);
  given = λ i h. ⊎_elim
      (λ before. ⊎_elim (λ old. inl old) (λ new. inr (Contains-append_left xs ys i new)) (first.given i before))
      (λ new. inr (Contains-append_right xs ys i new))
      (second.given i h);
  count = second.count ∙ first.count;
}

pub visits-more : (row : List ℕ) (k : ℕ) (a b c : List Bool) (v w x : List ℕ) → k < length row → VisitsNodes (take k row) a v b w → VisitsNodes (get_or row k 0 ∷ []) b w c x → VisitsNodes (take (k + 1) row) a v c x
visits-more row k a b c v w x within first second =
    let P : List ℕ → Type 0 = λ nodes. VisitsNodes nodes a v c x in
    subst P (sym (take_more row k 0 within)) (visits-join (take k row) (get_or row k 0 ∷ []) a b c v w x first second)
