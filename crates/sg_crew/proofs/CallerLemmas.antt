-- Whose the calls of a part of a history are, where each stands in the list of places of one caller.
use Rattle.std.proofs.Common.{arith, ◌≡◌, ◌≤◌, ◌<◌, ◌+◌, ℕ, suc, List, [], ◌∷◌, ◌++◌, length, map, ap, sym, ◌∙◌, subst, slice_get, Some, inl, inr, length-append}
use Rattle.std.proofs.lemmas.Bool.{cases_eq}
use Rattle.sg_list.proofs.ListLemmas.{slice_get-below}
use Rattle.sg_booth.specs.Lists.{times, joined_up, Rises, entries_at}
use Rattle.sg_counter.specs.Exchanges.{Exchange, Caller, OfSource, OfDest, caller_of, same_caller, calls_by}
use Rattle.sg_turns.proofs.TurnLemmas.{same-self, other-caller}
use Rattle.sg_crew.proofs.PlaceLemmas.{find-list, EachPlace, each-at, selects}

-- the list of places of this caller
abbrev pub IsOwner : List (List ℕ) → List (List ℕ) → Caller → List ℕ → Type 0
IsOwner xss yss (OfSource i) own = slice_get xss i ≡ Some own
IsOwner xss yss (OfDest d) own = slice_get yss d ≡ Some own

abbrev pub ByCaller : Caller → List Exchange → Type 0
ByCaller who made = EachPlace (λ (x : Exchange). caller_of x.call ≡ who) made

-- the one whose list has a place
find-owner : (xss yss : List (List ℕ)) (x : ℕ) → 0 < times x (joined_up xss) + times x (joined_up yss)
    → (who : Caller) × ((own : List ℕ) × (IsOwner xss yss who own × (0 < times x own)))
find-owner xss yss x h = elim (cases_eq (times x (joined_up xss)) 0) [
  | inl none ↦ (let k = find-list yss x (omega (arith, none, h)) in (OfDest k.0, (k.1.0, (k.1.1.0, k.1.1.1))))
  | inr some ↦ (let k = find-list xss x (omega (arith, some)) in (OfSource k.0, (k.1.0, (k.1.1.0, k.1.1.1))))
]

module _ {E : Type 0} where
  pub get-behind : (start more : List E) (i : ℕ) → slice_get (start ++ more) (length start + i) ≡ slice_get more i
  get-behind [] more i = let e : 0 + i ≡ i = omega arith in ap (λ k. slice_get more k) e
  get-behind (x ∷ start) more i =
      let e : length (x ∷ start) + i ≡ suc (length start + i) = omega arith in
      ap (λ k. slice_get (x ∷ (start ++ more)) k) e ∙ get-behind start more i

  module _ (g : E → Exchange) (start more : List E) (xss yss : List (List ℕ))
      (by : (who : Caller) (own : List ℕ) → IsOwner xss yss who own → ByCaller who (map g (entries_at (start ++ more) own)))
      (covers : (x : ℕ) → length start ≤ x → x < length (start ++ more) → 0 < times x (joined_up xss) + times x (joined_up yss)) where
    -- the calls of one caller, whose list is this one or, where it isn't there, is empty
    pub calls-at : (c : Caller) (own : List ℕ) → Rises (length start) own (length (start ++ more)) → ByCaller c (map g (entries_at (start ++ more) own))
        → ((other : List ℕ) → IsOwner xss yss c other → other ≡ own)
        → calls_by c (map g more) ≡ map g (entries_at (start ++ more) own)
    calls-at c own rises mine one = selects g (λ x. same_caller c (caller_of x.call)) (start ++ more) more (length start) own (get-behind start more)
        (subst (λ high. Rises (length start) own high) (length-append start more) rises)
        (λ p e above there some.
        let is : caller_of (g e).call ≡ c = each-at g (λ (x : Exchange). caller_of x.call ≡ c) (start ++ more) own p e mine there some in
        ap (λ w. same_caller c w) is ∙ same-self c)
        (λ p e above there none.
        let found = find-owner xss yss p (covers p above (slice_get-below (start ++ more) p e there)) in
        let is : caller_of (g e).call ≡ found.0 = each-at g (λ (x : Exchange). caller_of x.call ≡ found.0) (start ++ more) found.1.0 p e (by found.0 found.1.0 found.1.1.0) there found.1.1.1 in
        let differ : c ≡ found.0 → ⊥ = (λ same.
        let own-is : found.1.0 ≡ own = one found.1.0 (subst (λ w. IsOwner xss yss w found.1.0) (sym same) found.1.1.0) in
        let some : 0 < times p own = subst (λ l. 0 < times p l) own-is found.1.1.1 in
        omega (arith, some, none)) in
        ap (λ w. same_caller c w) is ∙ other-caller found.0 c differ)
