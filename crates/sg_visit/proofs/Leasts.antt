-- The first fault of several things, one after another.
use Rattle.std.proofs.Common.{◌≡◌, ◌∙◌, ℕ, ◌+◌, ◌<◌, ◌≤◌, List, [], ◌∷◌, ◌++◌, length, get_or, take, Option, None, sym, ap}
use Rattle.std.specs.List.{flat_map}
use Rattle.std.proofs.lemmas.List.{take_more, take_all, flat_map_more}
use Rattle.sg_fault.specs.declared.placed.Placed.{Placed}
use Rattle.sg_fault.specs.Faults.{earlier, least}
use Rattle.sg_fault.proofs.Least.{earlier_none, earlier_grouped, least_append}
use Rattle.sg_visit.specs.Leaves.{Leaf, Leaves}
use Rattle.sg_visit.specs.Visits.{Visits}
use Rattle.sg_visit.proofs.Visiting.{visits-joined}

pub least-more : {X : Type 0} (f : X → List Placed) (xs : List X) (i : ℕ) (d : X) (first found new : Option Placed) → i < length xs → first ≡ least (flat_map f (take i xs)) → found ≡ least (f (get_or xs i d)) → new ≡ earlier first found → new ≡ least (flat_map f (take (i + 1) xs))
least-more f xs i d first found new within before here is =
    is
    ∙ (λ k. earlier (before k) (here k))
    ∙ sym (least_append (flat_map f (take i xs)) (f (get_or xs i d)))
    ∙ ap least (flat_map_more f [] (take i xs) (get_or xs i d))
    ∙ ap (λ ys. least (flat_map f ys)) (sym (take_more xs i d within))

pub least-all : {X : Type 0} (f : X → List Placed) (xs : List X) (i : ℕ) (first : Option Placed) → length xs ≤ i → first ≡ least (flat_map f (take i xs)) → first ≡ least (flat_map f xs)
least-all f xs i first past before = before ∙ ap (λ ys. least (flat_map f ys)) (take_all i xs past)

-- with the faults of more things
abbrev Finds : List Placed → Option Placed → Option Placed → Type 0
Finds faults old new = new ≡ earlier old (least faults)

finds-both : (ps qs : List Placed) (a b c : Option Placed) → Finds ps a b → Finds qs b c → Finds (ps ++ qs) a c
finds-both ps qs a b c first second =
    second
    ∙ ap (λ p. earlier p (least qs)) first
    ∙ earlier_grouped a (least ps) (least qs)
    ∙ ap (earlier a) (sym (least_append ps qs))

-- of leaves that are told one after another
pub least-visited : (faults : Leaf → List Placed) (leaves : Leaves) (first : Option Placed) → Visits (λ old leaf new. new ≡ earlier old (least (faults leaf))) leaves None first → first ≡ least (flat_map faults leaves)
least-visited faults leaves first visits = visits-joined faults Finds (λ a. sym (earlier_none a)) finds-both leaves None first visits
