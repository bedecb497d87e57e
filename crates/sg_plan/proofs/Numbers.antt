-- The numbers of one statement, one owner after another.
use Rattle.std.proofs.Common.{◌≡◌, ◌∙◌, ℕ, ◌+◌, ◌<◌, ◌≤◌, List, [], ◌∷◌, ◌++◌, length, get_or, drop, Bool, true, false, sym, ap, arith}
use Rattle.std.specs.Prelude.{cond}
use Rattle.std.specs.List.{AllByRecursion}
use Rattle.std.proofs.lemmas.List.{append_assoc, append-nil, drop_more, drop_all}
use Rattle.sg_plan.specs.declared.owner.Owner.{Owner}
use Rattle.sg_plan.specs.Owners.{same_owner, number_if, numbers_from, NumbersAreWithin}

pub numbers-more : (owners : List Owner) (i : ℕ) (one owner : Owner) (whole found new : List ℕ)
    → i < length owners → one ≡ get_or owners i one
    → whole ≡ found ++ numbers_from i (drop i owners) owner
    → new ≡ found ++ number_if i one owner
    → whole ≡ new ++ numbers_from (i + 1) (drop (i + 1) owners) owner
numbers-more owners i one owner whole found new below here before is =
    let rest : drop i owners ≡ one ∷ drop (i + 1) owners = drop_more owners i one below ∙ ap (λ (x : Owner). x ∷ drop (i + 1) owners) (sym here) in
    before
    ∙ ap (λ (os : List Owner). found ++ numbers_from i os owner) rest
    ∙ sym (append_assoc found (number_if i one owner) (numbers_from (i + 1) (drop (i + 1) owners) owner))
    ∙ ap (λ (ns : List ℕ). ns ++ numbers_from (i + 1) (drop (i + 1) owners) owner) (sym is)

pub numbers-all : (owners : List Owner) (i : ℕ) (owner : Owner) (whole found : List ℕ)
    → length owners ≤ i → whole ≡ found ++ numbers_from i (drop i owners) owner → found ≡ whole
numbers-all owners i owner whole found past before =
    sym (before ∙ ap (λ (os : List Owner). found ++ numbers_from i os owner) (drop_all i owners past) ∙ append-nil found)

one-within : (b : Bool) (number bound : ℕ) (rest : List ℕ) → number < bound → AllByRecursion (λ n. n < bound) rest → AllByRecursion (λ n. n < bound) (cond b (number ∷ []) [] ++ rest)
one-within true number bound rest below others = (below, others)
one-within false number bound rest below others = others

from-within : (number bound : ℕ) (owners : List Owner) (owner : Owner) → number + length owners ≤ bound → AllByRecursion (λ n. n < bound) (numbers_from number owners owner)
from-within number bound [] owner h = tt
from-within number bound (one ∷ owners) owner h =
    one-within (same_owner one owner) number bound (numbers_from (number + 1) owners owner) (omega arith) (from-within (number + 1) bound owners owner (omega arith))

pub are-within : NumbersAreWithin
are-within owners owner = from-within 0 (length owners) owners owner (omega arith)
