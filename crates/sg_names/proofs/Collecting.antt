-- Parts collected one after another.
use Rattle.std.proofs.Common.{◌≡◌, ◌∙◌, List, [], ◌++◌, sym, ap}
use Rattle.std.specs.List.{flat_map}
use Rattle.std.proofs.lemmas.List.{append-nil, append_assoc}
use Rattle.sg_visit.specs.Leaves.{Leaf, Leaves}
use Rattle.sg_visit.specs.Visits.{Visits}
use Rattle.sg_visit.proofs.Visiting.{visits-joined}

pub collected : {A : Type 0} (parts : Leaf → List A) (leaves : Leaves) (first found : List A) → first ≡ [] → Visits (λ old leaf new. new ≡ old ++ parts leaf) leaves first found → found ≡ flat_map parts leaves
collected {A = A} parts leaves first found none visits =
    visits-joined parts (λ (xs old new : List A). new ≡ old ++ xs) (λ a. sym (append-nil a))
    (λ xs ys a b c one next. next ∙ ap (λ p. p ++ ys) one ∙ append_assoc a xs ys) leaves first found visits
    ∙ ap (λ (p : List A). p ++ flat_map parts leaves) none
