-- What became of the offers of one source after another.
use Rattle.std.proofs.Common.{arith, ◌≡◌, ◌<◌, ◌+◌, ◌^◌, ℕ, List, length, take, get_or, ap}
use Rattle.std.specs.Prelude.{◌-◌, min}
use Rattle.std.proofs.lemmas.List.Sums.{sum_by_more}
use Rattle.sg_hub.specs.declared.passed.Offered.{Offered}
use Rattle.sg_crew.specs.Looks.{offered_by_both, offered_by, sum_offered, offered_by_all}
use Rattle.sg_crew.specs.declared.worker.Worker.{Worker}

sum-more : {A D : Type 0} (count : Offered → ℕ) (dest : ℕ) (ws : List (Worker A D)) (k : ℕ) (w : Worker A D) → k < length ws → w ≡ get_or ws k w
    → min (sum_offered count dest (take k ws) + count (offered_by dest w)) (2 ^ 64 - 1) ≡ sum_offered count dest (take (k + 1) ws)
sum-more {A} {D} count dest ws k w below is =
    let more = sum_by_more (λ (v : Worker A D). count (offered_by dest v)) ws k w below in
    let one : count (offered_by dest w) ≡ count (offered_by dest (get_or ws k w)) = ap (λ (v : Worker A D). count (offered_by dest v)) is in
    omega (arith, more, one)

pub offered-more : {A D : Type 0} (dest : ℕ) (ws : List (Worker A D)) (k : ℕ) (w : Worker A D) → k < length ws → w ≡ get_or ws k w
    → offered_by_both (offered_by_all dest (take k ws)) (offered_by dest w) ≡ offered_by_all dest (take (k + 1) ws)
offered-more dest ws k w below is =
    let kept = sum-more (λ (o : Offered). o.kept) dest ws k w below is in
    let full = sum-more (λ (o : Offered). o.dropped_full) dest ws k w below is in
    let disk = sum-more (λ (o : Offered). o.dropped_disk) dest ws k w below is in
    λ i. record { kept = kept i; dropped_full = full i; dropped_disk = disk i }
