use Rattle.std.proofs.Common.{◌≡◌, ◌+◌, ◌-◌, ◌≤◌, ℕ, List, ◌++◌, length, drop}
use Rattle.std.specs.Option.{option_map}
use Rattle.sg_block.specs.Values.{IsCapped, replaced}
use Rattle.sg_block.proofs.values.replace.Given as goal

abbrev pub invariant-loop-place : goal.invariant-loop-place
invariant-loop-place l =
    (l.place ≤ length l.text + 1) ×
    ((made : List ℕ) × (IsCapped l.room made l.whole.items × (replaced l.scope l.variables 0 l.text ≡ option_map (λ rest. made ++ rest) (replaced l.scope l.variables 0 (drop l.place l.text)))))

abbrev pub decreases-loop-place : goal.decreases-loop-place
decreases-loop-place l = length l.text - l.place
