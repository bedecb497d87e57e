use Rattle.std.proofs.Common.{◌-◌, ◌≡◌, ◌≤◌, ◌<◌, ◌+◌, length, drop, ℕ}
use Rattle.sg_sinks.specs.Runs.{run_from}
use Rattle.sg_sinks.proofs.runs.run_behind.Given as goal

abbrev pub invariant-loop-n : goal.invariant-loop-n
invariant-loop-n l =
    (l.n + run_from (l.most - l.n) l.room (drop (l.n + 1) l.lengths.items) ≡ run_from l.most 1048576 (drop 1 l.lengths.items))
    × (l.n ≤ l.most) × (l.n ≤ length l.lengths.items - 1)

abbrev pub decreases-loop-n : goal.decreases-loop-n
decreases-loop-n l = l.most - l.n
