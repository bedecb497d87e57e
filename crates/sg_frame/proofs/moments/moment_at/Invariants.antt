use Rattle.std.proofs.Common.{◌≡◌, ◌<◌, ◌≤◌, ℕ}
use Rattle.std.specs.VecDeque.{deque_len}
use Rattle.sg_frame.specs.Kept.{moments, runs_end}
use Rattle.sg_frame.proofs.moments.moment_at.Given as goal

abbrev pub invariant-loop-end : goal.invariant-loop-end
invariant-loop-end l =
    (l.place < runs_end l.place l.runs.items)
    × ((from : ℕ) → l.place ≤ from → moments from l.runs.items ≡ moments from l.initial.runs.items)
    × ((from : ℕ) → l.place ≤ from → runs_end from l.runs.items ≡ runs_end from l.initial.runs.items)

abbrev pub decreases-loop-end : goal.decreases-loop-end
decreases-loop-end l = deque_len l.runs
