use Rattle.std.proofs.Common.{◌≡◌, ◌<◌, ℕ, slice_get, Some}
use Rattle.sg_crew.specs.declared.worker.Worker.{Worker}
use Rattle.sg_crew.proofs.together.hold_to_turns.Given as goal

abbrev pub invariant-loop-worker : goal.invariant-loop-worker
invariant-loop-worker g l = (j : ℕ) (w : Worker g.row.A.Denot g.row.D.Denot) → j < l.worker-index → slice_get l.workers j ≡ Some w → 0 < w.turns
