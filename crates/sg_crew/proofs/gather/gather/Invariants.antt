use Rattle.std.proofs.Common.{◌≡◌, ◌≤◌, ◌<◌, ℕ, true, take, slice_get, Some}
use Rattle.std.specs.Prelude.{not, is_some, ◌*◌}
use Rattle.sg_crew.specs.Crews.{any, HasGathered}
use Rattle.sg_crew.specs.Workers.{seats_of, turns_of, busy_sum, HasStayed}
use Rattle.sg_crew.proofs.ListLemmas.{ChangedFirst}
use Rattle.sg_crew.proofs.gather.gather.Given as goal

abbrev pub invariant-loop-i : goal.invariant-loop-i
invariant-loop-i g l = record {
  gathered : HasGathered l.initial.first (seats_of (take l.i l.initial.workers.items)) l.first;
  workers : ChangedFirst HasStayed l.initial.workers.items l.workers.items l.i;
  even : l.part.even ≡ true → (j : ℕ) (w : _) → j < l.i → slice_get l.initial.workers.items j ≡ Some w → w.turns ≡ l.fn.rounds;
  busy : l.part.busy ≡ busy_sum (take l.i l.initial.workers.items);
  few : l.part.busy ≤ 256 * l.i;
  starved : l.part.starved ≡ any (λ turn. not (is_some turn)) (turns_of (take l.i l.initial.workers.items));
}
