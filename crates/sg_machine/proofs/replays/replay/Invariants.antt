use Rattle.std.proofs.Common.{◌≡◌, take, true}
use Rattle.sg_machine.specs.Runs.{are_legal, after_all, fresh}
use Rattle.sg_machine.specs.Running.{run_of}
use Rattle.sg_machine.proofs.replays.replay.Given as goal

abbrev pub invariant-loop-event : goal.invariant-loop-event
invariant-loop-event l = record {
  legal : are_legal (fresh l.setup) (take l.event-index l.events) ≡ true;
  at : l.run ≡ run_of (after_all (fresh l.setup) (take l.event-index l.events));
}
