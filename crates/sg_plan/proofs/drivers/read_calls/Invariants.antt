use Rattle.std.proofs.Common.{take}
use Rattle.sg_plan.specs.Owned.{calls_at}
use Rattle.sg_plan.specs.Reading.{ReadsDrivers}
use Rattle.sg_plan.proofs.drivers.read_calls.Given as goal

abbrev pub invariant-loop-call : goal.invariant-loop-call
invariant-loop-call l = ReadsDrivers l.globals (calls_at l.inline l.name l.side (take l.call-index l.calls)) l.initial.found.items l.found.items
