use Rattle.std.proofs.Common.{◌≡◌, drop}
use Rattle.sg_fault.specs.Faults.{earlier, least}
use Rattle.sg_options.specs.Settings.{calls_of}
use Rattle.sg_destination.specs.Buffers.{buffer_faults}
use Rattle.sg_destination.proofs.buffers.buffer_fault.Given as goal

abbrev pub invariant-loop-arg : goal.invariant-loop-arg
invariant-loop-arg l =
    least (buffer_faults (calls_of l.args)) ≡ earlier l.found (least (buffer_faults (calls_of (drop l.arg-index l.args))))
