use Rattle.std.proofs.Common.{◌≡◌, drop}
use Rattle.sg_pipes.specs.Pipes.{start_of}
use Rattle.sg_pipes.proofs.pipe.first_of.Given as goal

abbrev pub invariant-loop-i : goal.invariant-loop-i
invariant-loop-i l = (start_of l.initial.tests l.other l.message ≡ start_of (drop l.i l.initial.tests) l.other l.message) × (l.tests ≡ l.initial.tests)
