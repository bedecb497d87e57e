use Rattle.std.proofs.Common.{◌≡◌, drop}
use Rattle.sg_serve.specs.Overflows.{is_among}
use Rattle.sg_serve.proofs.overflows.is_among.Given as goal

abbrev pub invariant-loop-other : goal.invariant-loop-other
invariant-loop-other l = is_among l.number (drop l.other-index l.numbers) ≡ is_among l.number l.numbers
