use Rattle.std.proofs.Common.{◌≡◌, ◌++◌, map, drop}
use Rattle.sg_serve.specs.Counts.{numbers_from}
use Rattle.sg_serve.proofs.counts.failed_inlets.Given as goal

abbrev pub invariant-loop-i : goal.invariant-loop-i
invariant-loop-i g l = l.numbers ++ numbers_from l.i (drop l.i (map (λ a. a.reader.failed) l.sources)) ≡ numbers_from 0 (map (λ a. a.reader.failed) l.sources)
