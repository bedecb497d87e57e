use Rattle.std.proofs.Common.{◌≡◌, ◌++◌, map, drop}
use Rattle.sg_serve.specs.Counts.{numbers_from}
use Rattle.sg_serve.proofs.counts.failed_stores.Given as goal

abbrev pub invariant-loop-s : goal.invariant-loop-s
invariant-loop-s g l = l.numbers ++ numbers_from l.s (drop l.s (map (λ s. s.failed) l.core.stores)) ≡ numbers_from 0 (map (λ s. s.failed) l.core.stores)
