use Rattle.std.proofs.Common.{◌≡◌, ◌++◌, drop}
use Rattle.sg_pipes.specs.Chosen.{branches_for}
use Rattle.sg_pipes.proofs.work.put_offered.Given as goal

abbrev pub invariant-loop-top : goal.invariant-loop-top
invariant-loop-top l = l.offered.items ++ branches_for l.inlet (drop l.top-index l.tops) ≡ l.initial.offered.items ++ branches_for l.inlet l.tops
