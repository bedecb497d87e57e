use Rattle.std.proofs.Common.{◌≡◌, take}
use Rattle.sg_crew.specs.Looks.{offered_by_all}
use Rattle.sg_crew.proofs.watch.offered_to.Given as goal

abbrev pub invariant-loop-source : goal.invariant-loop-source
invariant-loop-source g l = l.all ≡ offered_by_all l.dest (take l.source-index l.sources)
