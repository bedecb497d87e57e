use Rattle.std.proofs.Common.{◌≡◌, map, take}
use Rattle.sg_crew.specs.Looks.{look_of_source}
use Rattle.sg_crew.proofs.watch.source_looks.Given as goal

abbrev pub invariant-loop-source : goal.invariant-loop-source
invariant-loop-source g l = l.looks.items ≡ map look_of_source (take l.source-index l.sources)
