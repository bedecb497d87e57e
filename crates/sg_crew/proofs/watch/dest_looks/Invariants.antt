use Rattle.std.proofs.Common.{◌≡◌, ◌++◌, drop}
use Rattle.sg_crew.specs.Looks.{looks_of_dests}
use Rattle.sg_crew.proofs.watch.dest_looks.Given as goal

abbrev pub invariant-loop-d : goal.invariant-loop-d
invariant-loop-d g l = l.looks.items ++ looks_of_dests l.sources l.d (drop l.d l.dests) ≡ looks_of_dests l.sources 0 l.dests
