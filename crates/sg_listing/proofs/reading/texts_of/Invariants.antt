use Rattle.sg_outside.specs.World.{OnlyReads}
use Rattle.sg_listing.proofs.reading.texts_of.Given as goal

abbrev pub invariant-loop-name : goal.invariant-loop-name
invariant-loop-name g l = OnlyReads (g.F.Machine.state l.initial.files) (g.F.Machine.state l.files)
