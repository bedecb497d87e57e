use Rattle.sg_outside.specs.World.{OnlyReads}
use Rattle.sg_notes.proofs.included.include_note.Given as goal

abbrev pub invariant-loop-number : goal.invariant-loop-number
invariant-loop-number g l = OnlyReads (g.F.Machine.state l.initial.files) (g.F.Machine.state l.files)
