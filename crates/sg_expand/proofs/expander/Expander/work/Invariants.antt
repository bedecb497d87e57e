use Rattle.std.proofs.Common.{reverse}
use Rattle.sg_outside.specs.World.{OnlyReads}
use Rattle.sg_expand.specs.Bounded.{IsExpanderBounded}
use Rattle.sg_expand.specs.Expansion.{ExpansionOutcome}
use Rattle.sg_expand.specs.Machine.{state_of}
use Rattle.sg_expand.specs.Pending.{FramesLead}
use Rattle.sg_expand.proofs.expander.Expander.work.Given as goal

abbrev pub invariant-steps : goal.invariant-steps
invariant-steps g l = record {
  leads : (o : ExpansionOutcome) → FramesLead (reverse l.self.frames.items) (state_of l.self) (g.F.Machine.state l.files) o → FramesLead (reverse l.initial.self.frames.items) (state_of l.initial.self) (g.F.Machine.state l.initial.files) o;
  bounded : IsExpanderBounded l.self.frames.items l.self;
  reads : OnlyReads (g.F.Machine.state l.initial.files) (g.F.Machine.state l.files);
}
