use Rattle.sg_outside.specs.World.{OnlyBuilds}
use Rattle.sg_pattern.specs.Builds.{RefusesNone}
use Rattle.sg_filter.specs.Work.{WorkLeads}
use Rattle.sg_filter.proofs.work.made.Given as goal

abbrev pub invariant-turns : goal.invariant-turns
invariant-turns g l = WorkLeads l.named l.expr l.work
    × OnlyBuilds (g.B.Machine.state l.initial.builder) (g.B.Machine.state l.builder)
    × RefusesNone (g.B.Machine.state l.initial.builder) (g.B.Machine.state l.builder)
