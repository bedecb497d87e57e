use Rattle.std.proofs.Common.{take, map}
use Rattle.sg_pattern.specs.Builds.{calls_by}
use Rattle.sg_table.specs.Tried.{HasTried}
use Rattle.sg_table.proofs.tried.try_all.Given as goal

abbrev pub invariant-loop-pattern : goal.invariant-loop-pattern
invariant-loop-pattern g l =
    HasTried g.B.Machine.state (calls_by g.B.Machine.state g.B.Builder.build_step) l.initial.builder l.builder (map (λ pattern. pattern.now) (take l.pattern-index l.patterns)) l.large
