use Rattle.std.proofs.Common.{Bor, ap, map}
use Rattle.sg_pattern.specs.declared.text.PatternText.{PatternText}
use Rattle.sg_table.specs.Patterns.{patterns_in}
use Rattle.sg_table.proofs.Ordered.{forest-tries}
use Rattle.sg_table.proofs.tried.try_forest.Goals as goal

pub returns-in-Ok-clause-tries : goal.returns-in-Ok-clause-tries
returns-in-Ok-clause-tries g c =
    forest-tries g.B.Machine.state g.B.Builder.build_step c.args.builder.now c.try_all.new.builder (patterns_in c.args.forest.now) (map (λ (x : Bor PatternText). x.now) c.in-Ok.patterns.items) _
    c.try_all.result c.in-Ok.ensures (ap (map (λ (x : Bor PatternText). x.now)) c.deref.ensures.value) c.try_all.ensures.tries
