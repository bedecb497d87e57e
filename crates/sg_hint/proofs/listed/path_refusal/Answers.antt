use Rattle.std.proofs.Common.{sym, subst}
use Rattle.sg_pattern.specs.Builds.{refusing_machine}
use Rattle.sg_hint.specs.Listed.{IsCompiled}
use Rattle.sg_hint.proofs.Positions.{compiled-by}
use Rattle.sg_hint.proofs.listed.path_refusal.Goals as goal

pub returns : goal.returns
returns c = subst (λ found. IsCompiled c.args.config.now found) (sym c.err.ensures.value)
    (compiled-by c.args.config.now (refusing_machine c.args.patterns.now.too_large) (refusing_machine c.compile.new.builder.too_large) c.compile.result
    c.compile.ensures.valid c.compile.ensures.bound c.compile.ensures.refused)
