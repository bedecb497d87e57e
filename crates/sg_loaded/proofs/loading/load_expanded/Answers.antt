use Rattle.std.proofs.Common.{subst}
use Rattle.sg_config.specs.Means.{Means}
use Rattle.sg_loaded.proofs.Loads.{built-loads}
use Rattle.sg_loaded.proofs.loading.load_expanded.Goals as goal

pub returns-in-Ok-clause-loads : goal.returns-in-Ok-clause-loads
returns-in-Ok-clause-loads g c =
    built-loads (g.W.Machine.state c.args.world.now) (g.W.Machine.state c.compile_config.new.builder) c.args.expanded.tokens c.args.expanded.names c.in-Ok.config c.compile_config.result
    (subst (λ t. Means t c.in-Ok.config) c.as_slice.ensures c.in-Ok.ensures) c.compile_config.ensures.builds
