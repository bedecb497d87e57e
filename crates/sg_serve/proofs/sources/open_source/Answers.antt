use Rattle.std.proofs.Common.{◌∷◌, []}
use Rattle.sg_serve.specs.Devices.{inlet_asked}
use Rattle.sg_serve.specs.Rewinds.{position_at}
use Rattle.sg_serve.proofs.ActorLemmas.{opened-at-none, opened-at-refused}
use Rattle.sg_serve.proofs.sources.open_source.Goals as goal

pub returns-in_default-clause-refused : goal.returns-in_default-clause-refused
returns-in_default-clause-refused g c = opened-at-none (g.W.Machine.state c.args.world.now) (λ k. position_at c.args.core.now c.args.i) (inlet_asked c.args.once c.args.plan.now.spec ∷ [])

pub returns-in-Err-clause-refused : goal.returns-in-Err-clause-refused
returns-in-Err-clause-refused g c =
    opened-at-refused (g.W.Machine.state c.args.world.now) (g.W.Machine.state c.open_inlet.new.self) (λ k. position_at c.args.core.now c.args.i) (inlet_asked c.args.once c.args.plan.now.spec ∷ [])
    c.in-Err.refusal c.in-Err.ensures
