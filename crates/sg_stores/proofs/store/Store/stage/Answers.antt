use Rattle.std.proofs.Common.{refl}
use Rattle.sg_stores.proofs.StageLemmas.{none-stages}
use Rattle.sg_stores.proofs.store.Store.stage.Goals as goal
use Rattle.sg_stores.proofs.store.Store.stage.Goals.{in-Position, in-Buffer}

pub returns-clause-stages : goal.returns-clause-stages
returns-clause-stages g c = elim c.match-self.branch [
  | in-Position w ↦ rw (← c.self.view_is, w.self-inside-is, w.in-Position.is) (none-stages w.in-Position.store c.args.block.now (w.in-Position.store).failed refl (rw w.in-Position.is at c.self.invariant))
  | in-Buffer w ↦ rw (← c.self.view_is, w.self-inside-is, w.in-Buffer.is) w.stage.ensures.stages
]
