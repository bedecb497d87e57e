use Rattle.std.proofs.Common.{refl}
use Rattle.sg_stores.proofs.AdvanceLemmas.{none-advances}
use Rattle.sg_stores.proofs.store.Store.advance.Goals as goal
use Rattle.sg_stores.proofs.store.Store.advance.Goals.{in-Position, in-Buffer}

pub returns-clause-advances : goal.returns-clause-advances
returns-clause-advances g c = elim c.match-self.branch [
  | in-Position w ↦
      let can = rw (← c.self.view_is, w.in-Position.is) at c.requires in
      rw (← c.self.view_is, w.self-inside-is, w.in-Position.is) (none-advances w.in-Position.store c.args.n c.args.size (w.in-Position.store).failed refl can (rw w.in-Position.is at c.self.invariant))
  | in-Buffer w ↦ rw (← c.self.view_is, w.self-inside-is, w.in-Buffer.is) w.advance.ensures.advances
]
