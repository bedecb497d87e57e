use Rattle.sg_stores.proofs.CommitLemmas.{none-commits}
use Rattle.sg_stores.proofs.store.Store.commit.Goals as goal
use Rattle.sg_stores.proofs.store.Store.commit.Goals.{in-Position, in-Buffer}

pub returns-clause-commits : goal.returns-clause-commits
returns-clause-commits g c = elim c.match-self.branch [
  | in-Position w ↦ rw (← c.self.view_is, w.self-inside-is, w.in-Position.is) (none-commits w.in-Position.store (rw w.in-Position.is at c.self.invariant))
  | in-Buffer w ↦ rw (← c.self.view_is, w.self-inside-is, w.in-Buffer.is) w.commit.ensures.commits
]
