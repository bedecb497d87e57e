use Rattle.std.proofs.Common.{◌∙◌}
use Rattle.sg_stores.proofs.StoreLemmas.{goes_refl, goes_put}
use Rattle.sg_stores.proofs.position.PositionStore.write.Goals as goal

pub returns-then-value-position-clause-goes : goal.returns-then-value-position-clause-goes
returns-then-value-position-clause-goes g c = goes_refl c.args.self.now

pub returns-clause-goes : goal.returns-clause-goes
returns-clause-goes g c =
    let s = c.self.inside.stable in
    rw (← c.self.view_is) (goes_put s.cell.closed c.put.new.self.cell.closed s.cell.value c.put.new.self.cell.value (g.D.Disk.state s.disk) (g.D.Disk.state c.put.new.self.disk) c.put.ensures.lasts
    (λ closed. c.put.ensures.answer.closed ∙ (c.put.ensures.stays closed).refuses))
