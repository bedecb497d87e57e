use Rattle.std.proofs.Common.{ℕ, List, subst, sym}
use Rattle.sg_overflow.specs.View.{Held, IsHeldSound}
use Rattle.sg_overflow.proofs.Spills.{sound_cut}
use Rattle.sg_overflow.proofs.held.Held.cut.Goals as goal

pub invariant_of-self : goal.invariant_of-self
invariant_of-self g c =
    let m = c.self.inside in
    let held : Held g.row.D.Denot = record { store = m.spool; memory = m.memory; limits = m.limits; stored = m.stored; behind = m.behind } in
    subst (λ (l : List (List ℕ)). IsHeldSound g.D.Disk.state m.failed (record held { memory = l })) (sym c.truncate.ensures)
    (sound_cut g.D.Disk.state m.failed held c.args.kept c.self.invariant)
