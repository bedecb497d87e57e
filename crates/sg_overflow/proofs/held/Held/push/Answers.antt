use Rattle.std.proofs.Common.{length, ◌+◌, subst, sym}
use Rattle.sg_overflow.specs.Held.{HasHeldRoom}
use Rattle.sg_overflow.specs.View.{Held}
use Rattle.sg_overflow.proofs.Makes.{push_sound}
use Rattle.sg_overflow.proofs.held.Held.push.Goals as goal

pub invariant_of-self : goal.invariant_of-self
invariant_of-self g c =
    let m = c.self.inside in
    let held : Held g.row.D.Denot = record { store = m.spool; memory = m.memory; limits = m.limits; stored = m.stored; behind = m.behind } in
    push_sound g.D.Disk.state m.failed held c.args.frame.now c.push.new.self c.push.result c.self.invariant
    (subst (λ (h : Held g.row.D.Denot). HasHeldRoom h (length c.args.frame.now + 6)) (sym c.self.view_is) c.requires) c.push.ensures.ok c.push.ensures.err
