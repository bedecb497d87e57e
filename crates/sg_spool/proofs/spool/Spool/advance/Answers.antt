use Rattle.std.proofs.Common.{◌∙◌, sym}
use Rattle.std.specs.Option.{option_map}
use Rattle.sg_device.proofs.DiskCalls.{content_same}
use Rattle.sg_spool.proofs.Calls.{advances_read, leaves_read}
use Rattle.sg_spool.specs.View.{View}
use Rattle.sg_spool.proofs.Whole.{measured}
use Rattle.sg_spool.proofs.spool.Spool.advance.Goals as goal

pub advance_over-requires-clause-sized : goal.advance_over-requires-clause-sized
advance_over-requires-clause-sized g c = λ shut b told.
    let m = c.self.inside in
    let enough = rw (← c.self.view_is) at c.requires.enough in
    measured m.cell m.rows (option_map (λ v. v.items) m.front) (g.D.Disk.state m.disk) (c.self.invariant.whole shut) c.args.n c.in-Ok.size enough
    (rw c.length_of-first.ensures at c.in-Ok.ensures.sized) b (sym (content_same (g.D.Disk.state m.disk) (g.D.Disk.state c.space_of.new.disk) c.space_of.ensures.told) ∙ told)

pub returns-in-Ok-clause-leaves : goal.returns-in-Ok-clause-leaves
returns-in-Ok-clause-leaves g c =
    rw (← c.self.view_is) (leaves_read g.D.Disk.state _ c.space_of.new.disk c.space_of.ensures.told c.space_of.ensures.cause.later c.advance_over.new.self _ c.advance_over.ensures.leaves)

pub returns-in-Ok-clause-answer : goal.returns-in-Ok-clause-answer
returns-in-Ok-clause-answer g c =
    let m = c.self.inside in
    let old : View g.row.D.Denot = record { disk = m.disk; capacity = m.capacity; rows = m.rows; front = option_map (λ v. v.items) m.front; closed = m.closed } in
    rw (← c.self.view_is) (advances_read g.D.Disk.state old c.space_of.new.disk c.space_of.ensures.told c.space_of.ensures.cause.later c.advance_over.new.self c.args.n c.advance_over.result c.advance_over.ensures.answer)
