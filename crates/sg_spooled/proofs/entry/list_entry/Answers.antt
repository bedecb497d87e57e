use Rattle.sg_spooled.proofs.WalkLemmas.{entry-listed}
use Rattle.sg_spooled.proofs.entry.list_entry.Goals as goal

pub returns-then-branch-clause-lists : goal.returns-then-branch-clause-lists
returns-then-branch-clause-lists g c =
    entry-listed g.D.Disk.state c.args.spool.now c.item.new.self c.args.gate c.args.number c.in-Item.next (g.D.Disk.state c.args.spool.now.disk).faults (g.D.Disk.state c.item.new.self.disk).faults c.in-Item.payload c.in_ok-payload.field-0 c.deref.result.now
    c.args.text.now.items c.append_entry.new.text.items c.in_ok-append_entry-in-Item.field-0 c.in-Item.is c.deref.ensures.value c.in_ok-append_entry-in-Item.ensures c.if-branch.true c.in_ok-payload.ensures.answer c.in_ok-payload.ensures.next
