use Rattle.sg_stores.proofs.ReadLemmas.{messages-first, stays-open, stays-closed, fault-closed, memory-open}
use Rattle.sg_stores.proofs.buffer.BufferStore.messages.Goals as goal

pub returns-in-Ok-clause-reads : goal.returns-in-Ok-clause-reads
returns-in-Ok-clause-reads g c =
    rw (← c.self.view_is, c.new.ensures) (
      (rw (← c.self.view_is) at c.requires.works),
      c.in-Ok.ensures.number,
      messages-first c.first_messages_are_kept.ensures g.D.Disk.state c.self.inside.failed c.self.inside.spool c.args.n c.in-Ok.messages.items c.in-Ok.ensures.messages,
    )

pub returns-in-Ok-clause-stays : goal.returns-in-Ok-clause-stays
returns-in-Ok-clause-stays g c = rw (← c.self.view_is) (stays-open g.D.Disk.state c.self.inside.failed c.self.inside.spool c.first_messages.new.spool c.first_messages.ensures.reads c.in-Ok.ensures.open)

pub returns-in-Err-NoMemory-clause-stays : goal.returns-in-Err-NoMemory-clause-stays
returns-in-Err-NoMemory-clause-stays g c =
    let e = c.in-Err-NoMemory in
    rw (← c.self.view_is) (stays-open g.D.Disk.state c.self.inside.failed c.self.inside.spool c.first_messages.new.spool c.first_messages.ensures.reads (memory-open (g.D.Disk.state c.self.inside.spool.disk) (g.D.Disk.state c.first_messages.new.spool.disk) c.first_messages.new.spool.closed e.field-0 e.field-0-is e.ensures.cause))

pub returns-in-Err-DiskFault-clause-stays : goal.returns-in-Err-DiskFault-clause-stays
returns-in-Err-DiskFault-clause-stays g c =
    let e = c.in-Err-DiskFault in
    let works = rw (← c.self.view_is) at c.requires.works in
    rw (← c.self.view_is) (stays-closed g.D.Disk.state c.self.inside.failed c.self.inside.spool c.first_messages.new.spool c.first_messages.ensures.reads (c.self.invariant.works works) (fault-closed (g.D.Disk.state c.self.inside.spool.disk) (g.D.Disk.state c.first_messages.new.spool.disk) c.first_messages.new.spool.closed e.field-0 e.field-0-is e.ensures.cause))
