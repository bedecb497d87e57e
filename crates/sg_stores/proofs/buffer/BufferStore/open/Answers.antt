use Rattle.sg_stores.proofs.LookLemmas.{looked}
use Rattle.sg_stores.proofs.buffer.BufferStore.open.Goals as goal

pub returns-in-Ok-clause-looked : goal.returns-in-Ok-clause-looked
returns-in-Ok-clause-looked g c =
    let e = c.in_ok-spool.ensures in
    looked g.D.Disk.state (g.D.Disk.state c.args.disk) c.args.capacity c.in-Ok.found c.in_ok-spool.spool c.look.new.spool e.opened.limit e.opened.rows e.synced.durable e.synced.preserves e.synced.well c.in-Ok.ensures.open e.list c.look.ensures.reads c.in-Ok.ensures.found
