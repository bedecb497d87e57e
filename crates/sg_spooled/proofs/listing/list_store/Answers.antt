use Rattle.sg_spooled.proofs.ListLemmas.{spools-named}
use Rattle.sg_spooled.proofs.listing.list_store.Goals as goal

pub returns-in-Ok : goal.returns-in-Ok
returns-in-Ok g c =
    spools-named (g.W.Machine.state c.args.world.now) (g.W.Machine.state c.open_store.new.self) (g.W.Machine.state c.list_opened-store.new.world) (g.W.Machine.state c.close_store.new.self) c.args.file.now c.in_ok-new.field-0
    (g.W.Store.Disk.state c.in-Ok.store) (g.W.Store.Disk.state c.list_opened-store.result.0) c.list_opened-store.result.1 c.in_ok-new.ensures c.in-Ok.ensures c.list_opened-store.ensures c.close_store.ensures
