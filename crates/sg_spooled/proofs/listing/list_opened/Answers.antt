use Rattle.std.proofs.Common.{ap, arith, Err}
use Rattle.sg_spooled.proofs.ListLemmas.{lists-walked, lists-refused}
use Rattle.sg_spooled.proofs.SalvageLemmas.{lists-on}
use Rattle.sg_spooled.proofs.listing.list_opened.Goals as goal

pub returns-in-Ok : goal.returns-in-Ok
returns-in-Ok g c =
    let state = g.W.Store.Disk.state in
    let told = g.W.Machine.state c.end-result.new.world in
    lists-on (g.W.Machine.state c.args.world.now) told (g.W.Machine.state c.salvage.new.world) (state c.args.store) (state c.into_disk-store.result) (state c.salvage.new.disk)
    c.end-result.result c.salvage.ensures.told c.salvage.ensures.later c.salvage.ensures.world
    (rw (c.into_disk-store.ensures)
    (lists-walked state c.in-Ok.spool c.walk-walked.new.spool (g.W.Machine.state c.args.world.now) (g.W.Machine.state c.walk-walked.new.world) told (state c.args.store)
    c.walk-walked.new.text.items c.walk-walked.result c.end-result.result c.in-Ok.ensures.synced.preserves (omega (arith, c.in-Ok.ensures.synced.well)) c.walk-walked.ensures c.end-result.ensures))

pub returns : goal.returns
returns g c =
    let state = g.W.Store.Disk.state in
    let told = g.W.Machine.state c.end-result-in-Err.new.world in
    lists-on (g.W.Machine.state c.args.world.now) told (g.W.Machine.state c.salvage-in-Err.new.world) (state c.args.store) (state c.in-Err.store) (state c.salvage-in-Err.new.disk)
    c.end-result-in-Err.result c.salvage-in-Err.ensures.told c.salvage-in-Err.ensures.later c.salvage-in-Err.ensures.world
    (lists-refused (g.W.Machine.state c.args.world.now) told (state c.args.store) (state c.in-Err.store) c.in-Err.refusal (Err c.unlisted.result) c.new-text.result.items
    c.end-result-in-Err.result c.in-Err.ensures.unwritten.rests c.in-Err.ensures.unwritten.later c.in-Err.ensures.reason (ap Err c.unlisted.ensures) c.new-text.ensures.items c.end-result-in-Err.ensures)
