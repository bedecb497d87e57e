use Rattle.std.proofs.Common.{◌≡◌, ◌∙◌, ◌<◌, [], List, ℕ, ap, length, get_or, arith}
use Rattle.sg_memory_disk.specs.declared.disk_change.DiskChange.{DiskChange}
use Rattle.sg_memory_disk.specs.DiskChange.{event_of, events_of}
use Rattle.sg_memory_disk.specs.Pick.{replayed, pick_at}
use Rattle.sg_memory_disk.proofs.Picking.{picked_more, bytes_more, unsynced_more, picked_all, picked_image}
use Rattle.sg_memory_disk.proofs.disk.MemoryDisk.image.Goals as goal

pub loop-change-preserved : goal.loop-change-preserved
loop-change-preserved c =
    let disk = c.args.self.now in
    let i = c.loop-change.change-index in
    let same : c.deref-change-items.result.now ≡ disk.changes.items = c.deref-change-items.ensures.value in
    let long : length c.deref-change-items.result.now ≡ length disk.changes.items = ap (λ (l : List DiskChange). length l) same in
    let inside : i < length disk.changes.items = omega (arith, long) in
    let is : c.change-item.result ≡ get_or disk.changes.items i c.change-item.result = c.change-item.is ∙ ap (λ (l : List DiskChange). get_or l i c.change-item.result) same in
    record {
      picked = picked_more disk.changes.items i c.change-item.result inside is disk.first.items c.loop-change.bytes.items c.loop-change.invariant.read c.args.picks.now c.loop-change.number c.loop-change.image.items c.replay.new.image.items c.loop-change.invariant.counted c.loop-change.invariant.picked (c.in_ok-replay.ensures ∙ ap (λ (l : List ℕ). replayed (pick_at c.args.picks.now c.loop-change.number) (event_of c.change-item.result) l c.loop-change.image.items) c.deref-in-loop-change.ensures.value);
      read = bytes_more disk.changes.items i c.change-item.result inside is disk.first.items c.loop-change.bytes.items c.loop-change.invariant.read c.read_on.new.bytes.items c.in_ok-read_on.ensures;
      counted = unsynced_more disk.changes.items i c.change-item.result inside is c.loop-change.number c.number_after-number.result c.loop-change.invariant.counted c.number_after-number.ensures.counted;
      few = omega (arith, c.loop-change.invariant.few, c.number_after-number.ensures.few);
    }

pub returns-clause-picked : goal.returns-clause-picked
returns-clause-picked c =
    let disk = c.args.self.now in
    picked_all c.args.picks.now disk.first.items disk.changes.items c.loop-change.change-index c.loop-change.image.items (let long : length c.deref-change-items.result.now ≡ length disk.changes.items = ap (λ (l : List DiskChange). length l) c.deref-change-items.ensures.value in omega (arith, long)) c.loop-change.invariant.picked

pub returns-clause-image : goal.returns-clause-image
returns-clause-image c =
    let disk = c.args.self.now in
    picked_image c.args.picks.now disk.first.items (events_of [] disk.changes.items) disk.calls.faults c.loop-change.image.items
    (picked_all c.args.picks.now disk.first.items disk.changes.items c.loop-change.change-index c.loop-change.image.items (let long : length c.deref-change-items.result.now ≡ length disk.changes.items = ap (λ (l : List DiskChange). length l) c.deref-change-items.ensures.value in omega (arith, long)) c.loop-change.invariant.picked)
