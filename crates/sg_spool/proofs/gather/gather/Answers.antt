use Rattle.std.proofs.Common.{◌+◌, ◌-◌, ℕ, subst, arith, Option}
use Rattle.sg_device.specs.Disk.{EachNow}
use Rattle.sg_device.proofs.DiskCalls.{sync_preserves, sync_rests, sync_durable}
use Rattle.sg_spool.specs.Places.{AreGatesOrdered}
use Rattle.sg_spool.specs.Steps.{RingAt}
use Rattle.sg_spool.proofs.Gathering.{join_beyond, less_beyond, still_beyond, beyond_cells, stays_beyond, stays_put, ring_put}
use Rattle.sg_spool.proofs.gather.gather.Goals as goal

pub returns-in_err-copy-clause-within : goal.returns-in_err-copy-clause-within
returns-in_err-copy-clause-within g c = λ es start0.
    let ordered = subst (λ (j : Option ℕ). AreGatesOrdered j c.args.places.head c.args.places.end) c.requires.jumps c.requires.ordered in
    let start = subst (λ (j : Option ℕ). EachNow (g.D.Disk.state c.args.disk.now) (RingAt c.args.cell.now j c.args.places.head c.args.places.end es)) c.requires.jumps start0 in
    stays_beyond c.args.cell.now c.args.jump c.args.places.head c.args.places.end es ordered (g.D.Disk.state c.args.disk.now) (g.D.Disk.state c.copy.new.disk) start c.copy.ensures.images

pub returns-in_err-copy-2-clause-within : goal.returns-in_err-copy-2-clause-within
returns-in_err-copy-2-clause-within g c = λ es start0.
    let ordered = subst (λ (j : Option ℕ). AreGatesOrdered j c.args.places.head c.args.places.end) c.requires.jumps c.requires.ordered in
    let start = subst (λ (j : Option ℕ). EachNow (g.D.Disk.state c.args.disk.now) (RingAt c.args.cell.now j c.args.places.head c.args.places.end es)) c.requires.jumps start0 in
    let time2 = join_beyond (c.args.jump + 5) (g.D.Disk.state c.args.disk.now) (g.D.Disk.state c.copy.new.disk) (g.D.Disk.state c.copy-2.new.disk) c.copy.ensures.images (less_beyond (c.args.jump + 5) (c.args.jump + 5 + (c.args.jump - c.args.places.head)) (g.D.Disk.state c.copy.new.disk) (g.D.Disk.state c.copy-2.new.disk) (omega arith) c.copy-2.ensures.images) in
    stays_beyond c.args.cell.now c.args.jump c.args.places.head c.args.places.end es ordered (g.D.Disk.state c.args.disk.now) (g.D.Disk.state c.copy-2.new.disk) start time2

pub returns-in_err-sync-clause-within : goal.returns-in_err-sync-clause-within
returns-in_err-sync-clause-within g c = λ es start0.
    let ordered = subst (λ (j : Option ℕ). AreGatesOrdered j c.args.places.head c.args.places.end) c.requires.jumps c.requires.ordered in
    let start = subst (λ (j : Option ℕ). EachNow (g.D.Disk.state c.args.disk.now) (RingAt c.args.cell.now j c.args.places.head c.args.places.end es)) c.requires.jumps start0 in
    let time2 = join_beyond (c.args.jump + 5) (g.D.Disk.state c.args.disk.now) (g.D.Disk.state c.copy.new.disk) (g.D.Disk.state c.copy-2.new.disk) c.copy.ensures.images (less_beyond (c.args.jump + 5) (c.args.jump + 5 + (c.args.jump - c.args.places.head)) (g.D.Disk.state c.copy.new.disk) (g.D.Disk.state c.copy-2.new.disk) (omega arith) c.copy-2.ensures.images) in
    let keeps = sync_rests (g.D.Disk.state c.copy-2.new.disk) (g.D.Disk.state c.sync.new.self) c.sync.result c.sync.ensures.told in
    let time3 = join_beyond (c.args.jump + 5) (g.D.Disk.state c.args.disk.now) (g.D.Disk.state c.copy-2.new.disk) (g.D.Disk.state c.sync.new.self) time2 (still_beyond (c.args.jump + 5) (g.D.Disk.state c.copy-2.new.disk) (g.D.Disk.state c.sync.new.self) keeps.still) in
    stays_beyond c.args.cell.now c.args.jump c.args.places.head c.args.places.end es ordered (g.D.Disk.state c.args.disk.now) (g.D.Disk.state c.sync.new.self) start time3

pub returns-in_err-put-clause-within : goal.returns-in_err-put-clause-within
returns-in_err-put-clause-within g c = λ es start0.
    let ordered = subst (λ (j : Option ℕ). AreGatesOrdered j c.args.places.head c.args.places.end) c.requires.jumps c.requires.ordered in
    let start = subst (λ (j : Option ℕ). EachNow (g.D.Disk.state c.args.disk.now) (RingAt c.args.cell.now j c.args.places.head c.args.places.end es)) c.requires.jumps start0 in
    let time2 = join_beyond (c.args.jump + 5) (g.D.Disk.state c.args.disk.now) (g.D.Disk.state c.copy.new.disk) (g.D.Disk.state c.copy-2.new.disk) c.copy.ensures.images (less_beyond (c.args.jump + 5) (c.args.jump + 5 + (c.args.jump - c.args.places.head)) (g.D.Disk.state c.copy.new.disk) (g.D.Disk.state c.copy-2.new.disk) (omega arith) c.copy-2.ensures.images) in
    let keeps = sync_preserves (g.D.Disk.state c.copy-2.new.disk) (g.D.Disk.state c.sync.new.self) c.in_ok-sync.ensures.told in
    let time3 = join_beyond (c.args.jump + 5) (g.D.Disk.state c.args.disk.now) (g.D.Disk.state c.copy-2.new.disk) (g.D.Disk.state c.sync.new.self) time2 (still_beyond (c.args.jump + 5) (g.D.Disk.state c.copy-2.new.disk) (g.D.Disk.state c.sync.new.self) keeps.still) in
    stays_put c.args.cell.now c.args.jump c.args.places.head c.args.places.end es ordered (g.D.Disk.state c.args.disk.now) (g.D.Disk.state c.copy.new.disk) start (g.D.Disk.state c.copy-2.new.disk) (g.D.Disk.state c.sync.new.self) (g.D.Disk.state c.put.new.disk) c.in_ok-copy.ensures.copied c.in_ok-copy-2.ensures.copied keeps (sync_durable (g.D.Disk.state c.copy-2.new.disk) (g.D.Disk.state c.sync.new.self) c.in_ok-sync.ensures.told) time3 (c.args.jump + 5 - 64) (omega (arith, ordered.0, ordered.1, ordered.2)) (c.put.ensures.within c.requires.cell_open)

pub returns-clause-within : goal.returns-clause-within
returns-clause-within g c = λ es start0.
    let ordered = subst (λ (j : Option ℕ). AreGatesOrdered j c.args.places.head c.args.places.end) c.requires.jumps c.requires.ordered in
    let start = subst (λ (j : Option ℕ). EachNow (g.D.Disk.state c.args.disk.now) (RingAt c.args.cell.now j c.args.places.head c.args.places.end es)) c.requires.jumps start0 in
    let time2 = join_beyond (c.args.jump + 5) (g.D.Disk.state c.args.disk.now) (g.D.Disk.state c.copy.new.disk) (g.D.Disk.state c.copy-2.new.disk) c.copy.ensures.images (less_beyond (c.args.jump + 5) (c.args.jump + 5 + (c.args.jump - c.args.places.head)) (g.D.Disk.state c.copy.new.disk) (g.D.Disk.state c.copy-2.new.disk) (omega arith) c.copy-2.ensures.images) in
    let keeps = sync_preserves (g.D.Disk.state c.copy-2.new.disk) (g.D.Disk.state c.sync.new.self) c.in_ok-sync.ensures.told in
    let time3 = join_beyond (c.args.jump + 5) (g.D.Disk.state c.args.disk.now) (g.D.Disk.state c.copy-2.new.disk) (g.D.Disk.state c.sync.new.self) time2 (still_beyond (c.args.jump + 5) (g.D.Disk.state c.copy-2.new.disk) (g.D.Disk.state c.sync.new.self) keeps.still) in
    stays_put c.args.cell.now c.args.jump c.args.places.head c.args.places.end es ordered (g.D.Disk.state c.args.disk.now) (g.D.Disk.state c.copy.new.disk) start (g.D.Disk.state c.copy-2.new.disk) (g.D.Disk.state c.sync.new.self) (g.D.Disk.state c.put.new.disk) c.in_ok-copy.ensures.copied c.in_ok-copy-2.ensures.copied keeps (sync_durable (g.D.Disk.state c.copy-2.new.disk) (g.D.Disk.state c.sync.new.self) c.in_ok-sync.ensures.told) time3 (c.args.jump + 5 - 64) (omega (arith, ordered.0, ordered.1, ordered.2)) (c.put.ensures.within c.requires.cell_open)

pub returns-clause-ring : goal.returns-clause-ring
returns-clause-ring g c = λ es start0.
    let ordered = subst (λ (j : Option ℕ). AreGatesOrdered j c.args.places.head c.args.places.end) c.requires.jumps c.requires.ordered in
    let start = subst (λ (j : Option ℕ). EachNow (g.D.Disk.state c.args.disk.now) (RingAt c.args.cell.now j c.args.places.head c.args.places.end es)) c.requires.jumps start0 in
    let time2 = join_beyond (c.args.jump + 5) (g.D.Disk.state c.args.disk.now) (g.D.Disk.state c.copy.new.disk) (g.D.Disk.state c.copy-2.new.disk) c.copy.ensures.images (less_beyond (c.args.jump + 5) (c.args.jump + 5 + (c.args.jump - c.args.places.head)) (g.D.Disk.state c.copy.new.disk) (g.D.Disk.state c.copy-2.new.disk) (omega arith) c.copy-2.ensures.images) in
    let keeps = sync_preserves (g.D.Disk.state c.copy-2.new.disk) (g.D.Disk.state c.sync.new.self) c.in_ok-sync.ensures.told in
    let time3 = join_beyond (c.args.jump + 5) (g.D.Disk.state c.args.disk.now) (g.D.Disk.state c.copy-2.new.disk) (g.D.Disk.state c.sync.new.self) time2 (still_beyond (c.args.jump + 5) (g.D.Disk.state c.copy-2.new.disk) (g.D.Disk.state c.sync.new.self) keeps.still) in
    ring_put c.args.cell.now c.args.jump c.args.places.head c.args.places.end es ordered (g.D.Disk.state c.args.disk.now) (g.D.Disk.state c.copy.new.disk) start (g.D.Disk.state c.copy-2.new.disk) (g.D.Disk.state c.sync.new.self) (g.D.Disk.state c.put.new.disk) c.in_ok-copy.ensures.copied c.in_ok-copy-2.ensures.copied keeps (sync_durable (g.D.Disk.state c.copy-2.new.disk) (g.D.Disk.state c.sync.new.self) c.in_ok-sync.ensures.told) time3 (c.args.jump + 5 - 64) (omega (arith, ordered.0, ordered.1, ordered.2)) (c.put.ensures.within c.requires.cell_open) c.put.new.self c.in_ok-put.ensures.answer.ok (c.put.ensures.cell (c.in_ok-put.ensures.answer.closed))

pub put-requires : goal.put-requires
put-requires g c = λ open_.
    let ordered = subst (λ (j : Option ℕ). AreGatesOrdered j c.args.places.head c.args.places.end) c.requires.jumps c.requires.ordered in
    let time2 = join_beyond (c.args.jump + 5) (g.D.Disk.state c.args.disk.now) (g.D.Disk.state c.copy.new.disk) (g.D.Disk.state c.copy-2.new.disk) c.copy.ensures.images (less_beyond (c.args.jump + 5) (c.args.jump + 5 + (c.args.jump - c.args.places.head)) (g.D.Disk.state c.copy.new.disk) (g.D.Disk.state c.copy-2.new.disk) (omega arith) c.copy-2.ensures.images) in
    let keeps = sync_preserves (g.D.Disk.state c.copy-2.new.disk) (g.D.Disk.state c.sync.new.self) c.in_ok-sync.ensures.told in
    let time3 = join_beyond (c.args.jump + 5) (g.D.Disk.state c.args.disk.now) (g.D.Disk.state c.copy-2.new.disk) (g.D.Disk.state c.sync.new.self) time2 (still_beyond (c.args.jump + 5) (g.D.Disk.state c.copy-2.new.disk) (g.D.Disk.state c.sync.new.self) keeps.still) in
    beyond_cells c.args.cell.now.selector c.args.cell.now.value (c.args.jump + 5) (g.D.Disk.state c.args.disk.now) (g.D.Disk.state c.sync.new.self) (omega (arith, ordered.0, ordered.1, ordered.2)) c.requires.has_cell time3
