use Rattle.std.proofs.Common.{◌≡◌, ◌∙◌, ℕ, List, length, ap, subst, sym, refl, arith}
use Rattle.std.specs.Prelude.{true, false}
use Rattle.sg_device.specs.Disk.{content, WhereTold}
use Rattle.sg_device.proofs.DiskCalls.{content_same, reads_as_image}
use Rattle.sg_spool.proofs.Calls.{lasts_same, lasts_trans}
use Rattle.sg_spool.specs.Places.{Remains, live}
use Rattle.sg_spool.specs.Ring.{Entries, IsList}
use Rattle.sg_spool.specs.declared.rows.Rows.{Rows}
use Rattle.sg_buffer.proofs.Walked.{IsRead, GoesOn, goes_before, ends_before, read_none, read_more, add_reason, not_empty, finds, same_size}
use Rattle.sg_buffer.proofs.looking.look.Goals as goal
use Rattle.sg_buffer.proofs.looking.look.Goals.{else-not-found-via-then-not-found+else-live-found, else-not-found-via-else-not-found}

pub loop-turn-init : goal.loop-turn-init
loop-turn-init g c = record {
  reads = record { told = refl; rows = refl; lasts = lasts_same g.D.Disk.state c.args.spool.now };
  open_ = c.requires.open;
  read = read_none (g.D.Disk.state c.args.spool.now.disk) c.args.spool.now.rows.list c.head-gate.result c.none-found.result c.none-found.ensures.heads c.none-found.ensures.size
      (λ b told payloads list. c.head-gate.ensures.remains c.requires.open b (reads_as_image (g.D.Disk.state c.args.spool.now.disk) b told) payloads list);
}

pub item-requires-clause-unstaged : goal.item-requires-clause-unstaged
item-requires-clause-unstaged g c = ap (λ (r : Rows). r.staged) c.loop-turn.invariant.reads.rows ∙ c.requires.unstaged

pub item-requires-clause-left : goal.item-requires-clause-left
item-requires-clause-left g c = λ shut b told.
    let inv = c.loop-turn.invariant in
    let told0 = sym (content_same (g.D.Disk.state c.args.spool.now.disk) (g.D.Disk.state c.loop-turn.spool.disk) inv.reads.told) ∙ told in
    let here = c.head-gate.ensures.here c.requires.open b told0 in
    let split = inv.read.split b told0 here.0 here.1 in
    (split.left, subst (λ (r : Rows). Remains b r.list.jump c.loop-turn.gate split.left r.list.end) (sym inv.reads.rows) split.remains)

pub loop-turn-preserved : goal.loop-turn-preserved
loop-turn-preserved g c =
    let l = c.loop-turn in
    let inv = l.invariant in
    let d0 = g.D.Disk.state c.args.spool.now.disk in
    let rows = c.args.spool.now.rows in
    let added = c.in_default.ensures.added in
    let answer = rw c.in-Item.is at c.in_ok-payload.ensures.answer in
    let next = rw c.in-Item.is at c.in_ok-payload.ensures.next in
    let goes = goes_before d0 (g.D.Disk.state l.spool.disk) rows l.spool.rows l.gate c.in-Item.payload.items c.in-Item.next inv.reads.told inv.reads.rows (λ b is left remains. (next b is left remains).next) in
    record {
      reads = record {
        told = c.item.ensures.reads.told ∙ inv.reads.told;
        rows = c.item.ensures.reads.rows ∙ inv.reads.rows;
        lasts = lasts_trans g.D.Disk.state c.args.spool.now l.spool c.item.new.self inv.reads.lasts c.item.ensures.reads.lasts;
      };
      open_ = answer.2;
      read = read_more d0 rows.list l._turn l.gate c.in-Item.next l.found c.add.new.found added.0 c.deref.result.now inv.read added.1 added.2
          (subst (λ (p : List ℕ). GoesOn d0 rows.list l.gate p c.in-Item.next) (sym c.deref.ensures.value) goes);
    }

pub returns-in-Err-clause-reason : goal.returns-in-Err-clause-reason
returns-in-Err-clause-reason g c =
    let l = c.loop-turn in
    let inv = l.invariant in
    let d0 = g.D.Disk.state c.args.spool.now.disk in
    let rows = c.args.spool.now.rows in
    let next = rw c.in-Item.is at c.in_ok-payload.ensures.next in
    let goes = goes_before d0 (g.D.Disk.state l.spool.disk) rows l.spool.rows l.gate c.in-Item.payload.items c.in-Item.next inv.reads.told inv.reads.rows (λ b is left remains. (next b is left remains).next) in
    add_reason d0 (g.D.Disk.state c.item.new.self.disk) rows.list l._turn l.gate c.in-Item.next l.found c.deref.result.now inv.read (subst (λ (p : List ℕ). GoesOn d0 rows.list l.gate p c.in-Item.next) (sym c.deref.ensures.value) goes)
    (λ b told. let here = c.head-gate.ensures.here c.requires.open b told in (here.0, here.1)) c.in-Err.refusal c.in-Err.ensures.reason

pub returns-in-Empty-clause-reason : goal.returns-in-Empty-clause-reason
returns-in-Empty-clause-reason g c = λ b told.
    let l = c.loop-turn in
    let inv = l.invariant in
    let d0 = g.D.Disk.state c.args.spool.now.disk in
    let next = rw c.in-Empty.is at c.in_ok-payload.ensures.next in
    let ends = ends_before d0 (g.D.Disk.state l.spool.disk) c.args.spool.now.rows l.spool.rows l.gate inv.reads.told inv.reads.rows (λ b is left remains. (next b is left remains).next) in
    absurd (not_empty d0 c.args.spool.now.rows l._turn l.gate l.found inv.read (omega (arith, c.loop-turn-test.true, c.count-turn-end.ensures.count))
    (λ b told payloads list. sym c.count-turn-end.ensures.count ∙ c.count-turn-end.ensures.list c.requires.open b (reads_as_image d0 b told) payloads list)
    (λ b told. let here = c.head-gate.ensures.here c.requires.open b told in (here.0, here.1)) ends b told)

pub returns-then-live-found-clause-reason : goal.returns-then-live-found-clause-reason
returns-then-live-found-clause-reason g c = λ b told.
    let l = c.loop-turn in
    let inv = l.invariant in
    let d0 = g.D.Disk.state c.args.spool.now.disk in
    let rows = c.args.spool.now.rows in
    let all : l._turn ≡ rows.count = omega (arith, c.loop-turn-test.false, l.auto._turn-end, c.count-turn-end.ensures.count) in
    let read = subst (λ (n : ℕ). IsRead d0 rows.list n l.gate l.found) all inv.read in
    let here = c.head-gate.ensures.here c.requires.open b told in
    let none : l.spool.rows.staged ≡ 0 = ap (λ (r : Rows). r.staged) inv.reads.rows ∙ c.requires.unstaged in
    let same = same_size d0 rows l.gate l.found read (λ b told payloads list. sym c.count-turn-end.ensures.count ∙ c.count-turn-end.ensures.list c.requires.open b (reads_as_image d0 b told) payloads list)
    c.if-not-found.true c.live.result c.live.ensures.small b told (λ payloads list. c.live.ensures.space inv.open_ none b (content_same d0 (g.D.Disk.state l.spool.disk) inv.reads.told ∙ told) payloads list) here.0 here.1 in
    absurd (c.if-live-found.true same)

pub returns-clause-found : goal.returns-clause-found
returns-clause-found g c =
    let l = c.loop-turn in
    let inv = l.invariant in
    let d0 = g.D.Disk.state c.args.spool.now.disk in
    let rows = c.args.spool.now.rows in
    let all : l._turn ≡ rows.count = omega (arith, c.loop-turn-test.false, l.auto._turn-end, c.count-turn-end.ensures.count) in
    let read = subst (λ (n : ℕ). IsRead d0 rows.list n l.gate l.found) all inv.read in
    let none : l.spool.rows.staged ≡ 0 = ap (λ (r : Rows). r.staged) inv.reads.rows ∙ c.requires.unstaged in
    let counts : WhereTold (content d0) (λ b. (payloads : Entries) → IsList payloads b → rows.count ≡ length payloads) = λ b told payloads list. sym c.count-turn-end.ensures.count ∙ c.count-turn-end.ensures.list c.requires.open b (reads_as_image d0 b told) payloads list in (
      read.entries,
      finds d0 rows l.gate l.found read counts (elim c.else-not-found.branch [
        | else-not-found-via-then-not-found+else-live-found w ↦ λ e.
            let same : live rows.list ≡ w.live.result = ap (λ (r : Rows). live r.list) (sym inv.reads.rows) ∙ sym (w.live.ensures.list none) in
            (omega (arith, same, w.live.ensures.small), same ∙ w.if-live-found.false)
        | else-not-found-via-else-not-found w ↦ λ e. absurd (let no : false ≡ true = sym e ∙ w.if-not-found.false in cc)
      ]),
    )
