use Rattle.std.proofs.Common.{◌≡◌, ◌∙◌, ◌+◌, ◌<◌, ◌≤◌, ℕ, suc, length, take, drop, ap, subst, sym, refl, arith, true, false}
use Rattle.std.proofs.lemmas.List.{take_all}
use Rattle.sg_device.proofs.DiskCalls.{content_same, reads_as_image}
use Rattle.sg_spool.proofs.Calls.{lasts_same, lasts_trans}
use Rattle.sg_spool.specs.Places.{Remains}
use Rattle.sg_spool.specs.Ring.{Entries, IsList}
use Rattle.sg_spool.specs.declared.rows.Rows.{Rows}
use Rattle.sg_overflow.specs.Payload.{AreTagged, is_tagged}
use Rattle.sg_overflow.proofs.Tags.{tagged_next, untagged_at}
use Rattle.sg_overflow.proofs.Walks.{goes_before, take_next, none_left, ended}
use Rattle.sg_overflow.proofs.loading.check.Goals as goal

pub loop-turn-init : goal.loop-turn-init
loop-turn-init g c = record {
  reads = record { told = refl; rows = refl; lasts = lasts_same g.D.Disk.state c.args.spool.now };
  open_ = c.requires.open;
  there = λ b told. let here = c.head-gate.ensures.here c.requires.open b told in (here.0, here.2);
  left = λ b told entries list. c.head-gate.ensures.remains c.requires.open b (reads_as_image (g.D.Disk.state c.args.spool.now.disk) b told) entries list;
  tagged = λ b told entries list. refl;
}

pub item-requires-clause-unstaged : goal.item-requires-clause-unstaged
item-requires-clause-unstaged g c = ap (λ (r : Rows). r.staged) c.loop-turn.invariant.reads.rows ∙ c.requires.unstaged

pub item-requires-clause-left : goal.item-requires-clause-left
item-requires-clause-left g c = λ shut b told.
    let inv = c.loop-turn.invariant in
    let there = inv.there b (sym (content_same (g.D.Disk.state c.args.spool.now.disk) (g.D.Disk.state c.loop-turn.spool.disk) inv.reads.told) ∙ told) in
    (there.0, subst (λ (r : Rows). Remains b r.list.jump c.loop-turn.gate there.0 r.list.end) (sym inv.reads.rows) there.1)

pub loop-turn-preserved : goal.loop-turn-preserved
loop-turn-preserved g c =
    let l = c.loop-turn in
    let inv = l.invariant in
    let payload = c.in-Item.payload.items in
    let answer = rw c.in-Item.is at c.in_ok-payload.ensures.answer in
    let next = rw c.in-Item.is at c.in_ok-payload.ensures.next in
    let goes = goes_before (g.D.Disk.state c.args.spool.now.disk) (g.D.Disk.state l.spool.disk) c.args.spool.now.rows l.spool.rows l.gate payload c.in-Item.next inv.reads.told inv.reads.rows (λ b is left remains. (next b is left remains).next) in
    let more : suc l._turn ≡ l._turn + 1 = omega arith in
    let is : is_tagged payload ≡ true = ap is_tagged (sym c.deref.ensures.value) ∙ sym c.is_tagged.ensures ∙ c.if-not-is_tagged.false in
    record {
      reads = record {
        told = c.item.ensures.reads.told ∙ inv.reads.told;
        rows = c.item.ensures.reads.rows ∙ inv.reads.rows;
        lasts = lasts_trans g.D.Disk.state c.args.spool.now l.spool c.item.new.self inv.reads.lasts c.item.ensures.reads.lasts;
      };
      open_ = answer.2;
      there = λ b told. let there = inv.there b told in let on = goes b told there.0 there.1 in (on.0, on.2);
      left = λ b told entries list.
          let on = goes b told (drop l._turn entries) (inv.left b told entries list) in
          subst (λ (n : ℕ). Remains b c.args.spool.now.rows.list.jump c.in-Item.next (drop n entries) c.args.spool.now.rows.list.end) more
          (subst (λ (r : Entries). Remains b c.args.spool.now.rows.list.jump c.in-Item.next r c.args.spool.now.rows.list.end) (sym (take_next l._turn entries payload on.0 on.1).1) on.2);
      tagged = λ b told entries list.
          let on = goes b told (drop l._turn entries) (inv.left b told entries list) in
          subst (λ (n : ℕ). AreTagged (take n entries)) more (tagged_next l._turn entries payload on.0 (inv.tagged b told entries list) is on.1);
    }

pub returns-in-Empty-clause-reason : goal.returns-in-Empty-clause-reason
returns-in-Empty-clause-reason g c = λ b told.
    let l = c.loop-turn in
    let inv = l.invariant in
    let d0 = g.D.Disk.state c.args.spool.now.disk in
    let rows = c.args.spool.now.rows in
    let next = rw c.in-Empty.is at c.in_ok-payload.ensures.next in
    let here = c.head-gate.ensures.here c.requires.open b told in
    let counted : rows.count ≡ length here.0 = sym c.count-turn-end.ensures.count ∙ c.count-turn-end.ensures.list c.requires.open b (reads_as_image d0 b told) here.0 here.1 in
    let low : l._turn < rows.count = omega (arith, c.loop-turn-test.true, c.count-turn-end.ensures.count) in
    let all : rows.count ≤ rows.count = omega arith in
    absurd (none_left l._turn rows.count rows.count here.0 low all counted
    (ended d0 (g.D.Disk.state l.spool.disk) rows l.spool.rows l.gate b (drop l._turn here.0) inv.reads.told inv.reads.rows told (inv.left b told here.0 here.1) (λ b is left remains. (next b is left remains).next)))

pub returns-clause-frames : goal.returns-clause-frames
returns-clause-frames g c = λ b told list is.
    let l = c.loop-turn in
    let inv = l.invariant in
    let rows = c.args.spool.now.rows in
    let all : l._turn ≡ rows.count = omega (arith, c.loop-turn-test.false, l.auto._turn-end, c.count-turn-end.ensures.count) in
    let counted : rows.count ≡ length list = sym c.count-turn-end.ensures.count ∙ c.count-turn-end.ensures.list c.requires.open b (reads_as_image (g.D.Disk.state c.args.spool.now.disk) b told) list is in
    subst AreTagged (take_all l._turn list (omega (arith, all, counted))) (inv.tagged b told list is)

pub returns-then-not-is_tagged-clause-reason : goal.returns-then-not-is_tagged-clause-reason
returns-then-not-is_tagged-clause-reason g c = λ b told.
    let l = c.loop-turn in
    let inv = l.invariant in
    let payload = c.in-Item.payload.items in
    let places = c.args.spool.now.rows.list in
    let next = rw c.in-Item.is at c.in_ok-payload.ensures.next in
    let goes = goes_before (g.D.Disk.state c.args.spool.now.disk) (g.D.Disk.state l.spool.disk) c.args.spool.now.rows l.spool.rows l.gate payload c.in-Item.next inv.reads.told inv.reads.rows (λ b is left remains. (next b is left remains).next) in
    let laid = c.head-gate.ensures.laid c.requires.open b told in
    let list : IsList laid.0 b = record { jump = places.jump; head = places.head; end = places.end; laid = laid.1 } in
    let left = inv.left b told laid.0 list in
    let on = goes b told (drop l._turn laid.0) left in
    let bad : is_tagged payload ≡ false = ap is_tagged (sym c.deref.ensures.value) ∙ sym c.is_tagged.ensures ∙ c.if-not-is_tagged.true in
    untagged_at b places.jump places.head places.end l.gate l._turn laid.0 payload on.0 laid.1 left (inv.tagged b told laid.0 list) on.1 bad
