use Rattle.std.proofs.Common.{◌≡◌, ◌∙◌, ◌+◌, ◌<◌, ◌∷◌, ◌++◌, [], ℕ, suc, List, length, take, drop, ap, subst, sym, refl, arith, Some}
use Rattle.std.proofs.lemmas.List.{length-append}
use Rattle.sg_device.specs.Disk.{content}
use Rattle.sg_device.proofs.DiskCalls.{content_same, reads_as_image}
use Rattle.sg_spool.proofs.Calls.{lasts_same, lasts_trans}
use Rattle.sg_spool.specs.Places.{Remains}
use Rattle.sg_spool.specs.Ring.{Entries, IsList}
use Rattle.sg_spool.specs.declared.rows.Rows.{Rows}
use Rattle.sg_overflow.specs.Payload.{untagged, frames_in}
use Rattle.sg_overflow.proofs.Walks.{goes_before, take_next, frame_next, none_left, ended}
use Rattle.sg_overflow.proofs.reading.read_first.Goals as goal

pub loop-turn-init : goal.loop-turn-init
loop-turn-init g c = record {
  reads = record { told = refl; rows = refl; lasts = lasts_same g.D.Disk.state c.args.spool.now };
  open_ = c.requires.open;
  number = ap length c.new-frames.ensures;
  first = λ b told entries list. c.new-frames.ensures;
  there = λ b told. let here = c.head-gate.ensures.here c.requires.open b told in (here.0, here.2);
  left = λ b told entries list. c.head-gate.ensures.remains c.requires.open b (reads_as_image (g.D.Disk.state c.args.spool.now.disk) b told) entries list;
}

pub item-requires-clause-unstaged : goal.item-requires-clause-unstaged
item-requires-clause-unstaged g c = ap (λ (r : Rows). r.staged) c.loop-turn.invariant.reads.rows ∙ c.requires.unstaged

pub item-requires-clause-left : goal.item-requires-clause-left
item-requires-clause-left g c = λ shut b told.
    let inv = c.loop-turn.invariant in
    let there = inv.there b (sym (content_same (g.D.Disk.state c.args.spool.now.disk) (g.D.Disk.state c.loop-turn.spool.disk) inv.reads.told) ∙ told) in
    (there.0, subst (λ (r : Rows). Remains b r.list.jump c.loop-turn.gate there.0 r.list.end) (sym inv.reads.rows) there.1)

pub returns-then-bytes-ge-ENOUGH-clause-frames : goal.returns-then-bytes-ge-ENOUGH-clause-frames
returns-then-bytes-ge-ENOUGH-clause-frames g c = λ b told list is.
    let inv = c.loop-turn.invariant in
    inv.first b told list is ∙ ap (λ (n : ℕ). take n (frames_in list)) (sym inv.number)

pub returns-clause-frames : goal.returns-clause-frames
returns-clause-frames g c = λ b told list is.
    let inv = c.loop-turn.invariant in
    inv.first b told list is ∙ ap (λ (n : ℕ). take n (frames_in list)) (sym inv.number)

pub loop-turn-preserved : goal.loop-turn-preserved
loop-turn-preserved g c =
    let l = c.loop-turn in
    let inv = l.invariant in
    let payload = c.in-Item.payload.items in
    let frame = c.frame_of.result.now in
    let answer = rw c.in-Item.is at c.in_ok-payload.ensures.answer in
    let next = rw c.in-Item.is at c.in_ok-payload.ensures.next in
    let goes = goes_before (g.D.Disk.state c.args.spool.now.disk) (g.D.Disk.state l.spool.disk) c.args.spool.now.rows l.spool.rows l.gate payload c.in-Item.next inv.reads.told inv.reads.rows (λ b is left remains. (next b is left remains).next) in
    let more : suc l._turn ≡ l._turn + 1 = omega arith in
    let same : frame ≡ untagged payload = c.frame_of.ensures ∙ ap untagged c.deref.ensures.value in
    let put : c.put.new.frames ≡ l.frames ++ frame ∷ [] = c.in_ok-put-in-Item.ensures in
    record {
      reads = record {
        told = c.item.ensures.reads.told ∙ inv.reads.told;
        rows = c.item.ensures.reads.rows ∙ inv.reads.rows;
        lasts = lasts_trans g.D.Disk.state c.args.spool.now l.spool c.item.new.self inv.reads.lasts c.item.ensures.reads.lasts;
      };
      open_ = answer.2;
      number = let n = inv.number in let m = ap length put in omega (arith, n, m, length-append l.frames (frame ∷ []));
      first = λ b told entries list.
          let on = goes b told (drop l._turn entries) (inv.left b told entries list) in
          put ∙ (λ i. inv.first b told entries list i ++ same i ∷ []) ∙ frame_next l._turn entries payload on.0 on.1 ∙ ap (λ (n : ℕ). take n (frames_in entries)) more;
      there = λ b told. let there = inv.there b told in let on = goes b told there.0 there.1 in (on.0, on.2);
      left = λ b told entries list.
          let on = goes b told (drop l._turn entries) (inv.left b told entries list) in
          subst (λ (n : ℕ). Remains b c.args.spool.now.rows.list.jump c.in-Item.next (drop n entries) c.args.spool.now.rows.list.end) more
          (subst (λ (r : Entries). Remains b c.args.spool.now.rows.list.jump c.in-Item.next r c.args.spool.now.rows.list.end) (sym (take_next l._turn entries payload on.0 on.1).1) on.2);
    }

pub loop-turn-preserved-in-Empty : goal.loop-turn-preserved-in-Empty
loop-turn-preserved-in-Empty g c =
    let l = c.loop-turn in
    let inv = l.invariant in
    let answer = rw c.in-Empty.is at c.in_ok-payload.ensures.answer in
    let next = rw c.in-Empty.is at c.in_ok-payload.ensures.next in
    let low : l._turn < c.args.most = omega (arith, c.loop-turn-test.true, l.auto._turn-end) in
    let none = λ (b : List ℕ) (told : content (g.D.Disk.state c.args.spool.now.disk) ≡ Some b) (entries : Entries) (list : IsList entries b).
    none_left l._turn c.args.most c.args.spool.now.rows.count entries low c.requires.enough (sym c.count-count.ensures.count ∙ c.count-count.ensures.list c.requires.open b (reads_as_image (g.D.Disk.state c.args.spool.now.disk) b told) entries list)
    (ended (g.D.Disk.state c.args.spool.now.disk) (g.D.Disk.state l.spool.disk) c.args.spool.now.rows l.spool.rows l.gate b (drop l._turn entries) inv.reads.told inv.reads.rows told (inv.left b told entries list) (λ b is left remains. (next b is left remains).next)) in
    let put : c.put-in-Empty.new.frames ≡ l.frames ++ [] ∷ [] = c.in_ok-put-in-Empty.ensures in
    record {
      reads = record {
        told = c.item.ensures.reads.told ∙ inv.reads.told;
        rows = c.item.ensures.reads.rows ∙ inv.reads.rows;
        lasts = lasts_trans g.D.Disk.state c.args.spool.now l.spool c.item.new.self inv.reads.lasts c.item.ensures.reads.lasts;
      };
      open_ = answer.2;
      number = let n = inv.number in let m = ap length put in omega (arith, n, m, length-append l.frames ([] ∷ []));
      first = λ b told entries list. absurd (none b told entries list);
      there = inv.there;
      left = λ b told entries list. absurd (none b told entries list);
    }
