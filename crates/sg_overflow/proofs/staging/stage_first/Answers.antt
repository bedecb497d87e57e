use Rattle.std.proofs.Common.{arith}
use Rattle.sg_spool.proofs.Calls.{lasts_same, lasts_trans}
use Rattle.sg_overflow.proofs.Sizes.{size_at}
use Rattle.sg_overflow.proofs.Stagings.{staged_none, images_none, images_more, staged_more}
use Rattle.sg_overflow.proofs.staging.stage_first.Goals as goal

pub loop-place-init : goal.loop-place-init
loop-place-init g c = record {
  lasts = lasts_same g.D.Disk.state c.args.spool.now;
  images = λ list ring. images_none g.D.Disk.state c.args.spool.now c.args.memory.now list ring;
  staged = staged_none g.D.Disk.state c.args.spool.now c.args.memory.now c.requires.open c.requires.unstaged;
}

pub block_of-requires : goal.block_of-requires
block_of-requires g c =
    let fits = size_at c.args.memory.now c.loop-place.place c.in-Some.frame.now c.in-Some.ensures in
    let small = c.requires.small in
    omega (arith, fits, small)

pub returns-in-NoRoom-clause-images : goal.returns-in-NoRoom-clause-images
returns-in-NoRoom-clause-images g c = λ list ring.
    let l = c.loop-place in
    images_more g.D.Disk.state c.args.spool.now l.spool c.stage.new.self c.args.memory.now l.place c.in-Some.frame.now c.in-Some.ensures l.invariant.staged c.stage.ensures.leaves list ring (l.invariant.images list ring)

pub returns-in-DiskFailed-clause-images : goal.returns-in-DiskFailed-clause-images
returns-in-DiskFailed-clause-images g c = λ list ring.
    let l = c.loop-place in
    images_more g.D.Disk.state c.args.spool.now l.spool c.stage.new.self c.args.memory.now l.place c.in-Some.frame.now c.in-Some.ensures l.invariant.staged c.stage.ensures.leaves list ring (l.invariant.images list ring)

pub loop-place-preserved : goal.loop-place-preserved
loop-place-preserved g c =
    let l = c.loop-place in
    let disk = g.D.Disk.state in
    let answer = c.in-Done.ensures.answer in
    record {
      lasts = lasts_trans disk c.args.spool.now l.spool c.stage.new.self l.invariant.lasts c.stage.ensures.lasts;
      images = λ list ring.
          images_more disk c.args.spool.now l.spool c.stage.new.self c.args.memory.now l.place c.in-Some.frame.now c.in-Some.ensures l.invariant.staged c.stage.ensures.leaves list ring (l.invariant.images list ring);
      staged = staged_more disk c.args.spool.now l.spool c.stage.new.self c.args.memory.now l.place c.in-Some.frame.now c.in-Some.ensures l.invariant.staged c.stage.ensures.leaves
          c.in-Ok.block c.in-Ok.ensures answer.2 answer.4 answer.5;
    }
