use Rattle.std.proofs.Common.{◌∙◌, ◌+◌, ◌≤◌, arith}
use Rattle.sg_device.specs.Disk.{content}
use Rattle.sg_spool.proofs.Gathering.{copied_more, join_beyond, less_beyond}
use Rattle.sg_spool.proofs.gather.copy.Goals as goal

pub loop-done-preserved : goal.loop-done-preserved
loop-done-preserved g c =
    let d0 = g.D.Disk.state c.args.disk.now in
    let d1 = g.D.Disk.state c.loop-done.disk in
    let d2 = g.D.Disk.state c.copy_piece.new.disk in
    let count = c.min-count.result in
    let range : c.loop-done.done + count ≤ c.args.size = omega (arith, c.min-count.ensures, c.loop-done-test.true) in
    let more = c.in_ok-copy_piece.ensures.inside in
    record {
      range = range;
      copied = copied_more c.args.from c.args.to c.loop-done.done count (content d0) (content d1) (content d2) (omega (arith, range, c.requires.apart)) c.loop-done.invariant.copied c.in_ok-copy_piece.ensures.copied;
      images = join_beyond c.args.to d0 d1 d2 c.loop-done.invariant.images (less_beyond c.args.to (c.args.to + c.loop-done.done) d1 d2 (omega arith) c.copy_piece.ensures.images);
      inside = λ some. omega (arith, more);
      later = omega (arith, c.loop-done.invariant.later, c.copy_piece.ensures.cause.later);
      still = c.in_ok-copy_piece.ensures.cause.well ∙ c.loop-done.invariant.still;
    }
