use Rattle.sg_overflow.proofs.Keeps.{fits_next, next_frame}
use Rattle.test_devices.proofs.overflow.put_frames.Goals as goal

pub loop-size-init : goal.loop-size-init
loop-size-init c = c.bytes-rest.ensures

pub split_at-requires : goal.split_at-requires
split_at-requires c =
    fits_next c.args.frames.now c.sizes-size-items.result.now c.loop-size.rest.now c.loop-size.size-index c.sizes-size-items.ensures c.loop-size-test.true c.loop-size.invariant

pub loop-size-preserved : goal.loop-size-preserved
loop-size-preserved c =
    (next_frame c.args.frames.now c.sizes-size-items.result.now c.loop-size.rest.now c.split_at.result.0.now c.split_at.result.1.now c.loop-size.size-index c.sizes-size-items.ensures c.loop-size-test.true c.loop-size.invariant
    c.split_at.ensures.front c.split_at.ensures.back).2
