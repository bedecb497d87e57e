use Rattle.std.proofs.Common.{◌<◌, length, arith}
use Rattle.sg_actor.specs.Rendering.{frame_by, frames_by, until}
use Rattle.sg_actor.proofs.FrameLemmas.{whole-more, stops, goes-on}
use Rattle.sg_actor.proofs.rendering.fill.Goals as goal

pub returns-then-len-ge-ENOUGH-clause-whole : goal.returns-then-len-ge-ENOUGH-clause-whole
returns-then-len-ge-ENOUGH-clause-whole c =
    let l = c.loop-message in
    whole-more l.sizes.items c.append.new.sizes.items l.bytes.items c.append.new.bytes.items (frame_by c.args.spec.now c.message-item.result) l.invariant.whole c.in_ok-append.ensures.bytes c.in_ok-append.ensures.sizes

pub returns-then-len-ge-ENOUGH-clause-frames : goal.returns-then-len-ge-ENOUGH-clause-frames
returns-then-len-ge-ENOUGH-clause-frames c =
    let l = c.loop-message in
    stops c.args.spec.now c.args.messages.now l.message-index 262144 c.message-item.result l.sizes.items c.append.new.sizes.items l.bytes.items c.append.new.bytes.items (until 262144 (frames_by c.args.spec.now c.args.messages.now))
    c.loop-message-test.true c.message-item.is l.invariant.whole l.invariant.below (omega arith) c.in_ok-append.ensures.bytes c.in_ok-append.ensures.sizes l.invariant.frames

pub loop-message-preserved : goal.loop-message-preserved
loop-message-preserved c =
    let l = c.loop-message in
    let below : length c.append.new.bytes.items < 262144 = omega arith in
    record {
      whole = whole-more l.sizes.items c.append.new.sizes.items l.bytes.items c.append.new.bytes.items (frame_by c.args.spec.now c.message-item.result) l.invariant.whole c.in_ok-append.ensures.bytes c.in_ok-append.ensures.sizes;
      below = below;
      frames = goes-on c.args.spec.now c.args.messages.now l.message-index 262144 c.message-item.result l.sizes.items c.append.new.sizes.items l.bytes.items c.append.new.bytes.items (until 262144 (frames_by c.args.spec.now c.args.messages.now))
          c.loop-message-test.true c.message-item.is l.invariant.whole below c.in_ok-append.ensures.bytes c.in_ok-append.ensures.sizes l.invariant.frames;
    }
