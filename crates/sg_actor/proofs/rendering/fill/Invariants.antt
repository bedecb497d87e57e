use Rattle.std.proofs.Common.{◌≡◌, ◌++◌, ◌-◌, ◌<◌, length, drop}
use Rattle.sg_device.specs.Frames.{cut, total}
use Rattle.sg_actor.specs.Rendering.{frames_by, until}
use Rattle.sg_actor.proofs.rendering.fill.Given as goal

abbrev pub invariant-loop-message : goal.invariant-loop-message
invariant-loop-message l = record {
  whole : total l.sizes.items ≡ length l.bytes.items;
  below : length l.bytes.items < 262144;
  frames : until 262144 (frames_by l.spec l.messages) ≡ cut l.sizes.items l.bytes.items ++ until (262144 - length l.bytes.items) (frames_by l.spec (drop l.message-index l.messages));
}
