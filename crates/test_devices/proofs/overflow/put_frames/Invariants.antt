use Rattle.std.proofs.Common.{◌≡◌, take, drop}
use Rattle.std.specs.Prelude.{map, length}
use Rattle.sg_device.specs.Frames.{joined, total}
use Rattle.test_devices.proofs.overflow.put_frames.Given as goal

abbrev pub invariant-loop-size : goal.invariant-loop-size
invariant-loop-size l = l.rest ≡ drop (total (take l.size-index (map length l.frames))) (joined l.frames)
