use Rattle.std.proofs.Common.{◌≡◌, ◌++◌, take, drop}
use Rattle.std.specs.Prelude.{map, length}
use Rattle.sg_device.specs.Frames.{joined, total}
use Rattle.sg_memory.proofs.outlet.take_first.Given as goal

abbrev pub invariant-loop-size : goal.invariant-loop-size
invariant-loop-size l = record {
  counted : l.count ≡ l.size-index;
  rest : l.rest ≡ drop (total (take l.size-index (map length l.frames))) (joined l.frames);
  taken : l.taken ≡ l.fn.taken ++ take l.size-index l.frames;
}
