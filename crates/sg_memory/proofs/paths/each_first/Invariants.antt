use Rattle.std.proofs.Common.{◌≡◌, ◌+◌, ◌-◌, ◌++◌, take, drop, length}
use Rattle.std.specs.Prelude.{map}
use Rattle.sg_device.specs.Frames.{joined, total}
use Rattle.sg_by_path.specs.Each.{under_places}
use Rattle.sg_memory.specs.Paths.{text_of}
use Rattle.sg_memory.proofs.paths.each_first.Given as goal

abbrev pub invariant-loop-size : goal.invariant-loop-size
invariant-loop-size l = record {
  counted : l.count ≡ l.size-index;
  rest : l.rest ≡ drop (total (take l.size-index (map length l.texts))) (joined l.texts);
  taken : map text_of l.taken.items ≡ map text_of l.fn.taken.items ++ take l.size-index (under_places l.opened l.places l.texts);
  more : length l.taken.items ≡ length l.fn.taken.items + l.size-index;
  since : length l.taken.items - length l.fn.taken.items ≡ l.size-index;
}
