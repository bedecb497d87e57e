use Rattle.std.proofs.Common.{◌≡◌, ◌≤◌, ◌-◌, ◌++◌, take, drop}
use Rattle.std.specs.Prelude.{map, length}
use Rattle.sg_device.specs.Frames.{joined, total}
use Rattle.sg_overflow.proofs.keeping.push_all.Given as goal

abbrev pub invariant-loop-size : goal.invariant-loop-size
invariant-loop-size g l = record {
  rest : l.rest ≡ drop (total (take l.size-index (map length l.frames))) (joined l.frames);
  inside : l.size-index ≤ length l.frames;
  place : l.place ≡ l.size-index;
  pushed : l.held ≡ record l.initial.held { memory = l.initial.held.memory ++ take (l.size-index - l.first) (drop l.first l.frames) };
}
