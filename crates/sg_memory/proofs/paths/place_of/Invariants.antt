use Rattle.std.proofs.Common.{◌≡◌, ◌++◌, take, drop}
use Rattle.sg_device.specs.Paths.{without_path}
use Rattle.sg_memory.proofs.paths.place_of.Given as goal

abbrev pub invariant-loop-name : goal.invariant-loop-name
invariant-loop-name l = record {
  counted : l.place ≡ l.name-index;
  before : without_path l.path l.names ≡ take l.name-index l.names ++ without_path l.path (drop l.name-index l.names);
}
