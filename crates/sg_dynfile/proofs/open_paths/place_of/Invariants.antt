use Rattle.std.proofs.Common.{◌≡◌, ◌<◌, ℕ, ◌++◌, take, drop, get_or}
use Rattle.sg_device.specs.Paths.{without_path}
use Rattle.sg_dynfile.proofs.open_paths.place_of.Given as goal

abbrev pub invariant-loop-i : goal.invariant-loop-i
invariant-loop-i l = record {
  before : without_path l.path l.names ≡ take l.i l.names ++ without_path l.path (drop l.i l.names);
  other : (k : ℕ) → k < l.i → get_or l.names k l.path ≡ l.path → ⊥;
}
