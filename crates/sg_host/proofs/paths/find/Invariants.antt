use Rattle.std.proofs.Common.{◌≡◌, ◌++◌, take, drop}
use Rattle.sg_device.specs.Paths.{without_path}
use Rattle.sg_host.proofs.paths.find.Given as goal

abbrev pub invariant-loop-i : goal.invariant-loop-i
invariant-loop-i l = without_path l.path l.paths ≡ take l.i l.paths ++ without_path l.path (drop l.i l.paths)
