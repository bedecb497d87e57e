use Rattle.std.proofs.Common.{◌≡◌, map, take}
use Rattle.std.specs.Prelude.{is_some}
use Rattle.sg_run.proofs.planning.files_of.Given as goal

abbrev pub invariant-loop-setup : goal.invariant-loop-setup
invariant-loop-setup l = l.files ≡ map (λ setup. is_some setup.store) (take l.setup-index l.setups)
