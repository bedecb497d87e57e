use Rattle.std.proofs.Common.{refl}
use Rattle.test_flow.specs.Runs.{two_files}
use Rattle.test_flow.proofs.preparing.dests.Goals as goal

pub returns-in_ok-two_dests-in-Ok : goal.returns-in_ok-two_dests-in-Ok
returns-in_ok-two_dests-in-Ok c = c.in_ok-two_dests-in-Ok.ensures two_files refl
