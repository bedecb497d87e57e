use Rattle.std.proofs.Common.{refl}
use Rattle.test_runs.specs.Runs.{meeting}
use Rattle.test_runs.proofs.meeting.dests.Goals as goal

pub returns-in_ok-two_dests-in-Ok : goal.returns-in_ok-two_dests-in-Ok
returns-in_ok-two_dests-in-Ok g c = c.in_ok-two_dests-in-Ok.ensures meeting refl
