use Rattle.std.proofs.Common.{arith, length}
use Rattle.test_runs.proofs.TestLemmas.{meeting-numbers, meeting-capacities}
use Rattle.test_runs.proofs.meeting.open.Goals as goal

pub open-requires-clause-numbers : goal.open-requires-clause-numbers
open-requires-clause-numbers c = meeting-numbers c.in_ok-setup.setup (length c.args.disks.items) c.in_ok-setup.ensures (omega arith)

pub open-requires-clause-capacities : goal.open-requires-clause-capacities
open-requires-clause-capacities c = meeting-capacities c.in_ok-setup.setup c.in_ok-setup.ensures
