use Rattle.std.proofs.Common.{length}
use Rattle.test_flow.proofs.RunLemmas.{numbers}
use Rattle.test_flow.proofs.preparing.open.Goals as goal

pub open-requires-clause-numbers : goal.open-requires-clause-numbers
open-requires-clause-numbers c = numbers c.in_ok-setup.setup (length c.in_ok-disks.disks.items) c.in_ok-setup.ensures c.in_ok-disks.ensures
