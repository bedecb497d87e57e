use Rattle.std.proofs.Common.{◌≡◌, ◌++◌, take}
use Rattle.sg_hub.specs.Counts.{dests_of}
use Rattle.sg_hub.proofs.passed.list_dests.Given as goal

abbrev pub invariant-loop-record : goal.invariant-loop-record
invariant-loop-record l = l.dests.items ≡ l.fn.dests.items ++ dests_of (take l.record-index l.records)
