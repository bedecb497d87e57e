use Rattle.std.proofs.Common.{◌≡◌, map, take}
use Rattle.sg_core.proofs.fronts.waiting_messages.Given as goal

abbrev pub invariant-loop-k : goal.invariant-loop-k
invariant-loop-k l = l.messages.items ≡ map (λ e. e.message) (take l.k l.sink.seen.entries)
