use Rattle.std.proofs.Common.{◌≡◌, map, take}
use Rattle.std.specs.List.{fold}
use Rattle.sg_resolve.specs.Drivers.{with_driver}
use Rattle.sg_resolve.proofs.drivers.count_calls.Given as goal

abbrev pub invariant-loop-call : goal.invariant-loop-call
invariant-loop-call l = l.count ≡ fold (with_driver l.texts) l.initial.count (map (λ call. (l.side, call)) (take l.call-index l.calls))
