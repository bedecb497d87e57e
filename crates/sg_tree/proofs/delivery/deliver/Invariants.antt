use Rattle.std.proofs.Common.{◌≡◌, ◌++◌, take}
use Rattle.sg_tree.specs.Walk.{deliveries_to}
use Rattle.sg_tree.proofs.delivery.deliver.Given as goal

abbrev pub invariant-loop-dest : goal.invariant-loop-dest
invariant-loop-dest l = l.offers.items ≡ l.initial.offers.items ++ deliveries_to (take l.dest-index l.drivers) l.message l.flow
