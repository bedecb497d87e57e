use Rattle.std.proofs.Common.{◌≡◌, ◌≤◌, drop, length}
use Rattle.sg_rewrite.specs.Rewritten.{unset_each}
use Rattle.sg_rewrite.proofs.groups.unset_few.Given as goal

abbrev pub invariant-pairs : goal.invariant-pairs
invariant-pairs l = record {
  within : l.place ≤ length l.message.pairs;
  changed : l.changed ≡ unset_each l.globs (drop l.place l.message.pairs) l.message;
}

abbrev pub decreases-pairs : goal.decreases-pairs
decreases-pairs l = l.place
