use Rattle.std.proofs.Common.{◌≡◌, drop}
use Rattle.sg_rewrite.specs.Rewritten.{set_each}
use Rattle.sg_rewrite.proofs.groups.set_group.Given as goal

abbrev pub invariant-loop-place : goal.invariant-loop-place
invariant-loop-place l = set_each l.globs l.text (drop l.place l.message.pairs) l.changed ≡ set_each l.globs l.text l.message.pairs l.message
