use Rattle.std.proofs.Common.{◌≡◌, ◌+◌, drop}
use Rattle.sg_template.specs.Elements.{before_dot}
use Rattle.sg_template.proofs.elements.before_dot.Given as goal

abbrev pub invariant-loop-place : goal.invariant-loop-place
invariant-loop-place l = before_dot l.text ≡ before_dot (drop l.place l.text) + l.place
