use Rattle.std.proofs.Common.{◌≡◌, None, length}
use Rattle.sg_parse_obj.specs.Templates.{last_text}
use Rattle.sg_parse_obj.proofs.templates.last_text.Given as goal

abbrev pub invariant-loop-item : goal.invariant-loop-item
invariant-loop-item l = last_text None l.fn.items ≡ last_text None l.items

abbrev pub decreases-loop-item : goal.decreases-loop-item
decreases-loop-item l = length l.items
