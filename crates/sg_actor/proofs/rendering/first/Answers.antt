use Rattle.std.proofs.Common.{sym, arith}
use Rattle.std.proofs.lemmas.List.{length-take-le, take_all}
use Rattle.sg_actor.specs.Rendering.{most_entries}
use Rattle.sg_actor.proofs.rendering.first.Goals as goal

pub slice_bounds-result-end : goal.slice_bounds-result-end
slice_bounds-result-end c = sym (length-take-le most_entries c.args.messages.now (omega arith))

pub returns-else-messages-gt-MOST : goal.returns-else-messages-gt-MOST
returns-else-messages-gt-MOST c = sym (take_all most_entries c.args.messages.now (omega arith))
