use Rattle.std.proofs.Common.{drop, ap, ◌∙◌}
use Rattle.std.specs.Arc.{arc_value}
use Rattle.sg_block.proofs.Lists.{drop-part}
use Rattle.sg_block.proofs.part.TokenSpan.behind.Goals as goal

pub returns : goal.returns
returns c =
    drop-part c.args.place c.self.inside.from c.self.inside.to (arc_value c.self.inside.source).tokens.items
    ∙ ap (drop c.args.place) c.self.view_is
