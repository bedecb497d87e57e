use Rattle.std.proofs.Common.{drop, take, ap, ◌∙◌}
use Rattle.sg_block.proofs.Lists.{drop-take}
use Rattle.sg_block.proofs.part.TokenSpan.between.Goals as goal

pub returns : goal.returns
returns c =
    c.behind.ensures
    ∙ ap (drop c.args.from) (c.before-2.ensures ∙ ap (take c.args.to) c.in_ok-share.ensures)
    ∙ drop-take c.args.from c.args.to c.args.self.now
