use Rattle.std.proofs.Common.{◌≤◌, ◌-◌, take, length, ap, ◌∙◌, arith}
use Rattle.std.specs.Arc.{arc_value}
use Rattle.sg_block.proofs.Lists.{take-part, length-part}
use Rattle.sg_block.proofs.part.TokenSpan.before.Goals as goal

pub returns : goal.returns
returns c =
    let all = (arc_value c.self.inside.source).tokens.items in
    let size = length-part c.self.inside.from c.self.inside.to all c.self.invariant.0 c.self.invariant.1 in
    let fits : c.args.place ≤ c.self.inside.to - c.self.inside.from = omega (arith, c.requires, size, ap length c.self.view_is) in
    take-part c.args.place c.self.inside.from c.self.inside.to all fits ∙ ap (take c.args.place) c.self.view_is
