use Rattle.std.proofs.Common.{◌-◌}
use Rattle.sg_hint.specs.Listed.{column_at}
use Rattle.sg_hint.proofs.Positions.{spot-found}
use Rattle.sg_hint.proofs.listed.spot_of.Goals as goal

pub returns : goal.returns
returns c = spot-found c.args.list.now.tokens.items (column_at c.args.list.now.tokens.items c.args.list.now.lines.items c.args.fault.now.line)
    c.args.fault.now c.args.again.now c.spot_at.result (c.is_again.ensures.0 c.if-not-is_again.false) c.spot_at.ensures
