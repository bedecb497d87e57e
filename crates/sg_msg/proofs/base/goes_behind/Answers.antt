use Rattle.std.proofs.Common.{◌<◌, ◌+◌, length, arith}
use Rattle.sg_msg.proofs.PartSearch.{gap-between}
use Rattle.sg_msg.proofs.base.goes_behind.Goals as goal

-- it goes between a smaller name and a greater one
pub returns : goal.returns
returns c = λ yes.
    let texts = c.args.texts.now in
    let lt : c.args.place + 1 < length c.args.pairs.now = omega (arith, c.if-place-saturating_sub.false, c.saturating_sub.ensures) in
    gap-between texts.item texts.own.items c.args.name.now c.args.pairs.now c.args.place c.pair_at-pair.result c.pair_at-next.result lt c.pair_at-pair.ensures c.pair_at-next.ensures (c.is_less.ensures yes) (c.is_greater.ensures c.if-not-is_greater.false) c.requires
