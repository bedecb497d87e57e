use Rattle.std.proofs.Common.{◌≡◌, ◌<◌, ◌+◌, ◌-◌, length, sym, ◌∙◌, arith}
use Rattle.std.proofs.lemmas.Option.{get_or_from_slice_get}
use Rattle.sg_msg.proofs.PartSearch.{part-here, part-gap, part-greater}
use Rattle.sg_msg.proofs.base.place_among.Goals as goal

-- the name stands there
pub returns-in-Equal-clause-found : goal.returns-in-Equal-clause-found
returns-in-Equal-clause-found c =
    let texts = c.args.texts.now in
    let lt : c.greater.end - 1 < length c.args.pairs.now = omega (arith, c.greater.invariant.within, c.greater-test.true) in
    let is = sym (get_or_from_slice_get c.args.pairs.now (c.greater.end - 1) c.pair_at-pair.result c.pair_at-pair.result c.pair_at-pair.ensures) in
    part-here texts.item texts.own.items c.args.name.now c.args.pairs.now (c.greater.end - 1) c.pair_at-pair.result lt is (sym c.order_text.ensures ∙ c.in-Equal.is)

-- the last smaller name stands before the place
pub returns-in-Less-clause-absent : goal.returns-in-Less-clause-absent
returns-in-Less-clause-absent c =
    let texts = c.args.texts.now in
    let lt : c.greater.end - 1 < length c.args.pairs.now = omega (arith, c.greater.invariant.within, c.greater-test.true) in
    let next : c.greater.end ≡ c.greater.end - 1 + 1 = omega (arith, c.greater-test.true) in
    let is = sym (get_or_from_slice_get c.args.pairs.now (c.greater.end - 1) c.pair_at-pair.result c.pair_at-pair.result c.pair_at-pair.ensures) in
    part-gap texts.item texts.own.items c.args.name.now c.args.pairs.now (c.greater.end - 1) c.pair_at-pair.result lt is c.greater.end next c.greater.invariant.greater c.requires (sym c.order_text.ensures ∙ c.in-Less.is)

pub greater-preserved : goal.greater-preserved
greater-preserved c =
    let texts = c.args.texts.now in
    let lt : c.greater.end - 1 < length c.args.pairs.now = omega (arith, c.greater.invariant.within, c.greater-test.true) in
    let next : c.greater.end ≡ c.greater.end - 1 + 1 = omega (arith, c.greater-test.true) in
    let is = sym (get_or_from_slice_get c.args.pairs.now (c.greater.end - 1) c.pair_at-pair.result c.pair_at-pair.result c.pair_at-pair.ensures) in
    record {
      greater = part-greater texts.item texts.own.items c.args.name.now c.args.pairs.now (c.greater.end - 1) c.pair_at-pair.result lt is c.greater.end next c.greater.invariant.greater (sym c.order_text.ensures ∙ c.in-Greater.is);
      within = omega (arith, lt);
    }
