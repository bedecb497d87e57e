use Rattle.std.proofs.Common.{◌++◌, ◌<◌, length, sym, ◌∙◌, arith}
use Rattle.sg_parsers.specs.Pairs.{pairs_from}
use Rattle.sg_parsers.proofs.FieldLemmas.{some_len}
use Rattle.sg_parsers.proofs.PairLemmas.{front-on}
use Rattle.sg_parsers.proofs.pairs.push_pairs.Goals as goal

pub fronts-preserved : goal.fronts-preserved
fronts-preserved c =
    let some : 0 < length c.fronts.text = omega (arith, some_len (length c.fronts.text) (sym c.is_empty.ensures ∙ c.fronts-test.true)) in
    front-on c.args.kv.now c.fronts.pairs c.take_front.new.pairs c.fronts.text c.take_front.new.text (c.args.pairs.now ++ pairs_from c.args.kv.now 0 c.args.text) some
    c.in_ok-take_front.ensures.pairs c.in_ok-take_front.ensures.rest c.fronts.invariant
