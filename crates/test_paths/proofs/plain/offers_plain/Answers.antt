use Rattle.std.proofs.Common.{◌≡◌, ℕ, ℤ, List, Bool, true, false, sym, ap, ◌∙◌, subst, to_z, of_z, w64, arith}
use Rattle.std.proofs.lemmas.Int.{ints}
use Rattle.std.proofs.lemmas.Result.{IfOk-weaker}
use Rattle.sg_route.specs.Offers.{record_at}
use Rattle.sg_tree.specs.Offers.{AreOffersUnless, is_skipped, woods_of}
use Rattle.sg_tree.specs.Readings.{inlet_of, IsRecordReading}
use Rattle.test_paths.proofs.plain.offers_plain.Goals as goal

pub returns-then-is_skipped : goal.returns-then-is_skipped
returns-then-is_skipped g c =
    let inlet = inlet_of c.rule_at-rule.result.now in
    let skipped : is_skipped inlet c.args.item ≡ true = ap (is_skipped inlet) (sym c.as_slice.ensures) ∙ sym c.is_skipped.ensures ∙ c.if-is_skipped.true in
    let are = λ (b : Bool). AreOffersUnless b (woods_of c.args.forest.now) inlet c.args.inlet (record_at c.args.peer.now c.args.item c.args.at) c.new.result.items in
    (inlet, (c.rule_at-rule.ensures, subst are (sym skipped) c.new.ensures.items))

pub returns : goal.returns
returns g c =
    let same : to_z w64 (of_z w64 c.args.at) ≡ c.args.at = omega (arith, ints, c.requires.moment.0, c.requires.moment.1) in
    let inlet = inlet_of c.rule_at-rule.result.now in
    let m = c.in_ok-message.message in
    let reading = subst (λ (x : ℤ). IsRecordReading inlet c.args.item x c.args.peer.now m) same
    (subst (λ (p : List ℕ). IsRecordReading inlet c.args.item (to_z w64 (of_z w64 c.args.at)) p m) c.in_ok-peer.ensures c.in_ok-message.ensures.reading) in
    let skipped : is_skipped inlet c.args.item ≡ false = ap (is_skipped inlet) (sym c.as_slice.ensures) ∙ sym c.is_skipped.ensures ∙ c.if-is_skipped.false in
    IfOk-weaker c.offers_of.result _ _ (λ offers e.
    let are = λ (b : Bool). AreOffersUnless b (woods_of c.args.forest.now) inlet c.args.inlet (record_at c.args.peer.now c.args.item c.args.at) offers.items in
    (inlet, (c.rule_at-rule.ensures, subst are (sym skipped) (m, (reading, e))))) c.offers_of.ensures
