use Rattle.std.proofs.Common.{◌≡◌, ◌+◌, ◌++◌, [], ◌∷◌, drop, is_ok, arith, ap, sym, ◌∙◌}
use Rattle.std.proofs.ResultArms.{chosen}
use Rattle.std.specs.Option.{option_map}
use Rattle.sg_lex.specs.Tokens.{escape, double_quoted}
use Rattle.sg_lex.proofs.Words.{tail}
use Rattle.sg_lex.proofs.Strings.{spelled_before, double_quoted-escape, double_quoted-plain}
use Rattle.sg_lex.proofs.quoted.double_quoted.Goals as goal

pub loop-place-preserved-then-byte-eq92 : goal.loop-place-preserved-then-byte-eq92
loop-place-preserved-then-byte-eq92 c =
    let text = c.args.text.now in
    let place = c.loop-place.place in
    let pushed = chosen _ _ _ _ c.push.ensures.items (ap is_ok c.in_ok-push.was) in
    let rest = drop (place + 1) text in
    let value : c.read_escape-escape.result ≡ escape rest = c.read_escape-escape.ensures.value ∙ ap escape (tail (place + 1) text) in
    record {
      read = double_quoted-escape text c.loop-place.content.items place c.loop-place-test.true c.if-byte-eq92.true c.loop-place.invariant.read
          ∙ ap (λ e. option_map (spelled_before (c.loop-place.content.items ++ e.byte ∷ []) (place + 1 + e.count)) (double_quoted 0 (drop (place + 1 + e.count) text))) (sym value)
          ∙ ap (λ items. option_map (spelled_before items (place + 1 + c.read_escape-escape.result.count)) (double_quoted 0 (drop (place + 1 + c.read_escape-escape.result.count) text))) (sym pushed);
      bounded = omega (arith, c.read_escape-escape.ensures.bound);
    }

pub loop-place-preserved : goal.loop-place-preserved
loop-place-preserved c =
    let text = c.args.text.now in
    let place = c.loop-place.place in
    let pushed = chosen _ _ _ _ c.push-else-byte-eq92.ensures.items (ap is_ok c.in_ok-push-2.was) in
    record {
      read = double_quoted-plain text c.loop-place.content.items place c.loop-place-test.true c.if-byte-eq34.false c.if-byte-eq92.false c.loop-place.invariant.read
          ∙ ap (λ items. option_map (spelled_before items (place + 1)) (double_quoted 0 (drop (place + 1) text))) (sym pushed);
      bounded = omega arith;
    }
