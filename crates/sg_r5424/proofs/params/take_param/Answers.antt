use Rattle.std.proofs.Common.{ℕ, List, [], ◌∷◌, arith, subst}
use Rattle.sg_r5424.specs.Data.{IsSdName}
use Rattle.sg_r5424.specs.Spans.{span_text}
use Rattle.sg_r5424.proofs.ParamLemmas.{no_quote, no_value}
use Rattle.sg_r5424.proofs.SpanLemmas.{ends-front}
use Rattle.sg_r5424.proofs.params.take_param.Goals as goal

pub returns-then-not-take_text-2-clause-param : goal.returns-then-not-take_text-2-clause-param
returns-then-not-take_text-2-clause-param c = λ item whole ends.
    let text = c.args.text.now in
    let first = c.take_text.new.text in
    let second = c.take_name.new.text in
    let named = span_text item c.in-Some.name in
    let space = c.if-not-take_text.ensures.taken in
    let behind_space = ends-front item text (32 ∷ []) first space ends in
    let name = c.in-Some.ensures.name item whole behind_space in
    let shorter = name.1 in (
      no_quote text first named second space name.0 c.if-not-take_text-2.ensures.taken,
      omega (arith, shorter, c.take_text.ensures.shorter, c.take_text-2.ensures.shorter),
    )

pub returns-in_default-2-clause-param : goal.returns-in_default-2-clause-param
returns-in_default-2-clause-param c = λ item whole ends.
    let text = c.args.text.now in
    let first = c.take_text.new.text in
    let second = c.take_name.new.text in
    let named = span_text item c.in-Some.name in
    let space = c.if-not-take_text.ensures.taken in
    let behind_space = ends-front item text (32 ∷ []) first space ends in
    let name = c.in-Some.ensures.name item whole behind_space in
    let shorter = name.1 in
    let third = c.take_text-2.new.text in
    let quote = c.if-not-take_text-2.ensures.taken in
    let behind_name = ends-front item first named second name.0.is_text behind_space in
    let behind_quote = ends-front item second (61 ∷ 34 ∷ []) third quote behind_name in
    let is_name = subst (λ (x : List ℕ). IsSdName first named x) quote name.0 in
    let tried = rw c.in_default-2.is at c.in_ok-value.ensures.value in
    let never = tried item whole behind_quote in
    let left = never.1 in (
      no_value text first named third space is_name never.0,
      omega (arith, shorter, left, c.take_text.ensures.shorter, c.take_text-2.ensures.shorter),
    )

pub returns-clause-param : goal.returns-clause-param
returns-clause-param c = λ item whole ends.
    let text = c.args.text.now in
    let first = c.take_text.new.text in
    let second = c.take_name.new.text in
    let named = span_text item c.in-Some.name in
    let space = c.if-not-take_text.ensures.taken in
    let behind_space = ends-front item text (32 ∷ []) first space ends in
    let name = c.in-Some.ensures.name item whole behind_space in
    let shorter = name.1 in
    let third = c.take_text-2.new.text in
    let quote = c.if-not-take_text-2.ensures.taken in
    let behind_name = ends-front item first named second name.0.is_text behind_space in
    let behind_quote = ends-front item second (61 ∷ 34 ∷ []) third quote behind_name in
    let is_name = subst (λ (x : List ℕ). IsSdName first named x) quote name.0 in
    let tried = rw c.in-Some-2.is at c.in_ok-value.ensures.value in
    let value = tried item whole behind_quote in
    let left = value.1 in (
      record { behind = first; quoted = third; space = space; name = is_name; value = value.0 },
      omega (arith, shorter, left, c.take_text.ensures.shorter, c.take_text-2.ensures.shorter),
    )

pub take_value-requires : goal.take_value-requires
take_value-requires c = omega (arith, c.requires, c.take_text.ensures.shorter, c.take_name.ensures.shorter, c.take_text-2.ensures.shorter)
