use Rattle.std.proofs.Common.{◌≡◌, ◌+◌, ◌-◌, ℕ, List, Some, None, length, take, drop, false, refl, sym, ap, ◌∙◌, subst, arith, length-drop}
use Rattle.sg_r5424.specs.Values.{IsValue, quote_from, unescaped_from}
use Rattle.std.proofs.lemmas.List.{drop-drop}
use Rattle.sg_r5424.specs.declared.take.Span.{Span}
use Rattle.sg_r5424.specs.Spans.{TakesSpan}
use Rattle.sg_r5424.proofs.SpanLemmas.{span-said}
use Rattle.sg_r5424.proofs.ValueLemmas.{value_found, value_none}
use Rattle.sg_r5424.proofs.values.take_spelled.Goals as goal

pub returns-in_default-clause-value : goal.returns-in_default-clause-value
returns-in_default-clause-value c = λ item whole ends.
    let nowhere : quote_from false 0 c.args.text.now ≡ None = ap (quote_from false 0) (sym c.as_slice.ensures) ∙ (sym c.quote_place.ensures.value ∙ c.in_default.is) in
    (λ value rest. value_none c.args.text.now value rest nowhere, omega arith)

-- the value is the part, or what it spells
pub returns-clause-value : goal.returns-clause-value
returns-clause-value c = λ item whole ends.
    let text = c.args.text.now in
    let len = c.in-Some.place in
    let place : quote_from false 0 text ≡ Some len = ap (quote_from false 0) (sym c.as_slice.ensures) ∙ (sym c.quote_place.ensures.value ∙ c.in-Some.is) in
    let found = value_found text len place in
    let span : Span = record { from = c.args.end - c.len.result; to = c.args.end - c.len.result + len } in
    let taken : TakesSpan c.args.end text (drop len text) len span = record { from = ap (λ (n : ℕ). c.args.end - n) c.len.ensures.value; to = refl; rest = refl } in
    let said = span-said item text (drop len text) c.args.end len span whole ends taken ∙ ap (λ (t : List ℕ). take len t) (sym c.as_slice-2.ensures) in
    let value = c.in_ok-value.ensures.value item said ∙ ap (λ (t : List ℕ). unescaped_from false (take len t)) c.as_slice-2.ensures in
    let rest = c.advance.ensures ∙ sym (drop-drop 1 len text) in
    let left = subst (λ (x : List ℕ). IsValue text (unescaped_from false (take len text)) x) (sym rest) found in (
      subst (λ (x : List ℕ). IsValue text x c.advance.new.self) (sym value) left,
      omega (arith, ap length c.advance.ensures, length-drop (len + 1) text),
    )
