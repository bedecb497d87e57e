use Rattle.std.proofs.Common.{◌≡◌, ◌+◌, ℕ, List, length, take, drop, sym, ap, ◌∙◌, subst, arith}
use Rattle.std.proofs.lemmas.List.{drop-drop, length-drop}
use Rattle.sg_r5424.specs.Values.{EndsPlain, IsValue}
use Rattle.sg_r5424.proofs.SpanLemmas.{span-said}
use Rattle.sg_r5424.proofs.PlainValues.{plain_found}
use Rattle.sg_r5424.proofs.values.take_value.Goals as goal

pub returns-clause-value : goal.returns-clause-value
returns-clause-value c = λ item whole ends.
    let text = c.args.text.now in
    let place = c.in-Some.place in
    let plain = subst (λ (t : List ℕ). EndsPlain t place) c.as_slice.ensures c.in-Some.ensures in
    let taken = c.take_span-span.ensures in
    let rest : c.advance.new.self ≡ drop (place + 1) text = c.advance.ensures ∙ ap (drop 1) taken.rest ∙ drop-drop 1 place text in
    let said = span-said item text c.take_span-span.new.text c.args.end place c.take_span-span.result whole ends taken in
    let found = subst (λ (x : List ℕ). IsValue text (take place text) x) (sym rest) (plain_found text place plain) in (
      subst (λ (x : List ℕ). IsValue text x c.advance.new.self) (sym said) found,
      omega (arith, ap length rest, length-drop (place + 1) text),
    )
