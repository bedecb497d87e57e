use Rattle.std.proofs.Common.{◌≡◌, ◌++◌, true, nat_eq, sym, ap, ◌∙◌}
use Rattle.std.specs.List.{starts_with}
use Rattle.std.proofs.lemmas.Bool.{false≢true}
use Rattle.sg_r5424.proofs.RunLemmas.{begins, begins_with}
use Rattle.sg_r5424.proofs.take.take_text.Goals as goal

pub returns-then-not-begins-clause-taken : goal.returns-then-not-begins-clause-taken
returns-then-not-begins-clause-taken c = λ rest e.
    let is_text = c.as_slice.ensures ∙ e in
    false≢true (sym c.if-not-begins.true ∙ (c.begins.ensures ∙ (ap (λ t. starts_with nat_eq t c.args.front.now) is_text ∙ begins_with c.args.front.now rest)))

pub returns-clause-taken : goal.returns-clause-taken
returns-clause-taken c =
    let test : starts_with nat_eq c.args.text.now c.args.front.now ≡ true =
    ap (λ t. starts_with nat_eq t c.args.front.now) (sym c.as_slice.ensures) ∙ (sym c.begins.ensures ∙ c.if-not-begins.false) in
    begins c.args.front.now c.args.text.now test ∙ ap (λ t. c.args.front.now ++ t) (sym c.advance.ensures)
