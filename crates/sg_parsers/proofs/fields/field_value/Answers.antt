use Rattle.std.proofs.Common.{◌≡◌, true, false, sym, ap, ◌∙◌, arith}
use Rattle.std.specs.List.{prefix_len}
use Rattle.sg_msg.specs.Priority.{has_at}
use Rattle.sg_parsers.specs.Fields.{is_no_quote}
use Rattle.sg_parsers.proofs.FieldLemmas.{unquoted_value, quoted_field}
use Rattle.sg_parsers.proofs.fields.field_value.Goals as goal

pub returns-then-not-has_at : goal.returns-then-not-has_at
returns-then-not-has_at c =
    let test : has_at c.args.written 0 34 ≡ false = ap (λ t. has_at t 0 34) (sym c.as_slice.ensures) ∙ (sym c.has_at.ensures.value ∙ c.if-not-has_at.true) in
    sym (unquoted_value c.args.written test)

pub returns-then-len-place-le1 : goal.returns-then-len-place-le1
returns-then-len-place-le1 c =
    let test : has_at c.args.written 0 34 ≡ true = ap (λ t. has_at t 0 34) (sym c.as_slice.ensures) ∙ (sym c.has_at.ensures.value ∙ c.if-not-has_at.false) in
    quoted_field c.args.written c.in_ok-body.body c.advance.new.self c.truncate.new.self c.len.result c.quote_place-place.result test c.in_ok-body.ensures.cases c.advance.ensures
    (c.quote_place-place.ensures.value ∙ ap (prefix_len is_no_quote) c.as_slice-2.ensures) c.len.ensures.value (omega arith) c.truncate.ensures
