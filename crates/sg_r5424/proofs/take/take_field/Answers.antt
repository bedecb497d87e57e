use Rattle.std.proofs.Common.{◌≡◌, ℕ, ◌≤◌, ◌∷◌, List, length, drop, sym, ap, ◌∙◌, subst, arith, length-drop}
use Rattle.std.specs.List.{prefix_len}
use Rattle.sg_msg.specs.Sets.{is_print}
use Rattle.sg_r5424.specs.Grammar.{IsField}
use Rattle.sg_r5424.proofs.NameLemmas.{field_len_is, field_found, field_space}
use Rattle.sg_r5424.proofs.SpanLemmas.{span-said, span-within}
use Rattle.sg_r5424.proofs.take.take_field.Goals.{then-len-eq0-via-then-len-eq0, then-len-eq0-via-else-len-eq0+then-len-most}
use Rattle.sg_r5424.proofs.take.take_field.Goals as goal

pub returns-then-len-eq0-clause-field : goal.returns-then-len-eq0-clause-field
returns-then-len-eq0-clause-field c = λ item whole ends. (
  λ field rest h.
      let found : c.print_len-len.result ≡ prefix_len is_print c.args.text.now = c.print_len-len.ensures.value ∙ ap (prefix_len is_print) c.as_slice.ensures in
      let size = field_len_is c.args.most c.args.text.now field rest h in
      let some = h.some in
      let most = h.most in
      elim c.then-len-eq0.branch [
        | then-len-eq0-via-then-len-eq0 w ↦ omega arith
        | then-len-eq0-via-else-len-eq0+then-len-most w ↦ omega arith
      ],
  omega arith,
)

pub returns-then-not-take_text-clause-field : goal.returns-then-not-take_text-clause-field
returns-then-not-take_text-clause-field c = λ item whole ends.
    let rest = c.take_span-field.ensures.rest in (
      λ field left h.
          let found : c.print_len-len.result ≡ prefix_len is_print c.args.text.now = c.print_len-len.ensures.value ∙ ap (prefix_len is_print) c.as_slice.ensures in
          c.if-not-take_text.ensures.taken left (rest ∙ field_space c.args.most c.args.text.now field left c.print_len-len.result found h),
      omega (arith, ap length rest, length-drop c.print_len-len.result c.args.text.now, c.take_text.ensures.shorter),
    )

pub returns-clause-field : goal.returns-clause-field
returns-clause-field c = λ item whole ends.
    let text = c.args.text.now in
    let len = c.print_len-len.result in
    let found : len ≡ prefix_len is_print text = c.print_len-len.ensures.value ∙ ap (prefix_len is_print) c.as_slice.ensures in
    let within : len ≤ length text = omega (arith, c.print_len-len.ensures.within, ap length c.as_slice.ensures) in
    let taken = c.take_span-field.ensures in
    let space : drop len text ≡ 32 ∷ c.take_text.new.text = sym taken.rest ∙ c.if-not-take_text.ensures.taken in
    let field = field_found c.args.most text c.take_text.new.text len found (omega arith) (omega arith) within space in
    let said = span-said item text c.take_span-field.new.text c.args.end len c.take_span-field.result whole ends taken in (
      subst (λ (x : List ℕ). IsField c.args.most text x c.take_text.new.text) (sym said) field,
      omega (arith, ap length taken.rest, length-drop len text, c.take_text.ensures.shorter),
    )

pub returns-clause-within : goal.returns-clause-within
returns-clause-within c =
    let text = c.args.text.now in
    let len = c.print_len-len.result in
    span-within text c.take_span-field.new.text c.args.end len c.take_span-field.result c.requires (omega (arith, c.print_len-len.ensures.within, ap length c.as_slice.ensures)) c.take_span-field.ensures
