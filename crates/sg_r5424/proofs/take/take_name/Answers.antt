use Rattle.std.proofs.Common.{◌≡◌, ℕ, ◌≤◌, List, length, take, sym, ap, ◌∙◌, subst, arith, length-drop}
use Rattle.std.specs.List.{prefix_len}
use Rattle.sg_r5424.specs.Data.{IsSdName}
use Rattle.sg_r5424.proofs.NameLemmas.{name_len_is, name_found}
use Rattle.sg_r5424.proofs.SpanLemmas.{span-said, span-within}
use Rattle.sg_r5424.proofs.take.take_name.Goals.{then-len-eq0-via-then-len-eq0, then-len-eq0-via-else-len-eq0+then-len-gt32}
use Rattle.sg_msg.specs.Sets.{is_sd_byte}
use Rattle.sg_r5424.proofs.take.take_name.Goals as goal

pub returns-then-len-eq0-clause-name : goal.returns-then-len-eq0-clause-name
returns-then-len-eq0-clause-name c = λ item whole ends. (
  λ name rest h.
      let found : c.name_len-len.result ≡ prefix_len is_sd_byte c.args.text.now = c.name_len-len.ensures.value ∙ ap (prefix_len is_sd_byte) c.as_slice.ensures in
      let size = name_len_is c.args.text.now name rest h in
      let some = h.some in
      let most = h.most in
      elim c.then-len-eq0.branch [
        | then-len-eq0-via-then-len-eq0 w ↦ omega arith
        | then-len-eq0-via-else-len-eq0+then-len-gt32 w ↦ omega arith
      ],
  omega arith,
)

pub returns-clause-name : goal.returns-clause-name
returns-clause-name c = λ item whole ends.
    let text = c.args.text.now in
    let len = c.name_len-len.result in
    let found : len ≡ prefix_len is_sd_byte text = c.name_len-len.ensures.value ∙ ap (prefix_len is_sd_byte) c.as_slice.ensures in
    let within : len ≤ length text = omega (arith, c.name_len-len.ensures.within, ap length c.as_slice.ensures) in
    let name = name_found text len found (omega arith) (omega arith) within in
    let taken = c.take_span.ensures in
    let left = subst (λ (x : List ℕ). IsSdName text (take len text) x) (sym taken.rest) name in
    let said = span-said item text c.take_span.new.text c.args.end len c.take_span.result whole ends taken in (
      subst (λ (x : List ℕ). IsSdName text x c.take_span.new.text) (sym said) left,
      omega (arith, ap length taken.rest, length-drop len text),
    )

pub returns-clause-within : goal.returns-clause-within
returns-clause-within c =
    let text = c.args.text.now in
    let len = c.name_len-len.result in
    span-within text c.take_span.new.text c.args.end len c.take_span.result c.requires (omega (arith, c.name_len-len.ensures.within, ap length c.as_slice.ensures)) c.take_span.ensures
