use Rattle.std.proofs.Common.{◌≡◌, ◌<◌, ◌+◌, List, ℕ, true, false, [], ◌∷◌, ◌++◌, length, drop, get_or, sym, ap, ◌∙◌, arith}
use Rattle.sg_msg.specs.Message.{NameValue, with_pair, with_all}
use Rattle.sg_parsers.specs.Fields.{field_len}
use Rattle.sg_parsers.specs.Csv.{column_value}
use Rattle.sg_parsers.proofs.FieldLemmas.{behind-none, end-columns}
use Rattle.sg_parsers.proofs.columns.put_columns.Goals.{else-csv-via-then-csv+else-place-names, else-csv-via-else-csv}
use Rattle.sg_parsers.proofs.columns.put_columns.Goals as goal

pub returns-then-end-len : goal.returns-then-end-len
returns-then-end-len c =
    let csv = c.args.csv.now in
    let text = c.args.text.now in
    let at = c.loop-place.at in
    let place = c.loop-place.place in
    let name = c.index-names-place-in-loop-place.result in
    let lt : place < length csv.names = omega (arith, c.loop-place-test.true, ap length c.as_slice-names.ensures) in
    let name-is : name ≡ get_or csv.names place name = c.index-names-place-in-loop-place.is ∙ ap (λ (ns : List (List ℕ)). get_or ns place name) c.as_slice-names.ensures in
    let end-is : c.in_ok-end.end ≡ at + field_len csv.delimiters (drop at text) = c.in_ok-end.ensures.end ∙ ap (λ (d : List ℕ). at + field_len d (drop at text)) c.bytes-in-loop-place.ensures in
    let over : c.in_ok-end.end ≡ length text = omega (arith, c.if-end-len.true, c.len-in-loop-place.ensures.value) in
    let none = behind-none csv.delimiters text at c.in_ok-end.end end-is c.loop-place.invariant.within over in
    let one = end-columns csv.delimiters csv.greedy csv.names place name (drop at text) lt name-is
    (elim c.else-csv.branch [
      | else-csv-via-then-csv+else-place-names w ↦ λ g e. absurd (omega (arith, w.if-place-names.false, e, ap length c.as_slice-names.ensures))
      | else-csv-via-else-csv w ↦ λ g e. absurd (cc)
    ]) none in
    let draft = c.loop-place.draft in
    c.in_ok-end.ensures.pair ∙ ap (λ (d : List ℕ). record draft { message = record draft.message { pairs = with_pair name (column_value d false (drop at text)) draft.message.pairs } }) c.bytes-in-loop-place.ensures
    ∙ sym (ap (λ (ps : List NameValue). record draft { message = record draft.message { pairs = with_all ps draft.message.pairs } }) one) ∙ c.loop-place.invariant.made
