use Rattle.std.proofs.Common.{◌≡◌, ◌+◌, drop, true, false, sym, ap, ◌∙◌, arith, length-drop}
use Rattle.sg_parsers.specs.declared.fields.FieldPosition.TheVariants.{Plain}
use Rattle.sg_parsers.specs.Fields.{len_from, field_len, opens, through_quote}
use Rattle.sg_parsers.proofs.RunLemmas.{front-quoted, tail, opens-some, quoted-over, quoted-ends, quoted-more}
use Rattle.sg_parsers.proofs.fields.quoted_len.Goals as goal

pub quotes-init : goal.quotes-init
quotes-init c = record {
  passed = sym (front-quoted c.args.delimiters.now c.args.text.now c.requires);
  within = opens-some c.args.delimiters.now c.args.text.now c.requires;
}

pub returns-then-not-opens-clause-value : goal.returns-then-not-opens-clause-value
returns-then-not-opens-clause-value c =
    let delimiters = c.args.delimiters.now in
    let text = c.args.text.now in
    let len = c.quotes.len in
    let n = c.through_quote-len.result in
    let n-is : n ≡ through_quote (drop len text) = c.through_quote-len.ensures.value ∙ ap through_quote (tail len text) in
    let none : opens delimiters (drop (len + n) text) ≡ false = sym (ap (opens delimiters) (tail (len + n) text)) ∙ sym c.opens.ensures.value ∙ c.if-not-opens.true in
    quoted-ends delimiters text len n c.plain_len.result (field_len delimiters text) c.quotes.invariant.passed n-is none
    (c.plain_len.ensures.value ∙ ap (len_from delimiters Plain) (tail (len + n) text))

pub quotes-preserved : goal.quotes-preserved
quotes-preserved c =
    let delimiters = c.args.delimiters.now in
    let text = c.args.text.now in
    let len = c.quotes.len in
    let n = c.through_quote-len.result in
    let n-is : n ≡ through_quote (drop len text) = c.through_quote-len.ensures.value ∙ ap through_quote (tail len text) in
    let is : opens delimiters (drop (len + n) text) ≡ true = sym (ap (opens delimiters) (tail (len + n) text)) ∙ sym c.opens.ensures.value ∙ c.if-not-opens.false in
    record {
      passed = quoted-more delimiters text len n (field_len delimiters text) c.quotes.invariant.passed n-is is;
      within = omega (arith, opens-some delimiters (drop (len + n) text) is, length-drop (len + n) text);
    }

pub returns-clause-value : goal.returns-clause-value
returns-clause-value c =
    quoted-over c.args.delimiters.now c.args.text.now c.quotes.len (field_len c.args.delimiters.now c.args.text.now) c.quotes.invariant.passed c.quotes.invariant.within c.quotes-test.false
