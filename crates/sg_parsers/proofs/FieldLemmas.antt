-- Fields: what they say, and what stands behind them.
use Rattle.std.proofs.Common.{◌≡◌, ℕ, zero, suc, ◌+◌, ◌-◌, ◌≤◌, ◌<◌, Bool, true, false, nat_eq, nat_lt, cond, ◌&&◌, get_or, List, [], ◌∷◌, length, take, drop, Option, Some, None, refl, sym, ap, ◌∙◌, arith, length-drop}
use Rattle.std.specs.List.{prefix_len}
use Rattle.std.proofs.lemmas.Bool.{true≢false, false≢true, lt-ltb, le-ltb, eqb-true}
use Rattle.std.proofs.lemmas.List.{drop-drop}
use Rattle.sg_parsers.specs.Csv.{behind_field, column_value, column_pairs}
use Rattle.sg_msg.specs.Message.{NameValue}
use Rattle.sg_msg.specs.Priority.{has_at}
use Rattle.sg_parsers.specs.declared.fields.FieldPosition.TheVariants.{Plain, Quoted, Closing}
use Rattle.sg_parsers.specs.Fields.{is_no_quote, field_len, value_from, field_value}

-- what stands outside of quotes says itself
plain_value : (text : List ℕ) → value_from Plain text ≡ text
plain_value [] = refl
plain_value (b ∷ text) = ap (λ t. b ∷ t) (plain_value text)

-- and so does a field that doesn't begin with one
pub unquoted_value : (text : List ℕ) → has_at text 0 34 ≡ false → field_value text ≡ text
unquoted_value [] e = refl
unquoted_value (b ∷ text) e =
    let test : nat_eq b 34 ≡ false = e in
    rw test (ap (λ t. b ∷ t) (plain_value text))

closing_only : (text : List ℕ) → length text ≤ 0 → value_from Closing text ≡ []
closing_only [] h = refl
closing_only (b ∷ text) h = absurd (omega arith)

-- a body in which at most the last byte is a quote says what stands before it
body_more : (b : ℕ) (text : List ℕ) (test : Bool) → nat_eq b 34 ≡ test
    → (length text ≤ prefix_len is_no_quote text + 1 → value_from Quoted text ≡ take (prefix_len is_no_quote text) text)
    → length (b ∷ text) ≤ prefix_len is_no_quote (b ∷ text) + 1 → value_from Quoted (b ∷ text) ≡ take (prefix_len is_no_quote (b ∷ text)) (b ∷ text)
body_more b text true is more h = let few = rw is at h in rw is (closing_only text (omega (arith, few)))
body_more b text false is more h =
    let few = rw is at h in
    let one : 1 + prefix_len is_no_quote text ≡ suc (prefix_len is_no_quote text) = omega arith in
    rw (is, one) (ap (λ t. b ∷ t) (more (omega (arith, few))))

body_value : (text : List ℕ) → length text ≤ prefix_len is_no_quote text + 1 → value_from Quoted text ≡ take (prefix_len is_no_quote text) text
body_value [] h = refl
body_value (b ∷ text) h = body_more b text (nat_eq b 34) refl (body_value text) h

pub quoted_value : (text : List ℕ) → has_at text 0 34 ≡ true → length (drop 1 text) ≤ prefix_len is_no_quote (drop 1 text) + 1 → field_value text ≡ take (prefix_len is_no_quote (drop 1 text)) (drop 1 text)
quoted_value [] e h = absurd (false≢true e)
quoted_value (b ∷ text) e h =
    let test : nat_eq b 34 ≡ true = e in
    rw test (body_value text h)

-- what stands between the quotes of a field, where nothing else does
pub quoted_field : (written body rest value : List ℕ) (len place : ℕ) → has_at written 0 34 ≡ true → body ≡ written → rest ≡ drop 1 body → place ≡ prefix_len is_no_quote rest → len ≡ length rest → len - place ≤ 1 → value ≡ take place rest → value ≡ field_value written
quoted_field written body rest value len place test body-is rest-is place-is len-is few value-is =
    let r : rest ≡ drop 1 written = rest-is ∙ ap (drop 1) body-is in
    let n : place ≡ prefix_len is_no_quote (drop 1 written) = place-is ∙ ap (prefix_len is_no_quote) r in
    let short : length (drop 1 written) ≤ prefix_len is_no_quote (drop 1 written) + 1 = omega (arith, n, len-is, ap length r, few) in
    value-is ∙ (λ i. take (n i) (r i)) ∙ sym (quoted_value written test short)

pub some_len : (n : ℕ) → nat_eq n 0 ≡ false → 1 ≤ n
some_len zero e = absurd (true≢false e)
some_len (suc n) e = omega arith

-- the text behind a field that ends before the text does, and none where it doesn't
module _ (delimiters text : List ℕ) (at end : ℕ) (end-is : end ≡ at + field_len delimiters (drop at text)) (low : at ≤ length text) where
  pub behind-some : end < length text → behind_field delimiters (drop at text) ≡ Some (drop (end + 1) text)
  behind-some less =
      let rest = drop at text in
      let test : nat_lt (field_len delimiters rest) (length rest) ≡ true = lt-ltb (field_len delimiters rest) (length rest) (omega (arith, end-is, length-drop at text, less, low)) in
      let same : at + (field_len delimiters rest + 1) ≡ end + 1 = omega (arith, end-is) in
      ap (λ (b : Bool). cond b (Some (drop (field_len delimiters rest + 1) rest)) None) test
      ∙ ap Some (drop-drop (field_len delimiters rest + 1) at text ∙ ap (λ n. drop n text) same)

  pub behind-none : end ≡ length text → behind_field delimiters (drop at text) ≡ None
  behind-none over =
      let rest = drop at text in
      ap (λ (b : Bool). cond b (Some (drop (field_len delimiters rest + 1) rest)) None)
      (le-ltb (field_len delimiters rest) (length rest) (omega (arith, end-is, length-drop at text, over, low)))

  pub value-here : (value : List ℕ) → value ≡ field_value (take (end - at) (drop at text)) → value ≡ column_value delimiters false (drop at text)
  value-here value value-is =
      let len : end - at ≡ field_len delimiters (drop at text) = omega (arith, end-is) in
      value-is ∙ ap (λ n. field_value (take n (drop at text))) len

-- columns without a field
pub columns-none : (delimiters : List ℕ) (greedy : Bool) (names : List (List ℕ)) → column_pairs delimiters greedy names None ≡ []
columns-none delimiters greedy [] = refl
columns-none delimiters greedy (name ∷ names) = refl

last_is : (greedy : Bool) (n : ℕ) → (greedy ≡ true → n ≡ 0 → ⊥) → (greedy && nat_eq n 0) ≡ false
last_is greedy n apart = by greedy (nat_eq n 0) refl refl
  where
    by : (g t : Bool) → greedy ≡ g → nat_eq n 0 ≡ t → (greedy && nat_eq n 0) ≡ false
    by false t e f = rw e refl
    by true false e f = rw (e, f) refl
    by true true e f = absurd (apart e (eqb-true n 0 f))

-- the column whose field ends the text, where it isn't the last one that gets the rest
pub end-columns : (delimiters : List ℕ) (greedy : Bool) (names : List (List ℕ)) (place : ℕ) (name text : List ℕ) → place < length names → name ≡ get_or names place name
    → (greedy ≡ true → place + 1 ≡ length names → ⊥) → behind_field delimiters text ≡ None
    → column_pairs delimiters greedy (drop place names) (Some text) ≡ (record { name = name; value = column_value delimiters false text }) ∷ []
end-columns delimiters greedy [] place name text lt is apart none = absurd (omega (arith, lt))
end-columns delimiters greedy (first ∷ names) zero name text lt is apart none =
    (λ i. pair (sym is i) (last_is greedy (length names) (λ g e. apart g (omega (arith, e))) i) ∷ column_pairs delimiters greedy names (none i))
    ∙ ap (λ ps. pair name false ∷ ps) (columns-none delimiters greedy names)
  where
    pair : List ℕ → Bool → NameValue
    pair called whole = record { name = called; value = column_value delimiters whole text }
end-columns delimiters greedy (first ∷ names) (suc place) name text lt is apart none =
    end-columns delimiters greedy names place name text (omega (arith, lt)) is (λ g e. apart g (omega (arith, e))) none
