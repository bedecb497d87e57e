-- Texts that are written of values, read again.
use Rattle.std.proofs.Common.{◌≡◌, ◌≢◌, ℕ, suc, ◌+◌, ◌<◌, ◌≤◌, Bool, true, false, cond, nat_eq, nat_lt, List, [], ◌∷◌, ◌++◌, length, take, drop, Option, Some, None, refl, sym, ap, ◌∙◌, arith, length-append}
use Rattle.std.specs.Prelude.{bytes_eq}
use Rattle.std.specs.List.{list_any}
use Rattle.std.proofs.lemmas.Bool.{true≢false, eqb-true, lt-ltb, ltb-true}
use Rattle.sg_msg.specs.Message.{NameValue, Content, value_of, with_pair, with_all}
use Rattle.sg_msg.proofs.ByteOrder.{test-same}
use Rattle.sg_msg.proofs.ValueLaws.{value-with-other}
use Rattle.sg_parsers.specs.declared.csv.Csv.{Csv}
use Rattle.sg_parsers.specs.declared.fields.FieldPosition.TheVariants.{Front, Plain, Quoted, Closing}
use Rattle.sg_parsers.specs.Fields.{is_delimiter, behind, len_from, field_len, value_from, field_value, fields_from, field_count}
use Rattle.sg_parsers.specs.Csv.{behind_field, column_value, column_pairs, csv_pairs, csv_takes, csv_parsed}
use Rattle.sg_parsers.specs.Laws.{doubled, row_of, pair_of, beside, IsDelimiter, OthersAreKept, ColumnsAreRead, FieldsAreCounted}
use Rattle.sg_msg.proofs.KeptTags.{or_false}

-- a value in quotes, up to the closing one
module _ (delimiters : List ℕ) (no_quote : is_delimiter delimiters 34 ≡ false) where
  len-doubled : (value rest : List ℕ) → len_from delimiters Quoted (doubled value ++ 34 ∷ rest) ≡ length (doubled value) + 1 + len_from delimiters Closing rest
  len-doubled [] rest = omega arith
  len-doubled (b ∷ value) rest = by (len-doubled value rest) (nat_eq b 34) refl
    where
      by : len_from delimiters Quoted (doubled value ++ 34 ∷ rest) ≡ length (doubled value) + 1 + len_from delimiters Closing rest → (test : Bool) → nat_eq b 34 ≡ test
          → len_from delimiters Quoted (doubled (b ∷ value) ++ 34 ∷ rest) ≡ length (doubled (b ∷ value)) + 1 + len_from delimiters Closing rest
      by more true is = rw (is, no_quote) (omega (arith, more))
      by more false is = rw (is, is) (omega (arith, more))

  value-doubled : (value : List ℕ) → value_from Quoted (doubled value ++ 34 ∷ []) ≡ value
  value-doubled [] = refl
  value-doubled (b ∷ value) = by (value-doubled value) (nat_eq b 34) refl
    where
      by : value_from Quoted (doubled value ++ 34 ∷ []) ≡ value → (test : Bool) → nat_eq b 34 ≡ test → value_from Quoted (doubled (b ∷ value) ++ 34 ∷ []) ≡ b ∷ value
      by more true is = rw is (ap (λ t. 34 ∷ t) more ∙ ap (λ x. x ∷ value) (sym (eqb-true b 34 is)))
      by more false is = rw (is, is) (ap (λ t. b ∷ t) more)

  count-doubled : (value rest : List ℕ) → fields_from delimiters Quoted (doubled value ++ 34 ∷ rest) ≡ fields_from delimiters Closing rest
  count-doubled [] rest = refl
  count-doubled (b ∷ value) rest = by (count-doubled value rest) (nat_eq b 34) refl
    where
      by : fields_from delimiters Quoted (doubled value ++ 34 ∷ rest) ≡ fields_from delimiters Closing rest → (test : Bool) → nat_eq b 34 ≡ test
          → fields_from delimiters Quoted (doubled (b ∷ value) ++ 34 ∷ rest) ≡ fields_from delimiters Closing rest
      by more true is = rw (is, no_quote) more
      by more false is = rw (is, is) more

-- a text in two parts
take-one : (p : List ℕ) (x : ℕ) (q : List ℕ) → take (length p + 1) (p ++ x ∷ q) ≡ p ++ x ∷ []
take-one [] x q = refl
take-one (b ∷ p) x q = let n : length (b ∷ p) + 1 ≡ suc (length p + 1) = omega arith in rw n (ap (λ t. b ∷ t) (take-one p x q))

drop-two : (p : List ℕ) (x y : ℕ) (q : List ℕ) → drop (length p + 2) (p ++ x ∷ y ∷ q) ≡ q
drop-two [] x y q = refl
drop-two (b ∷ p) x y q = let n : length (b ∷ p) + 2 ≡ suc (length p + 2) = omega arith in rw n (drop-two p x y q)

not-less : (a b : ℕ) → b ≤ a → nat_lt a b ≡ false
not-less a b h = by (nat_lt a b) refl
  where
    by : (test : Bool) → nat_lt a b ≡ test → nat_lt a b ≡ false
    by false is = is
    by true is = let less = ltb-true a b is in absurd (omega arith)

-- the first field, where so much stands behind it
module _ (delimiters : List ℕ) (no_quote : is_delimiter delimiters 34 ≡ false) (value rest : List ℕ) (ends : len_from delimiters Closing rest ≡ 0) where
  abbrev pub text : List ℕ
  text = 34 ∷ (doubled value ++ 34 ∷ rest)

  len-first : field_len delimiters text ≡ suc (length (doubled value) + 1)
  len-first = rw no_quote (omega (arith, len-doubled delimiters no_quote value rest, ends))

  pub value-first : column_value delimiters false text ≡ value
  value-first =
      ap (λ n. field_value (take n text)) len-first
      ∙ ap (λ t. field_value (34 ∷ t)) (take-one (doubled value) 34 rest)
      ∙ value-doubled delimiters no_quote value

  behind-nothing : rest ≡ [] → behind_field delimiters text ≡ None
  behind-nothing e =
      let long : length text ≡ suc (length (doubled value) + length (34 ∷ rest)) = ap suc (length-append (doubled value) (34 ∷ rest)) in
      let test : nat_lt (field_len delimiters text) (length text) ≡ false = not-less (field_len delimiters text) (length text) (omega (arith, len-first, long, ap length e)) in
      ap (λ (b : Bool). cond b (Some (drop (field_len delimiters text + 1) text)) None) test

  behind-some : (delimiter : ℕ) (more : List ℕ) → rest ≡ delimiter ∷ more → behind_field delimiters text ≡ Some more
  behind-some delimiter more e =
      let long : length text ≡ suc (length (doubled value) + length (34 ∷ rest)) = ap suc (length-append (doubled value) (34 ∷ rest)) in
      let test : nat_lt (field_len delimiters text) (length text) ≡ true = lt-ltb (field_len delimiters text) (length text) (omega (arith, len-first, long, ap length e)) in
      let n : field_len delimiters text + 1 ≡ suc (length (doubled value) + 2) = omega (arith, len-first) in
      ap (λ (b : Bool). cond b (Some (drop (field_len delimiters text + 1) text)) None) test
      ∙ ap Some (ap (λ k. drop k text) n ∙ ap (λ t. drop (length (doubled value) + 2) (doubled value ++ 34 ∷ t)) e ∙ drop-two (doubled value) 34 delimiter more)

no-columns : (delimiters : List ℕ) (names : List (List ℕ)) → column_pairs delimiters false names None ≡ beside names []
no-columns delimiters [] = refl
no-columns delimiters (name ∷ names) = refl

pub are-read : ColumnsAreRead
are-read delimiters delimiter [] value values is = refl
are-read delimiters delimiter (name ∷ names) value [] is =
    (λ i. pair_of name (value-first delimiters is.quote value [] refl i) ∷ column_pairs delimiters false names (behind-nothing delimiters is.quote value [] refl refl i))
    ∙ ap (λ ps. pair_of name value ∷ ps) (no-columns delimiters names)
are-read delimiters delimiter (name ∷ names) value (next ∷ values) is =
    let rest = delimiter ∷ row_of delimiter next values in
    let ends : len_from delimiters Closing rest ≡ 0 = ap (λ (b : Bool). cond b 0 (1 + len_from delimiters (behind Closing delimiter) (row_of delimiter next values))) is.one in
    (λ i. pair_of name (value-first delimiters is.quote value rest ends i) ∷ column_pairs delimiters false names (behind-some delimiters is.quote value rest ends delimiter (row_of delimiter next values) refl i))
    ∙ ap (λ ps. pair_of name value ∷ ps) (are-read delimiters delimiter names next values is)

pub are-counted : FieldsAreCounted
are-counted delimiters delimiter value [] is = rw is.quote (count-doubled delimiters is.quote value [])
are-counted delimiters delimiter value (next ∷ values) is =
    let more = are-counted delimiters delimiter next values is in
    rw is.quote (count-doubled delimiters is.quote value (delimiter ∷ row_of delimiter next values) ∙ rw is.one (omega (arith, more)))

-- a name that none of these pairs has keeps its value
keep-all : (name : List ℕ) (put pairs : List NameValue) → list_any (λ (p : NameValue). bytes_eq p.name name) put ≡ false → value_of name (with_all put pairs) ≡ value_of name pairs
keep-all name [] pairs e = refl
keep-all name (p ∷ put) pairs e =
    let t = or_false (bytes_eq p.name name) (list_any (λ (q : NameValue). bytes_eq q.name name) put) e in
    let differs : name ≢ p.name = λ same. true≢false (sym (test-same p.name name (sym same)) ∙ t.0) in
    keep-all name put (with_pair p.name p.value pairs) t.1 ∙ value-with-other p.name p.value name differs pairs

columns-keep : (delimiters : List ℕ) (greedy : Bool) (name : List ℕ) (names : List (List ℕ)) (rest : Option (List ℕ)) → list_any (λ column. bytes_eq column name) names ≡ false
    → list_any (λ (p : NameValue). bytes_eq p.name name) (column_pairs delimiters greedy names rest) ≡ false
columns-keep delimiters greedy name [] rest e = refl
columns-keep delimiters greedy name (n ∷ names) None e = refl
columns-keep delimiters greedy name (n ∷ names) (Some text) e =
    let t = or_false (bytes_eq n name) (list_any (λ column. bytes_eq column name) names) e in
    rw t.0 (columns-keep delimiters greedy name names (behind_field delimiters text) t.1)

pub are-kept : OthersAreKept
are-kept csv text name content none = by (csv_takes csv text)
  where
    set : Content
    set = record content { pairs = with_all (csv_pairs csv text) content.pairs }

    by : (b : Bool) → value_of name (cond b set content).pairs ≡ value_of name content.pairs
    by false = refl
    by true = keep-all name (csv_pairs csv text) content.pairs (columns-keep csv.delimiters csv.greedy name csv.names (Some text) none)
