-- Fields, one run of bytes on.
use Rattle.std.proofs.Common.{◌≡◌, ℕ, suc, ◌+◌, ◌<◌, ◌≤◌, Bool, true, false, ◌&&◌, ◌||◌, not, eqb, cond, get_or, min, List, [], ◌∷◌, length, take, drop, ◌-◌, Some, None, refl, sym, ap, ◌∙◌, arith, length-drop}
use Rattle.std.specs.List.{prefix_len, position_or_len}
use Rattle.std.proofs.Math.Bool.{or-false}
use Rattle.std.proofs.lemmas.Bool.{true≢false, false≢true, eqb-true, eq-eqb}
use Rattle.std.proofs.lemmas.List.{take_all, drop_all, drop-drop}
use Rattle.std.proofs.lemmas.List.Recursion.{is_position_or_len}
use Rattle.std.proofs.lemmas.List.Sums.{position_or_len_is}
use Rattle.memchr.specs.Find.{IsFirstByte, is_byte, is_byte2}
use Rattle.sg_parsers.specs.declared.fields.FieldPosition.{FieldPosition}
use Rattle.sg_parsers.specs.declared.fields.FieldPosition.TheVariants.{Front, Plain, Quoted, Closing}
use Rattle.sg_parsers.specs.Fields.{is_delimiter, is_no_quote, ends, behind, len_from, fields_from, opens, through_quote}

untrue : (b : Bool) → (b ≡ true → ⊥) → b ≡ false
untrue true h = absurd (h refl)
untrue false h = refl

-- what a search finds is how many bytes stand before it
pub found-place : (test : ℕ → Bool) (text : List ℕ) (place : ℕ) → IsFirstByte test text (Some place) → place ≡ position_or_len test text
found-place test text place h =
    let within : place < length text = h.0.high in
    sym (position_or_len_is test text place 0 (omega arith) (λ k below. untrue _ (h.0.before k (omega arith) below)) (λ _. h.1))

pub found-none : (test : ℕ → Bool) (text : List ℕ) → IsFirstByte test text None → length text ≡ position_or_len test text
found-none test text h =
    sym (position_or_len_is test text (length text) 0 (omega arith) (λ k below. untrue _ (h k (omega arith) below)) (λ past. absurd (omega arith)))

-- what stands outside of quotes ends at the first delimiter
pub plain-by : (delimiters : List ℕ) (test : ℕ → Bool) → ((b : ℕ) → is_delimiter delimiters b ≡ test b) → (text : List ℕ) → position_or_len test text ≡ len_from delimiters Plain text
plain-by delimiters test same text =
    sym (is_position_or_len (len_from delimiters Plain) test refl (λ b more. ap (λ (t : Bool). cond t 0 (1 + len_from delimiters Plain more)) (same b)) text)

eqb-back : (a b : ℕ) → eqb a b ≡ eqb b a
eqb-back a b = by (eqb a b) (eqb b a) refl refl
  where
    by : (p q : Bool) → eqb a b ≡ p → eqb b a ≡ q → p ≡ q
    by true true is is' = refl
    by false false is is' = refl
    by true false is is' = absurd (true≢false (sym (eq-eqb b a (sym (eqb-true a b is))) ∙ is'))
    by false true is is' = absurd (true≢false (sym (eq-eqb a b (sym (eqb-true b a is'))) ∙ is))

pub plain-one : (one : ℕ) (text : List ℕ) → position_or_len (is_byte one) text ≡ len_from (one ∷ []) Plain text
plain-one one text = plain-by (one ∷ []) (is_byte one) (λ b. or-false (eqb one b) ∙ eqb-back one b) text

pub plain-either : (one other : ℕ) (text : List ℕ) → position_or_len (is_byte2 one other) text ≡ len_from (one ∷ other ∷ []) Plain text
plain-either one other text =
    plain-by (one ∷ other ∷ []) (is_byte2 one other)
    (λ b. ap (λ (t : Bool). eqb one b || t) (or-false (eqb other b)) ∙ (λ i. eqb-back one b i || eqb-back other b i)) text

-- the same of a list with as many delimiters
pub plain-first : (delimiters text : List ℕ) (d : ℕ) → 1 ≤ length delimiters → length delimiters < 2 → position_or_len (is_byte (get_or delimiters 0 d)) text ≡ len_from delimiters Plain text
plain-first [] text d some few = absurd (omega (arith, some))
plain-first (one ∷ []) text d some few = plain-one one text
plain-first (one ∷ other ∷ more) text d some few = absurd (omega (arith, few))

pub plain-two : (delimiters text : List ℕ) (d : ℕ) → 2 ≤ length delimiters → length delimiters < 3 → position_or_len (is_byte2 (get_or delimiters 0 d) (get_or delimiters 1 d)) text ≡ len_from delimiters Plain text
plain-two [] text d some few = absurd (omega (arith, some))
plain-two (one ∷ []) text d some few = absurd (omega (arith, some))
plain-two (one ∷ other ∷ []) text d some few = plain-either one other text
plain-two (one ∷ other ∷ third ∷ more) text d some few = absurd (omega (arith, few))

pub plain-any : (delimiters text : List ℕ) → position_or_len (is_delimiter delimiters) text ≡ len_from delimiters Plain text
plain-any delimiters text = plain-by delimiters (is_delimiter delimiters) (λ b. refl) text

-- a field that doesn't open with a quote stands outside of quotes
module _ (delimiters : List ℕ) where
  front-plain-by : (b : ℕ) (text : List ℕ) (quote ends : Bool) → eqb b 34 ≡ quote → is_delimiter delimiters b ≡ ends → quote && not ends ≡ false
      → cond ends 0 (1 + len_from delimiters (cond quote Quoted Plain) text) ≡ cond ends 0 (1 + len_from delimiters Plain text)
  front-plain-by b text quote true q e none = refl
  front-plain-by b text false false q e none = refl
  front-plain-by b text true false q e none = absurd (true≢false none)

  quote-ends : (b : ℕ) (quote : Bool) → eqb b 34 ≡ quote → quote && not (is_delimiter delimiters 34) ≡ quote && not (is_delimiter delimiters b)
  quote-ends b true q = let is : b ≡ 34 = eqb-true b 34 q in ap (λ n. not (is_delimiter delimiters n)) (sym is)
  quote-ends b false q = refl

  pub front-plain : (text : List ℕ) → opens delimiters text ≡ false → len_from delimiters Plain text ≡ len_from delimiters Front text
  front-plain [] none = refl
  front-plain (b ∷ text) none = sym (front-plain-by b text (eqb b 34) (is_delimiter delimiters b) refl refl (sym (quote-ends b (eqb b 34) refl) ∙ none))

  pub closing-front : (text : List ℕ) → len_from delimiters Closing text ≡ len_from delimiters Front text
  closing-front [] = refl
  closing-front (b ∷ text) = refl

  front-quoted-by : (b : ℕ) (text : List ℕ) (quote ends : Bool) → quote && not ends ≡ true
      → cond ends 0 (1 + len_from delimiters (cond quote Quoted Plain) text) ≡ 1 + len_from delimiters Quoted text
  front-quoted-by b text true false is = refl
  front-quoted-by b text true true is = absurd (false≢true is)
  front-quoted-by b text false ends is = absurd (false≢true is)

  -- one that does goes on in quotes behind it
  pub front-quoted : (text : List ℕ) → opens delimiters text ≡ true → len_from delimiters Front text ≡ 1 + len_from delimiters Quoted (drop 1 text)
  front-quoted [] is = absurd (false≢true is)
  front-quoted (b ∷ text) is = front-quoted-by b text (eqb b 34) (is_delimiter delimiters b) (sym (quote-ends b (eqb b 34) refl) ∙ is)

  through-by : (b : ℕ) (text : List ℕ) (quote : Bool) → eqb b 34 ≡ quote
      → len_from delimiters Quoted text ≡ through_quote text + len_from delimiters Closing (drop (through_quote text) text)
      → len_from delimiters Quoted (b ∷ text) ≡ through_quote (b ∷ text) + len_from delimiters Closing (drop (through_quote (b ∷ text)) (b ∷ text))
  through-by b text true q more =
      let one : min 1 (suc (length text)) ≡ 1 = omega arith in
      rw (q, one) refl
  through-by b text false q more =
      let next : min (1 + prefix_len is_no_quote text + 1) (suc (length text)) ≡ suc (through_quote text) = omega arith in
      let sum : 1 + len_from delimiters Quoted text ≡ suc (through_quote text) + len_from delimiters Closing (drop (through_quote text) text) = omega (arith, more) in
      rw (q, next) sum

  -- in quotes, up to and with the next quote
  pub through : (text : List ℕ) → len_from delimiters Quoted text ≡ through_quote text + len_from delimiters Closing (drop (through_quote text) text)
  through [] = refl
  through (b ∷ text) = through-by b text (eqb b 34) refl (through text)

-- how many fields there are, from what stands behind the first one
module _ (delimiters : List ℕ) where
  counted-by : (within : FieldPosition) (b : ℕ) (text : List ℕ) (ends : Bool)
      → (len_from delimiters (behind within b) text < length text → fields_from delimiters (behind within b) text ≡ 1 + fields_from delimiters Front (drop (len_from delimiters (behind within b) text + 1) text))
      → cond ends 0 (1 + len_from delimiters (behind within b) text) < suc (length text)
      → cond ends (1 + fields_from delimiters Front text) (fields_from delimiters (behind within b) text) ≡ 1 + fields_from delimiters Front (drop (cond ends 0 (1 + len_from delimiters (behind within b) text) + 1) (b ∷ text))
  counted-by within b text true more less = refl
  counted-by within b text false more less =
      let len : ℕ = len_from delimiters (behind within b) text in
      let one : suc (len + 1) ≡ 1 + len + 1 = omega arith in
      more (omega (arith, less)) ∙ ap (λ n. 1 + fields_from delimiters Front (drop n (b ∷ text))) one

  pub counted-more : (within : FieldPosition) (text : List ℕ) → len_from delimiters within text < length text → fields_from delimiters within text ≡ 1 + fields_from delimiters Front (drop (len_from delimiters within text + 1) text)
  counted-more within [] less = absurd (omega (arith, less))
  counted-more within (b ∷ text) less = counted-by within b text (ends delimiters within b) (counted-more (behind within b) text) less

  last-by : (within : FieldPosition) (b : ℕ) (text : List ℕ) (ends : Bool)
      → (length text ≤ len_from delimiters (behind within b) text → fields_from delimiters (behind within b) text ≡ 1)
      → suc (length text) ≤ cond ends 0 (1 + len_from delimiters (behind within b) text)
      → cond ends (1 + fields_from delimiters Front text) (fields_from delimiters (behind within b) text) ≡ 1
  last-by within b text true more past = absurd (omega (arith, past))
  last-by within b text false more past = more (omega (arith, past))

  pub counted-last : (within : FieldPosition) (text : List ℕ) → length text ≤ len_from delimiters within text → fields_from delimiters within text ≡ 1
  counted-last within [] past = refl
  counted-last within (b ∷ text) past = last-by within b text (ends delimiters within b) (counted-last (behind within b) text) past

  -- one field on
  pub next-count : (rest next : List ℕ) (len count whole : ℕ) → count + fields_from delimiters Front rest ≡ whole
      → len ≡ len_from delimiters Front rest → len < length rest → next ≡ drop (len + 1) rest → (count + 1) + fields_from delimiters Front next ≡ whole
  next-count rest next len count whole so_far len-is less next-is =
      let more : fields_from delimiters Front rest ≡ 1 + fields_from delimiters Front (drop (len_from delimiters Front rest + 1) rest) = counted-more Front rest (omega (arith, len-is, less)) in
      let same : fields_from delimiters Front (drop (len_from delimiters Front rest + 1) rest) ≡ fields_from delimiters Front next = ap (λ n. fields_from delimiters Front (drop (n + 1) rest)) (sym len-is) ∙ ap (fields_from delimiters Front) (sym next-is) in
      omega (arith, more, same, so_far)

  pub end-count : (rest : List ℕ) (len count whole : ℕ) → count + fields_from delimiters Front rest ≡ 1 + whole
      → len ≡ len_from delimiters Front rest → length rest ≤ len → count ≡ whole
  end-count rest len count whole so_far len-is past =
      let last : fields_from delimiters Front rest ≡ 1 = counted-last Front rest (omega (arith, len-is, past)) in
      omega (arith, last, so_far)

-- a text from a place on, as a slice of it reads
pub tail : (n : ℕ) (text : List ℕ) → take (length text - n) (drop n text) ≡ drop n text
tail n text = take_all (length text - n) (drop n text) (omega (arith, length-drop n text))

-- in quotes, from quote to quote
module _ (delimiters text : List ℕ) where
  pub opens-some : opens delimiters text ≡ true → 1 ≤ length text
  opens-some is = by text is
    where
      by : (text : List ℕ) → opens delimiters text ≡ true → 1 ≤ length text
      by [] is = absurd (false≢true is)
      by (b ∷ text) is = omega arith

  pub quoted-on : (len n whole : ℕ) → len + len_from delimiters Quoted (drop len text) ≡ whole → n ≡ through_quote (drop len text)
      → (len + n) + len_from delimiters Front (drop (len + n) text) ≡ whole
  quoted-on len n whole so_far n-is =
      let one : len_from delimiters Quoted (drop len text) ≡ n + len_from delimiters Closing (drop n (drop len text)) =
      through delimiters (drop len text) ∙ ap (λ m. m + len_from delimiters Closing (drop m (drop len text))) (sym n-is) in
      let two : len_from delimiters Closing (drop n (drop len text)) ≡ len_from delimiters Front (drop (len + n) text) =
      closing-front delimiters (drop n (drop len text)) ∙ ap (len_from delimiters Front) (drop-drop n len text) in
      omega (arith, one, two, so_far)

  -- no quote is left
  pub quoted-over : (len whole : ℕ) → len + len_from delimiters Quoted (drop len text) ≡ whole → len ≤ length text → length text ≤ len → length text ≡ whole
  quoted-over len whole so_far low high =
      let none : len_from delimiters Quoted (drop len text) ≡ 0 = ap (len_from delimiters Quoted) (drop_all len text high) in
      omega (arith, none, so_far)

  -- the quote closes
  pub quoted-ends : (len n plain whole : ℕ) → len + len_from delimiters Quoted (drop len text) ≡ whole → n ≡ through_quote (drop len text)
      → opens delimiters (drop (len + n) text) ≡ false → plain ≡ len_from delimiters Plain (drop (len + n) text) → (len + n) + plain ≡ whole
  quoted-ends len n plain whole so_far n-is none plain-is =
      let same : plain ≡ len_from delimiters Front (drop (len + n) text) = plain-is ∙ front-plain delimiters (drop (len + n) text) none in
      omega (arith, same, quoted-on len n whole so_far n-is)

  -- another one stands behind it
  pub quoted-more : (len n whole : ℕ) → len + len_from delimiters Quoted (drop len text) ≡ whole → n ≡ through_quote (drop len text)
      → opens delimiters (drop (len + n) text) ≡ true → (len + n + 1) + len_from delimiters Quoted (drop (len + n + 1) text) ≡ whole
  quoted-more len n whole so_far n-is is =
      let more : len_from delimiters Front (drop (len + n) text) ≡ 1 + len_from delimiters Quoted (drop 1 (drop (len + n) text)) = front-quoted delimiters (drop (len + n) text) is in
      let same : len_from delimiters Quoted (drop 1 (drop (len + n) text)) ≡ len_from delimiters Quoted (drop (len + n + 1) text) = ap (len_from delimiters Quoted) (drop-drop 1 (len + n) text) in
      omega (arith, more, same, quoted-on len n whole so_far n-is)
