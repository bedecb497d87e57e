-- Values of parameters at the front of a text.
use Rattle.std.proofs.Common.{◌≡◌, ℕ, ◌+◌, ◌≤◌, ◌<◌, Bool, true, false, ◌||◌, nat_eq, cond, get_or, append_assoc, append-nil, subst, List, [], ◌∷◌, ◌++◌, length, take, drop, Some, None, is_some, refl, sym, ap, ◌∙◌, arith}
use Rattle.std.specs.List.{list_any}
use Rattle.std.proofs.lemmas.Bool.{false≢true, eqb-true}
use Rattle.std.proofs.lemmas.List.{drop_all}
use Rattle.std.proofs.Math.Seq.{take-append_seam, drop-append_seam}
use Rattle.sg_msg.specs.Sets.{is_escaped}
use Rattle.sg_r5424.specs.Values.{is_bare, SpellsValue, IsValue, quote_from, unescaped_byte, unescaped_from}
use Rattle.sg_r5424.specs.Values.SpellsValue.{none, escaped, backslash, plain}
use Rattle.sg_r5424.proofs.RunLemmas.{cut_same}
use Rattle.sg_msg.proofs.KeptTags.{or_false}
use Rattle.sg_list.proofs.ListLemmas.{from_here}

-- a byte that needs no backslash is none of three
record IsPlain (b : ℕ) : Type 0 where
  quote : nat_eq b 34 ≡ false
  slash : nat_eq b 92 ≡ false
  bracket : nat_eq b 93 ≡ false

plain_tests : (q s b : Bool) → q || (s || b) ≡ false → (q ≡ false) × (s ≡ false) × (b ≡ false)
plain_tests q s b e =
    let outer = or_false q (s || b) e in
    let inner = or_false s b outer.1 in
    (outer.0, inner.0, inner.1)

is_plain : (b : ℕ) → is_escaped b ≡ false → IsPlain b
is_plain b e = let t = plain_tests (nat_eq b 34) (nat_eq b 92) (nat_eq b 93) e in record { quote = t.0; slash = t.1; bracket = t.2 }

-- where a text spells a value, the quote behind it is the first that closes it
pub quote_is : (place : ℕ) (text value rest : List ℕ) → SpellsValue text value → quote_from false place (text ++ 34 ∷ rest) ≡ Some (place + length text)
quote_is place _ _ rest none = ap Some (omega arith)
quote_is place _ _ rest (escaped b text value e more) = quote_is (place + 1 + 1) text value rest more ∙ ap Some (omega arith)
quote_is place _ _ rest (backslash b text value e more) = quote_is (place + 1 + 1) text value rest more ∙ ap Some (omega arith)
quote_is place _ _ rest (plain b text value e more) =
    let t = is_plain b e in
    rw (t.quote, t.bracket, t.slash) (quote_is (place + 1) text value rest more ∙ ap Some (omega arith))

-- and the text comes to the value
pub value_is : (text value : List ℕ) → SpellsValue text value → unescaped_from false text ≡ value
value_is _ _ none = refl
value_is _ _ (escaped b text value e more) = rw e (ap (λ t. b ∷ t) (value_is text value more))
value_is _ _ (backslash b text value e more) = rw e (ap (λ t. 92 ∷ b ∷ t) (value_is text value more))
value_is _ _ (plain b text value e more) = let t = is_plain b e in rw t.slash (ap (λ t. b ∷ t) (value_is text value more))

pub value_once : (text a b s t : List ℕ) → IsValue text a s → IsValue text b t → (a ≡ b) × (s ≡ t)
value_once text a b s t p q =
    let first : quote_from false 0 text ≡ Some (0 + length p.spelled) = ap (quote_from false 0) p.is_text ∙ quote_is 0 p.spelled a s p.spells in
    let second : quote_from false 0 text ≡ Some (0 + length q.spelled) = ap (quote_from false 0) q.is_text ∙ quote_is 0 q.spelled b t q.spells in
    let both : Some (0 + length p.spelled) ≡ Some (0 + length q.spelled) = sym first ∙ second in
    let places : 0 + length p.spelled ≡ 0 + length q.spelled = cc in
    let same = cut_same p.spelled q.spelled (34 ∷ s) (34 ∷ t) (sym p.is_text ∙ q.is_text) (omega (arith, places)) in
    (sym (value_is p.spelled a p.spells) ∙ (ap (unescaped_from false) same.0 ∙ value_is q.spelled b q.spells), ap (drop 1) same.1)

-- a text whose closing quote stands so far ahead begins with a value
record ClosesValue (text : List ℕ) (ahead : ℕ) : Type 0 where
  spelled : List ℕ
  rest : List ℕ
  is_text : text ≡ spelled ++ 34 ∷ rest
  is_ahead : ahead ≡ length spelled
  spells : SpellsValue spelled (unescaped_from false spelled)

-- the closing quote at this place, counted from where the text begins
record Found (text : List ℕ) (place end : ℕ) : Type 0 where
  ahead : ℕ
  is_end : end ≡ place + ahead
  closes : ClosesValue text ahead

record FoundBehind (text : List ℕ) (place end : ℕ) : Type 0 where
  byte : ℕ
  behind : List ℕ
  is_text : text ≡ byte ∷ behind
  found : Found behind (place + 1) end

abbrev FoundIn : Bool → List ℕ → ℕ → ℕ → Type 0
FoundIn true text place end = FoundBehind text place end
FoundIn false text place end = Found text place end

-- a backslash and a byte before a text that closes
escape : (b : ℕ) (text : List ℕ) (ahead : ℕ) (test : Bool) → is_escaped b ≡ test → ClosesValue text ahead → ClosesValue (92 ∷ b ∷ text) (ahead + 2)
escape b text ahead true e c = record {
  spelled = 92 ∷ b ∷ c.spelled;
  rest = c.rest;
  is_text = ap (λ t. 92 ∷ b ∷ t) c.is_text;
  is_ahead = omega (arith, c.is_ahead);
  spells = rw e (escaped b c.spelled (unescaped_from false c.spelled) e c.spells);
}
escape b text ahead false e c = record {
  spelled = 92 ∷ b ∷ c.spelled;
  rest = c.rest;
  is_text = ap (λ t. 92 ∷ b ∷ t) c.is_text;
  is_ahead = omega (arith, c.is_ahead);
  spells = rw e (backslash b c.spelled (unescaped_from false c.spelled) e c.spells);
}

-- a byte of the text, by what it is
step : (b : ℕ) (text : List ℕ) (place end : ℕ) (quote bracket slash : Bool) → nat_eq b 34 ≡ quote → nat_eq b 93 ≡ bracket → nat_eq b 92 ≡ slash → cond quote (Some place) (cond bracket None (quote_from slash (place + 1) text)) ≡ Some end → (quote_from slash (place + 1) text ≡ Some end → FoundIn slash text (place + 1) end) → Found (b ∷ text) place end
step b text place end true bracket slash eq eb es e more =
    let here : place ≡ end = cc in
    record {
      ahead = 0;
      is_end = omega (arith, here);
      closes = record {
        spelled = [];
        rest = text;
        is_text = ap (λ x. x ∷ text) (eqb-true b 34 eq);
        is_ahead = refl;
        spells = none;
      };
    }
step b text place end false true slash eq eb es e more = absurd (cc)
step b text place end false false true eq eb es e more =
    let m = more e in
    let f = m.found in
    let here : b ≡ 92 = eqb-true b 92 es in
    let is_text : 92 ∷ m.byte ∷ m.behind ≡ b ∷ text = ap (λ x. x ∷ m.byte ∷ m.behind) (sym here) ∙ ap (λ t. b ∷ t) (sym m.is_text) in
    record {
      ahead = f.ahead + 2;
      is_end = omega (arith, f.is_end);
      closes = subst (λ (t : List ℕ). ClosesValue t (f.ahead + 2)) is_text (escape m.byte m.behind f.ahead (is_escaped m.byte) refl f.closes);
    }
step b text place end false false false eq eb es e more =
    let f = more e in
    let c = f.closes in
    let test : is_escaped b ≡ false = rw (eq, es, eb) refl in
    record {
      ahead = f.ahead + 1;
      is_end = omega (arith, f.is_end);
      closes = record {
        spelled = b ∷ c.spelled;
        rest = c.rest;
        is_text = ap (λ t. b ∷ t) c.is_text;
        is_ahead = omega (arith, c.is_ahead);
        spells = rw es (plain b c.spelled (unescaped_from false c.spelled) test c.spells);
      };
    }

found_in : (behind : Bool) (text : List ℕ) (place end : ℕ) → quote_from behind place text ≡ Some end → FoundIn behind text place end
found_in true [] place end e = absurd (cc)
found_in false [] place end e = absurd (cc)
found_in true (b ∷ text) place end e = record { byte = b; behind = text; is_text = refl; found = found_in false text (place + 1) end e }
found_in false (b ∷ text) place end e =
    step b text place end (nat_eq b 34) (nat_eq b 93) (nat_eq b 92) refl refl refl e (found_in (nat_eq b 92) text (place + 1) end)

-- what was read up to the closing quote
pub value_found : (text : List ℕ) (place : ℕ) → quote_from false 0 text ≡ Some place → IsValue text (unescaped_from false (take place text)) (drop 1 (drop place text))
value_found text place e =
    let f = found_in false text 0 place e in
    let c = f.closes in
    let n : place ≡ length c.spelled = omega (arith, f.is_end, c.is_ahead) in
    let front : take place text ≡ c.spelled = ap (λ k. take k text) n ∙ (ap (take (length c.spelled)) c.is_text ∙ take-append_seam c.spelled (34 ∷ c.rest)) in
    let back : drop place text ≡ 34 ∷ c.rest = ap (λ k. drop k text) n ∙ (ap (drop (length c.spelled)) c.is_text ∙ drop-append_seam c.spelled (34 ∷ c.rest)) in
    let value : IsValue text (unescaped_from false c.spelled) c.rest = record { spelled = c.spelled; is_text = c.is_text; spells = c.spells } in
    let left : IsValue text (unescaped_from false c.spelled) (drop 1 (drop place text)) = subst (λ (x : List ℕ). IsValue text (unescaped_from false c.spelled) x) (sym (ap (drop 1) back)) value in
    subst (λ (x : List ℕ). IsValue text (unescaped_from false x) (drop 1 (drop place text))) (sym front) left

-- nothing was found
pub value_none : (text value rest : List ℕ) → quote_from false 0 text ≡ None → ¬ IsValue text value rest
value_none text value rest e = λ h.
    let other = ap (quote_from false 0) h.is_text ∙ quote_is 0 h.spelled value rest h.spells in
    false≢true (ap is_some (sym e ∙ other))

-- the closing quote, where this byte is it, where it can't stand, and where it is another
pub quote_here : (behind : Bool) (text : List ℕ) (place b : ℕ) → place < length text → get_or text place 0 ≡ b → is_bare behind b 34 ≡ true → quote_from behind place (drop place text) ≡ Some place
quote_here behind text place b h e test = ap (quote_from behind place) (from_here text place b h e) ∙ rw test refl

pub quote_never : (behind : Bool) (text : List ℕ) (place b : ℕ) → place < length text → get_or text place 0 ≡ b → is_bare behind b 34 ≡ false → is_bare behind b 93 ≡ true → quote_from behind place (drop place text) ≡ None
quote_never behind text place b h e quote test = ap (quote_from behind place) (from_here text place b h e) ∙ rw (quote, test) refl

pub quote_later : (behind : Bool) (text : List ℕ) (place b : ℕ) → place < length text → get_or text place 0 ≡ b → is_bare behind b 34 ≡ false → is_bare behind b 93 ≡ false → quote_from behind place (drop place text) ≡ quote_from (is_bare behind b 92) (place + 1) (drop (place + 1) text)
quote_later behind text place b h e quote bracket = ap (quote_from behind place) (from_here text place b h e) ∙ rw (quote, bracket) refl

pub quote_nowhere : (behind : Bool) (text : List ℕ) (place : ℕ) → length text ≤ place → quote_from behind place (drop place text) ≡ None
quote_nowhere behind text place h = ap (quote_from behind place) (drop_all place text h)

-- what one more byte adds to a value
pub unescaped_more : (value : List ℕ) (behind : Bool) (text : List ℕ) (place b : ℕ) (whole : List ℕ) → place < length text → get_or text place 0 ≡ b → value ++ unescaped_from behind (drop place text) ≡ whole → (value ++ unescaped_byte behind b) ++ unescaped_from (is_bare behind b 92) (drop (place + 1) text) ≡ whole
unescaped_more value behind text place b whole h e so_far =
    let here : unescaped_from behind (drop place text) ≡ unescaped_byte behind b ++ unescaped_from (is_bare behind b 92) (drop (place + 1) text) =
    ap (unescaped_from behind) (from_here text place b h e) in
    append_assoc value (unescaped_byte behind b) (unescaped_from (is_bare behind b 92) (drop (place + 1) text))
    ∙ (ap (λ t. value ++ t) (sym here) ∙ so_far)

pub unescaped_all : (value : List ℕ) (behind : Bool) (text : List ℕ) (place : ℕ) (whole : List ℕ) → length text ≤ place → value ++ unescaped_from behind (drop place text) ≡ whole → value ≡ whole
unescaped_all value behind text place whole h so_far =
    let here : unescaped_from behind (drop place text) ≡ [] = ap (unescaped_from behind) (drop_all place text h) in
    sym (append-nil value) ∙ (ap (λ t. value ++ t) (sym here) ∙ so_far)

-- a text without backslashes spells itself
pub no_slash : (text : List ℕ) → list_any (λ b. nat_eq b 92) text ≡ false → unescaped_from false text ≡ text
no_slash [] e = refl
no_slash (b ∷ text) e =
    let tests = or_false (nat_eq b 92) (list_any (λ x. nat_eq x 92) text) e in
    rw tests.0 (ap (λ t. b ∷ t) (no_slash text tests.1))
