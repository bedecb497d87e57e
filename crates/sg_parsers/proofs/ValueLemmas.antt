-- Values of keys, one byte on.
use Rattle.std.proofs.Common.{◌≡◌, ℕ, ◌+◌, ◌≤◌, ◌<◌, Bool, true, false, ◌||◌, nat_eq, get_or, append_assoc, append-nil, List, [], ◌∷◌, ◌++◌, length, drop, Some, None, refl, sym, ap, ◌∙◌, arith}
use Rattle.std.specs.List.{list_any, starts_with}
use Rattle.std.proofs.lemmas.List.{drop_all, drop-drop}
use Rattle.sg_parsers.specs.Values.{is_blank, plain_len, is_bare, quote_from, unescaped_byte, unescaped_from}
use Rattle.sg_msg.proofs.KeptTags.{or_false}
use Rattle.sg_list.proofs.ListLemmas.{from_here}

pub plain_here : (separator text : List ℕ) (place b : ℕ) → place < length text → get_or text place 0 ≡ b → is_blank b || starts_with nat_eq (drop place text) separator ≡ true → plain_len separator (drop place text) ≡ 0
plain_here separator text place b h e test =
    let here = from_here text place b h e in
    ap (plain_len separator) here ∙ rw (ap (λ t. is_blank b || starts_with nat_eq t separator) (sym here) ∙ test) refl

pub plain_later : (separator text : List ℕ) (place b : ℕ) → place < length text → get_or text place 0 ≡ b → is_blank b || starts_with nat_eq (drop place text) separator ≡ false → plain_len separator (drop place text) ≡ 1 + plain_len separator (drop (place + 1) text)
plain_later separator text place b h e test =
    let here = from_here text place b h e in
    ap (plain_len separator) here ∙ rw (ap (λ t. is_blank b || starts_with nat_eq t separator) (sym here) ∙ test) refl

pub plain_end : (separator text : List ℕ) (place : ℕ) → length text ≤ place → plain_len separator (drop place text) ≡ 0
plain_end separator text place h = ap (plain_len separator) (drop_all place text h)

-- the closing quote, where this byte is it, and where it is another
pub quote_here : (escaped : Bool) (text : List ℕ) (place b : ℕ) → place < length text → get_or text place 0 ≡ b → is_bare escaped b 34 ≡ true → quote_from escaped place (drop place text) ≡ Some place
quote_here escaped text place b h e test = ap (quote_from escaped place) (from_here text place b h e) ∙ rw test refl

pub quote_later : (escaped : Bool) (text : List ℕ) (place b : ℕ) → place < length text → get_or text place 0 ≡ b → is_bare escaped b 34 ≡ false → quote_from escaped place (drop place text) ≡ quote_from (is_bare escaped b 92) (place + 1) (drop (place + 1) text)
quote_later escaped text place b h e quote = ap (quote_from escaped place) (from_here text place b h e) ∙ rw quote refl

pub quote_nowhere : (escaped : Bool) (text : List ℕ) (place : ℕ) → length text ≤ place → quote_from escaped place (drop place text) ≡ None
quote_nowhere escaped text place h = ap (quote_from escaped place) (drop_all place text h)

-- what one more byte adds to a value
pub unescaped_more : (value : List ℕ) (escaped : Bool) (text : List ℕ) (place b : ℕ) (whole : List ℕ) → place < length text → get_or text place 0 ≡ b → value ++ unescaped_from escaped (drop place text) ≡ whole → (value ++ unescaped_byte escaped b) ++ unescaped_from (is_bare escaped b 92) (drop (place + 1) text) ≡ whole
unescaped_more value escaped text place b whole h e so_far =
    let here : unescaped_from escaped (drop place text) ≡ unescaped_byte escaped b ++ unescaped_from (is_bare escaped b 92) (drop (place + 1) text) = ap (unescaped_from escaped) (from_here text place b h e) in
    append_assoc value (unescaped_byte escaped b) (unescaped_from (is_bare escaped b 92) (drop (place + 1) text))
    ∙ (ap (λ t. value ++ t) (sym here) ∙ so_far)

pub unescaped_all : (value : List ℕ) (escaped : Bool) (text : List ℕ) (place : ℕ) (whole : List ℕ) → length text ≤ place → value ++ unescaped_from escaped (drop place text) ≡ whole → value ≡ whole
unescaped_all value escaped text place whole h so_far =
    let here : unescaped_from escaped (drop place text) ≡ [] = ap (unescaped_from escaped) (drop_all place text h) in
    sym (append-nil value) ∙ (ap (λ t. value ++ t) (sym here) ∙ so_far)

-- what follows the closing quote
pub behind-quotes : (len : ℕ) (text : List ℕ) → drop 1 (drop len (drop 1 text)) ≡ drop (len + 2) text
behind-quotes len text =
    let n : 1 + (len + 1) ≡ len + 2 = omega arith in
    drop-drop 1 len (drop 1 text) ∙ drop-drop (len + 1) 1 text ∙ ap (λ n. drop n text) n

-- a text without backslashes says itself
pub no_slash : (text : List ℕ) → list_any (λ b. nat_eq b 92) text ≡ false → unescaped_from false text ≡ text
no_slash [] e = refl
no_slash (b ∷ text) e =
    let tests = or_false (nat_eq b 92) (list_any (λ x. nat_eq x 92) text) e in
    rw tests.0 (ap (λ t. b ∷ t) (no_slash text tests.1))
