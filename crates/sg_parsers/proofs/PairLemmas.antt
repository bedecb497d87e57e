-- Pairs of a text, one after another.
use Rattle.std.proofs.Common.{◌≡◌, ℕ, zero, suc, ◌+◌, ◌-◌, ◌≤◌, ◌<◌, Bool, true, false, cond, nat_eq, List, [], ◌∷◌, ◌++◌, length, take, drop, refl, sym, ap, ◌∙◌, arith}
use Rattle.std.proofs.lemmas.List.{append_assoc, drop-drop}
use Rattle.sg_msg.specs.Message.{NameValue}
use Rattle.sg_parsers.specs.declared.kv.Kv.{Kv}
use Rattle.sg_parsers.specs.Values.{key_len, quoted_len, front_value, value_len}
use Rattle.sg_parsers.specs.Pairs.{begins_pair, behind_key, named, front_pairs, front_len, pairs_from}
use Rattle.sg_parsers.proofs.FieldLemmas.{some_len}

-- bytes that are passed over
skipped : (kv : Kv) (n : ℕ) (text : List ℕ) → pairs_from kv n text ≡ pairs_from kv 0 (drop n text)
skipped kv zero text = refl
skipped kv (suc n) [] = refl
skipped kv (suc n) (b ∷ text) = skipped kv n text

-- the front takes at least a byte
pub some_front : (kv : Kv) (text : List ℕ) → 1 ≤ front_len kv text
some_front kv text = by (begins_pair kv text) refl
  where
    other : (test : Bool) → nat_eq (key_len text) 0 ≡ test → begins_pair kv text ≡ false → 1 ≤ front_len kv text
    other true is none = rw (none, is) (omega arith)
    other false is none = rw (none, is) (some_len (key_len text) is)

    by : (test : Bool) → begins_pair kv text ≡ test → 1 ≤ front_len kv text
    by true is = rw is (omega arith)
    by false is = other (nat_eq (key_len text) 0) refl is

pub front_first : (kv : Kv) (text : List ℕ) → 0 < length text → pairs_from kv 0 text ≡ front_pairs kv text ++ pairs_from kv 0 (drop (front_len kv text) text)
front_first kv [] h = absurd (omega arith)
front_first kv (b ∷ text) h =
    let some = some_front kv (b ∷ text) in
    let one : suc (front_len kv (b ∷ text) - 1) ≡ front_len kv (b ∷ text) = omega (arith, some) in
    ap (λ t. front_pairs kv (b ∷ text) ++ t) (skipped kv (front_len kv (b ∷ text) - 1) text ∙ ap (λ n. pairs_from kv 0 (drop n (b ∷ text))) one)

-- what a key with its value gives
pub pair-front : (kv : Kv) (text key name value w prefix separator : List ℕ) (len : ℕ) → prefix ≡ kv.prefix → separator ≡ kv.pair_separator → len ≡ key_len text → begins_pair kv text ≡ true
    → key ≡ take len text → w ≡ drop 1 (drop len text) → name ≡ prefix ++ key → value ≡ front_value separator (quoted_len w) w → named name value ≡ front_pairs kv text
pair-front kv text key name value w prefix separator len prefix-is separator-is len-is begins key-is w-is name-is value-is =
    let k : key ≡ take (key_len text) text = key-is ∙ ap (λ n. take n text) len-is in
    let r : w ≡ behind_key text = w-is ∙ drop-drop 1 len text ∙ ap (λ n. drop (n + 1) text) len-is in
    let called : name ≡ kv.prefix ++ take (key_len text) text = name-is ∙ (λ i. prefix-is i ++ k i) in
    let says : value ≡ front_value kv.pair_separator (quoted_len (behind_key text)) (behind_key text) = value-is ∙ (λ i. front_value (separator-is i) (quoted_len (r i)) (r i)) in
    (λ i. named (called i) (says i))
    ∙ sym (ap (λ (b : Bool). cond b (named (kv.prefix ++ take (key_len text) text) (front_value kv.pair_separator (quoted_len (behind_key text)) (behind_key text))) []) begins)

-- and what follows it
pub pair-rest : (kv : Kv) (text w left separator : List ℕ) (len : ℕ) → separator ≡ kv.pair_separator → len ≡ key_len text → begins_pair kv text ≡ true
    → w ≡ drop 1 (drop len text) → left ≡ drop (value_len separator (quoted_len w) w) w → left ≡ drop (front_len kv text) text
pair-rest kv text w left separator len separator-is len-is begins w-is left-is =
    let r : w ≡ behind_key text = w-is ∙ drop-drop 1 len text ∙ ap (λ n. drop (n + 1) text) len-is in
    let v : ℕ = value_len kv.pair_separator (quoted_len (behind_key text)) (behind_key text) in
    let here : left ≡ drop v (behind_key text) = left-is ∙ (λ i. drop (value_len (separator-is i) (quoted_len (r i)) (r i)) (r i)) in
    here ∙ drop-drop v (key_len text + 1) text
    ∙ sym (ap (λ (b : Bool). drop (cond b (key_len text + 1 + v) (cond (nat_eq (key_len text) 0) 1 (key_len text))) text) begins)

-- one front on
pub front-on : (kv : Kv) (old new : List NameValue) (text left : List ℕ) (whole : List NameValue) → 0 < length text → new ≡ old ++ front_pairs kv text → left ≡ drop (front_len kv text) text
    → old ++ pairs_from kv 0 text ≡ whole → new ++ pairs_from kv 0 left ≡ whole
front-on kv old new text left whole some new-is left-is so_far =
    let later = pairs_from kv 0 (drop (front_len kv text) text) in
    (λ i. new-is i ++ pairs_from kv 0 (left-is i)) ∙ append_assoc old (front_pairs kv text) later
    ∙ ap (λ ps. old ++ ps) (sym (front_first kv text some)) ∙ so_far
