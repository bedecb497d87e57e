-- A string in double quotes, read from its front.
use Rattle.std.proofs.Common.{◌≡◌, ℕ, zero, suc, ◌+◌, ◌<◌, ◌++◌, List, [], ◌∷◌, length, get_or, drop, Option, Some, None, refl, ap, sym, ◌∙◌, arith, append_assoc}
use Rattle.std.proofs.Math.Seq.{drop-cons}
use Rattle.std.proofs.lemmas.List.{drop-drop}
use Rattle.std.proofs.lemmas.Grind.{common_steps}
use Rattle.std.specs.Option.{option_map}
use Rattle.sg_lex.specs.declared.quoted.Quoted.{Quoted}
use Rattle.sg_lex.specs.Tokens.{escape, double_quoted, quoted_behind, quoted_later}

-- the string behind content that so many bytes spell
abbrev pub spelled_before : List ℕ → ℕ → Quoted → Quoted
spelled_before text count quoted = record { text = text ++ quoted.text; count = count + quoted.count }

same_quoted : (t u : List ℕ) (m n : ℕ) → t ≡ u → m ≡ n → (let q : Quoted = record { text = t; count = m } in q) ≡ record { text = u; count = n }
same_quoted t u m n p q = λ i. record { text = p i; count = q i }

spelled-none : (found : Option Quoted) → found ≡ option_map (spelled_before [] 0) found
spelled-none None = refl
spelled-none (Some q) = ap Some (same_quoted q.text q.text q.count (0 + q.count) refl (omega arith))

later-spelled : (k : ℕ) (found : Option Quoted) → option_map quoted_later (option_map (spelled_before [] k) found) ≡ option_map (spelled_before [] (suc k)) found
later-spelled k None = refl
later-spelled k (Some q) = ap Some (same_quoted q.text q.text (1 + (k + q.count)) (suc k + q.count) refl (omega arith))

double_quoted-skip : (k : ℕ) (bytes : List ℕ) → double_quoted k bytes ≡ option_map (spelled_before [] k) (double_quoted 0 (drop k bytes))
double_quoted-skip zero bytes = spelled-none (double_quoted 0 bytes)
double_quoted-skip (suc k) [] = refl
double_quoted-skip (suc k) (b ∷ bytes) = ap (option_map quoted_later) (double_quoted-skip k bytes) ∙ later-spelled k (double_quoted 0 (drop k bytes))

spelled-behind : (content : List ℕ) (place byte count : ℕ) (found : Option Quoted) → option_map (spelled_before content place) (option_map (quoted_behind byte 1) (option_map (spelled_before [] count) found)) ≡ option_map (spelled_before (content ++ byte ∷ []) (place + 1 + count)) found
spelled-behind content place byte count None = refl
spelled-behind content place byte count (Some q) =
    ap Some (same_quoted (content ++ byte ∷ q.text) ((content ++ byte ∷ []) ++ q.text) (place + (1 + (count + q.count))) (place + 1 + count + q.count) (sym (append_assoc content (byte ∷ []) q.text)) (omega arith))

-- a byte of content, and so many bytes passed over
pub double_quoted-more : (content : List ℕ) (place byte count : ℕ) (rest : List ℕ) → option_map (spelled_before content place) (option_map (quoted_behind byte 1) (double_quoted count rest)) ≡ option_map (spelled_before (content ++ byte ∷ []) (place + 1 + count)) (double_quoted 0 (drop count rest))
double_quoted-more content place byte count rest =
    ap (λ found. option_map (spelled_before content place) (option_map (quoted_behind byte 1) found)) (double_quoted-skip count rest)
    ∙ spelled-behind content place byte count (double_quoted 0 (drop count rest))

same_front : (text : List ℕ) (place : ℕ) → place < length text → drop place text ≡ get_or text place 0 ∷ drop (place + 1) text
same_front text place within =
    let next : suc place ≡ place + 1 = omega arith in
    drop-cons text place 0 within ∙ ap (λ n. get_or text place 0 ∷ drop n text) next

-- the step over an escape
pub double_quoted-escape : (text content : List ℕ) (place : ℕ) → place < length text → get_or text place 0 ≡ 92 → double_quoted 0 text ≡ option_map (spelled_before content place) (double_quoted 0 (drop place text)) → double_quoted 0 text ≡ option_map (spelled_before (content ++ (escape (drop (place + 1) text)).byte ∷ []) (place + 1 + (escape (drop (place + 1) text)).count)) (double_quoted 0 (drop (place + 1 + (escape (drop (place + 1) text)).count) text))
double_quoted-escape text content place within is before =
    let rest = drop (place + 1) text in
    before
    ∙ ap (λ bytes. option_map (spelled_before content place) (double_quoted 0 bytes)) (same_front text place within ∙ ap (λ b. b ∷ rest) is)
    ∙ double_quoted-more content place (escape rest).byte (escape rest).count rest
    ∙ ap (λ bytes. option_map (spelled_before (content ++ (escape rest).byte ∷ []) (place + 1 + (escape rest).count)) (double_quoted 0 bytes)) (drop-drop (escape rest).count (place + 1) text)

plain : (b : ℕ) (rest : List ℕ) → (b ≡ 34 → ⊥) → (b ≡ 92 → ⊥) → double_quoted 0 (b ∷ rest) ≡ option_map (quoted_behind b 1) (double_quoted 0 rest)
plain b rest quote slash = grind (arith, common_steps)

-- the step over another byte
pub double_quoted-plain : (text content : List ℕ) (place : ℕ) → place < length text → (get_or text place 0 ≡ 34 → ⊥) → (get_or text place 0 ≡ 92 → ⊥) → double_quoted 0 text ≡ option_map (spelled_before content place) (double_quoted 0 (drop place text)) → double_quoted 0 text ≡ option_map (spelled_before (content ++ get_or text place 0 ∷ []) (place + 1)) (double_quoted 0 (drop (place + 1) text))
double_quoted-plain text content place within quote slash before =
    let rest = drop (place + 1) text in
    let b = get_or text place 0 in
    before
    ∙ ap (λ bytes. option_map (spelled_before content place) (double_quoted 0 bytes)) (same_front text place within)
    ∙ ap (option_map (spelled_before content place)) (plain b rest quote slash)
    ∙ double_quoted-more content place b 0 rest
    ∙ ap (λ n. option_map (spelled_before (content ++ b ∷ []) n) (double_quoted 0 rest)) same_place
  where
    same_place : place + 1 + 0 ≡ place + 1
    same_place = omega arith
