-- Texts at whose front something of known length stands.
use Rattle.std.proofs.Common.{◌≡◌, ℕ, ◌+◌, ◌-◌, ◌/◌, ◌%◌, ◌<◌, ◌≤◌, List, ◌∷◌, ◌++◌, drop, sym, ap, ◌∙◌, arith, refl, ℤ, pos, negsuc, ◌+ℤ◌, ◌-ℤ◌, ◌≤ℤ◌, unsigned_abs}
use Rattle.jiff_core.proofs.SignedLemmas.{signed_arith}
use Rattle.sg_time.specs.Text.{digits, date_text, clock_text}

-- what stands behind one byte, two digits, four digits, a date and a time of day
pub behind_byte : (a b : ℕ) (s t text : List ℕ) → text ≡ a ∷ s → text ≡ b ∷ t → s ≡ t
behind_byte a b s t text d e = ap (drop 1) (sym d ∙ e)

pub behind_two : (m n : ℕ) (s t text : List ℕ) → text ≡ digits 2 m ++ s → text ≡ digits 2 n ++ t → s ≡ t
behind_two m n s t text d e = ap (drop 2) (sym d ∙ e)

pub behind_four : (m n : ℕ) (s t text : List ℕ) → text ≡ digits 4 m ++ s → text ≡ digits 4 n ++ t → s ≡ t
behind_four m n s t text d e = ap (drop 4) (sym d ∙ e)

pub behind_date : (y m d y' m' d' : ℕ) (s t text : List ℕ) → text ≡ date_text y m d ++ s → text ≡ date_text y' m' d' ++ t → s ≡ t
behind_date y m d y' m' d' s t text e f = ap (drop 10) (sym e ∙ f)

pub behind_clock : (h m x h' m' x' : ℕ) (s t text : List ℕ) → text ≡ clock_text h m x ++ s → text ≡ clock_text h' m' x' ++ t → s ≡ t
behind_clock h m x h' m' x' s t text e f = ap (drop 8) (sym e ∙ f)

-- four digits are two and two
pub four-digits : (n : ℕ) (rest : List ℕ) → digits 4 n ++ rest ≡ digits 2 (n / 100) ++ (digits 2 (n % 100) ++ rest)
four-digits n rest = grind arith

-- a number is known by its digits
pub two-digits_same : (m n : ℕ) (s t text : List ℕ) → m < 100 → n < 100 → text ≡ digits 2 m ++ s → text ≡ digits 2 n ++ t → m ≡ n
two-digits_same m n s t text small also d e =
    let f = sym d ∙ e in
    let tens : 48 + m / 10 % 10 ≡ 48 + n / 10 % 10 = cc in
    let ones : 48 + m / 1 % 10 ≡ 48 + n / 1 % 10 = cc in
    omega arith

pub four-digits_same : (m n : ℕ) (s t text : List ℕ) → m < 10000 → n < 10000 → text ≡ digits 4 m ++ s → text ≡ digits 4 n ++ t → m ≡ n
four-digits_same m n s t text small also d e =
    let f = sym d ∙ e in
    let a : 48 + m / 1000 % 10 ≡ 48 + n / 1000 % 10 = cc in
    let b : 48 + m / 100 % 10 ≡ 48 + n / 100 % 10 = cc in
    let c : 48 + m / 10 % 10 ≡ 48 + n / 10 % 10 = cc in
    let g : 48 + m / 1 % 10 ≡ 48 + n / 1 % 10 = cc in
    omega arith

-- a number that isn't negative
pub abs-pos : (z : ℤ) → pos 0 ≤ℤ z → pos (unsigned_abs z) ≡ z
abs-pos (pos n) h = refl
abs-pos (negsuc n) h = absurd (omega (arith, signed_arith))

pub abs-bound : (z : ℤ) (n : ℕ) → pos 0 ≤ℤ z → z ≤ℤ pos n → unsigned_abs z ≤ n
abs-bound z n low high = let e = abs-pos z low in omega (arith, signed_arith)

pub abs-difference : (a b : ℤ) (d : ℕ) → 1 ≤ d → a +ℤ pos 1 ≡ b +ℤ pos d → unsigned_abs (a -ℤ b) + 1 ≡ d
abs-difference a b d low e =
    let gap : a -ℤ b ≡ pos (d - 1) = omega (arith, signed_arith) in
    rw gap (omega arith)
