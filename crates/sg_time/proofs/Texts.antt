-- The texts with a fraction of six digits, cut to the digits that are asked for.
use Rattle.std.proofs.Common.{◌≡◌, ℕ, zero, suc, ◌+◌, ◌≤◌, nat_eq, nat_lt, true, false, List, [], ◌∷◌, ◌++◌, take, length, get_or, codes, cond, refl, arith, ap, ◌∙◌, Result, Ok, Err, ℤ, OnOk, is_ok, length-append}
use Rattle.std.specs.Int.{IsInRange}
use Rattle.std.proofs.Math.Seq.{take-append-add}
use Rattle.sg_time.specs.declared.local.LocalTime.{LocalTime}
use Rattle.sg_time.specs.Text.{digits, date_text, clock_text, fraction_text, offset_text, month_name, day_text, iso_local_text, bsd_local_text}

-- a text with six digits of a fraction behind it, cut
pub take-fraction : (xs : List ℕ) (n micros : ℕ) → n ≤ 6 → take (length xs + cond (nat_eq n 0) 0 (1 + n)) (xs ++ 46 ∷ digits 6 micros) ≡ xs ++ fraction_text n micros
take-fraction xs zero micros h = take-append-add xs _ _
take-fraction xs (suc zero) micros h = take-append-add xs _ _
take-fraction xs (suc (suc zero)) micros h = take-append-add xs _ _
take-fraction xs (suc (suc (suc zero))) micros h = take-append-add xs _ _
take-fraction xs (suc (suc (suc (suc zero)))) micros h = take-append-add xs _ _
take-fraction xs (suc (suc (suc (suc (suc zero))))) micros h = take-append-add xs _ _
take-fraction xs (suc (suc (suc (suc (suc (suc zero)))))) micros h = take-append-add xs _ _
take-fraction xs (suc (suc (suc (suc (suc (suc (suc n))))))) micros h = absurd (omega arith)

-- the ISO text
pub iso_cut : (local : LocalTime) (offset : ℤ) (n len : ℕ) (whole : List ℕ) → n ≤ 6 → len ≡ 19 + cond (nat_eq n 0) 0 (1 + n) → whole ≡ date_text local.year local.month local.day ++ codes "T" ++ clock_text local.hour local.minute local.second ++ (codes "." ++ digits 6 local.microsecond) → take len whole ++ offset_text offset ≡ iso_local_text local offset n
iso_cut local offset n len whole most is_len is =
    rw (is_len, is) (ap (λ t. t ++ offset_text offset) (take-fraction (date_text local.year local.month local.day ++ codes "T" ++ clock_text local.hour local.minute local.second) n local.microsecond most))

-- a month's name has three bytes
pub length-month_name : (m : ℕ) → IsInRange 1 12 m → length (month_name m) ≡ 3
length-month_name zero h = absurd (omega (arith, h.0))
length-month_name (suc zero) h = refl
length-month_name (suc (suc zero)) h = refl
length-month_name (suc (suc (suc zero))) h = refl
length-month_name (suc (suc (suc (suc zero)))) h = refl
length-month_name (suc (suc (suc (suc (suc zero))))) h = refl
length-month_name (suc (suc (suc (suc (suc (suc zero)))))) h = refl
length-month_name (suc (suc (suc (suc (suc (suc (suc zero))))))) h = refl
length-month_name (suc (suc (suc (suc (suc (suc (suc (suc zero)))))))) h = refl
length-month_name (suc (suc (suc (suc (suc (suc (suc (suc (suc zero))))))))) h = refl
length-month_name (suc (suc (suc (suc (suc (suc (suc (suc (suc (suc zero)))))))))) h = refl
length-month_name (suc (suc (suc (suc (suc (suc (suc (suc (suc (suc (suc zero))))))))))) h = refl
length-month_name (suc (suc (suc (suc (suc (suc (suc (suc (suc (suc (suc (suc zero)))))))))))) h = refl
length-month_name (suc (suc (suc (suc (suc (suc (suc (suc (suc (suc (suc (suc (suc m))))))))))))) h = absurd (omega (arith, h.1))

-- and a day two
pub length-day_text : (d : ℕ) → length (day_text d) ≡ 2
length-day_text d = elim (nat_lt d 10) as (λ b. length (cond b (codes " " ++ digits 1 d) (digits 2 d)) ≡ 2) [ true ↦ refl | false ↦ refl ]

-- the BSD text
pub bsd_cut : (local : LocalTime) (n len : ℕ) (whole : List ℕ) → IsInRange 1 12 local.month → n ≤ 6 → len ≡ 15 + cond (nat_eq n 0) 0 (1 + n) → whole ≡ month_name local.month ++ codes " " ++ day_text local.day ++ codes " " ++ clock_text local.hour local.minute local.second ++ (codes "." ++ digits 6 local.microsecond) → take len whole ≡ bsd_local_text local n
bsd_cut local n len whole month most is_len is =
    let head = month_name local.month ++ codes " " ++ day_text local.day ++ codes " " ++ clock_text local.hour local.minute local.second in
    let size : length head ≡ 15 = simp length-append (omega (arith, length-month_name local.month month, length-day_text local.day)) in
    let cut = take-fraction head n local.microsecond most in
    rw (is_len, is, ← size) cut

-- lists by their elements
pub three : (xs : List ℕ) → length xs ≡ 3 → xs ≡ get_or xs 0 0 ∷ get_or xs 1 0 ∷ get_or xs 2 0 ∷ []
three [] h = absurd (omega arith)
three (a ∷ []) h = absurd (omega arith)
three (a ∷ b ∷ []) h = absurd (omega arith)
three (a ∷ b ∷ c ∷ []) h = refl
three (a ∷ b ∷ c ∷ d ∷ xs) h = absurd (omega arith)

pub two : (xs : List ℕ) → length xs ≡ 2 → xs ≡ get_or xs 0 0 ∷ get_or xs 1 0 ∷ []
two [] h = absurd (omega arith)
two (a ∷ []) h = absurd (omega arith)
two (a ∷ b ∷ []) h = refl
two (a ∷ b ∷ c ∷ xs) h = absurd (omega arith)

-- what was appended
pub on_ok-appended : {T E : Type 0} (r : Result T E) (new old more text : List ℕ) → more ≡ text → new ≡ cond (is_ok r) (old ++ more) old → OnOk r (new ≡ old ++ text)
on_ok-appended (Ok x) new old more text same e = e ∙ ap (λ t. old ++ t) same
on_ok-appended (Err x) new old more text same e = tt

pub on_ok-same : {T E : Type 0} (r : Result T E) (new old more text : List ℕ) → more ≡ text → OnOk r (new ≡ old ++ more) → OnOk r (new ≡ old ++ text)
on_ok-same (Ok x) new old more text same e = e ∙ ap (λ t. old ++ t) same
on_ok-same (Err x) new old more text same e = tt
