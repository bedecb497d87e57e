-- A text has one stamp of each form at its front.
use Rattle.std.proofs.Common.{◌≡◌, ℕ, zero, suc, ◌+◌, ◌/◌, ◌%◌, ◌<◌, ◌≤◌, inl, inr, List, ◌∷◌, ◌++◌, length, drop, refl, sym, ap, ◌∙◌, arith, ℤ, pos, ◌+ℤ◌, ◌*ℤ◌, ◌≤ℤ◌, unsigned_abs, neg_ℤ}
use Rattle.std.specs.Int.{IsInRange}
use Rattle.jiff_core.specs.Calendar.{IsBetween}
use Rattle.jiff_core.specs.Date.{epoch_day}
use Rattle.jiff_core.specs.Time.{time_seconds}
use Rattle.jiff_core.specs.declared.civil.date.Date.{Date}
use Rattle.jiff_core.specs.declared.civil.time.Time.{Time}
use Rattle.jiff_core.proofs.SignedLemmas.{signed_arith}
use Rattle.sg_time.specs.declared.stamp.Stamp.{Stamp}
use Rattle.sg_time.specs.declared.local.LocalTime.{LocalTime}
use Rattle.sg_time.specs.Stamp.{local_of}
use Rattle.sg_time.specs.Text.{month_name, minutes_text}
use Rattle.sg_time.specs.Reading.{date_form, clock_form, IsDigit, IsFraction, IsZone, IsMoment, IsIso, IsBsd, micros_from, year_by_receipt}
use Rattle.sg_time.specs.Reading.IsZone.{zulu, east, west}
use Rattle.sg_time.proofs.Numbers.{two-digits_same, four-digits_same, abs-pos, abs-bound}
use Rattle.sg_time.proofs.Fractions.{StartsZone, starts_zone}
use Rattle.sg_time.proofs.Readings.{month_same, behind_month, day_same, small_day}
use Rattle.sg_r3164.proofs.Runs.{run_same}

abbrev stamp_of : ℤ → ℤ → Stamp
stamp_of at offset = record { at = at; offset = offset }

-- a stamp is known by its local time and its offset
stamp_same : (a b : Stamp) → local_of a ≡ local_of b → a.offset ≡ b.offset → a ≡ b
stamp_same a b local offset =
    let at : a.at ≡ b.at = omega (arith, signed_arith, local, offset) in
    ap (λ x. stamp_of x a.offset) at ∙ ap (λ y. stamp_of b.at y) offset

-- a date's text, a clock's and an offset's
date_same : (a b : Date) (s t : List ℕ) → IsBetween (pos 1) (pos 9998) a.year → IsBetween (pos 1) (pos 9998) b.year → date_form a ++ s ≡ date_form b ++ t → (epoch_day a ≡ epoch_day b) × (s ≡ t)
date_same a b s t ha hb e =
    let la : pos 0 ≤ℤ a.year = omega (arith, signed_arith, ha.0) in
    let lb : pos 0 ≤ℤ b.year = omega (arith, signed_arith, hb.0) in
    let ua = abs-bound a.year 9998 la ha.1 in
    let ub = abs-bound b.year 9998 lb hb.1 in
    let number : unsigned_abs a.year ≡ unsigned_abs b.year =
    four-digits_same (unsigned_abs a.year) (unsigned_abs b.year) (drop 4 (date_form a ++ s)) (drop 4 (date_form b ++ t)) (date_form a ++ s) (omega arith) (omega arith) refl e in
    let year : a.year ≡ b.year = sym (abs-pos a.year la) ∙ (ap pos number ∙ abs-pos b.year lb) in
    let ma = a.month_in in
    let mb = b.month_in in
    let month : a.month ≡ b.month =
    two-digits_same a.month b.month (drop 7 (date_form a ++ s)) (drop 7 (date_form b ++ t)) (drop 5 (date_form a ++ s)) (omega arith) (omega arith) refl (ap (drop 5) e) in
    let day : a.day ≡ b.day =
    two-digits_same a.day b.day s t (drop 8 (date_form a ++ s)) (small_day a) (small_day b) refl (ap (drop 8) e) in
    (cc, ap (drop 10) e)

clock_same : (a b : Time) (s t : List ℕ) → clock_form a ++ s ≡ clock_form b ++ t → (time_seconds a ≡ time_seconds b) × (s ≡ t)
clock_same a b s t e =
    let hour : a.hour ≡ b.hour =
    two-digits_same a.hour b.hour (drop 2 (clock_form a ++ s)) (drop 2 (clock_form b ++ t)) (clock_form a ++ s) (omega (arith, a.hour_in)) (omega (arith, b.hour_in)) refl e in
    let minute : a.minute ≡ b.minute =
    two-digits_same a.minute b.minute (drop 5 (clock_form a ++ s)) (drop 5 (clock_form b ++ t)) (drop 3 (clock_form a ++ s)) (omega (arith, a.minute_in)) (omega (arith, b.minute_in)) refl (ap (drop 3) e) in
    let second : a.second ≡ b.second =
    two-digits_same a.second b.second s t (drop 6 (clock_form a ++ s)) (omega (arith, a.second_in)) (omega (arith, b.second_in)) refl (ap (drop 6) e) in
    (omega (arith, hour, minute, second), ap (drop 8) e)

minutes_same : (m n : ℕ) (s t : List ℕ) → m < 1440 → n < 1440 → minutes_text m ++ s ≡ minutes_text n ++ t → (m ≡ n) × (s ≡ t)
minutes_same m n s t hm hn e =
    let hours : m / 60 ≡ n / 60 =
    two-digits_same (m / 60) (n / 60) (drop 2 (minutes_text m ++ s)) (drop 2 (minutes_text n ++ t)) (minutes_text m ++ s) (omega arith) (omega arith) refl e in
    let minutes : m % 60 ≡ n % 60 =
    two-digits_same (m % 60) (n % 60) s t (drop 3 (minutes_text m ++ s)) (omega arith) (omega arith) refl (ap (drop 3) e) in
    (omega arith, ap (drop 5) e)

pub first_same : (a b : ℕ) (s t : List ℕ) → a ∷ s ≡ b ∷ t → a ≡ b
first_same a b s t e = cc

zone_same : (x y s t : List ℕ) (a b : ℤ) → IsZone x a → IsZone y b → x ++ s ≡ y ++ t → (a ≡ b) × (s ≡ t)
zone_same _ _ s t _ _ zulu zulu e = (refl, ap (drop 1) e)
zone_same _ _ s t _ _ zulu (east n h) e = absurd (omega (arith, first_same 90 43 _ _ e))
zone_same _ _ s t _ _ zulu (west n h) e = absurd (omega (arith, first_same 90 45 _ _ e))
zone_same _ _ s t _ _ (east m h) zulu e = absurd (omega (arith, first_same 43 90 _ _ e))
zone_same _ _ s t _ _ (west m h) zulu e = absurd (omega (arith, first_same 45 90 _ _ e))
zone_same _ _ s t _ _ (east m h) (west n k) e = absurd (omega (arith, first_same 43 45 _ _ e))
zone_same _ _ s t _ _ (west m h) (east n k) e = absurd (omega (arith, first_same 45 43 _ _ e))
zone_same _ _ s t _ _ (east m h) (east n k) e =
    let r = minutes_same m n s t h k (ap (drop 1) e) in
    (ap pos r.0, r.1)
zone_same _ _ s t _ _ (west m h) (west n k) e =
    let r = minutes_same m n s t h k (ap (drop 1) e) in
    (ap (λ n. neg_ℤ (pos n)) r.0, r.1)

-- what begins an offset isn't a dot, nor a digit
no_dot : (x s t : List ℕ) (a : ℤ) → IsZone x a → ¬ (x ++ s ≡ 46 ∷ t)
no_dot x s t a h = λ e.
    let z = starts_zone x a h in
    let f : z.first ∷ (z.rest ++ s) ≡ 46 ∷ t = sym (ap (λ l. l ++ s) z.is) ∙ e in
    let same : z.first ≡ 46 = cc in
    z.no_dot same

no_digit : (x : List ℕ) (z : StartsZone x) → ¬ IsDigit z.first
no_digit x z = λ d. elim z.no_digit [ inl low ↦ omega (arith, d.0) | inr high ↦ omega (arith, d.1) ]

fraction_same : (f g x y s t : List ℕ) (m n : ℕ) (a b : ℤ) → IsFraction f m → IsFraction g n → IsZone x a → IsZone y b → f ++ (x ++ s) ≡ g ++ (y ++ t) → (m ≡ n) × (x ++ s ≡ y ++ t)
fraction_same f g x y s t m n a b (inl p) (inl q) hx hy e =
    (p.1 ∙ sym q.1, sym (ap (λ l. l ++ (x ++ s)) p.0) ∙ (e ∙ ap (λ l. l ++ (y ++ t)) q.0))
fraction_same f g x y s t m n a b (inl p) (inr (es, (is, all, some, most, value))) hx hy e =
    absurd (no_dot x s (es ++ (y ++ t)) a hx (sym (ap (λ l. l ++ (x ++ s)) p.0) ∙ (e ∙ ap (λ l. l ++ (y ++ t)) is)))
fraction_same f g x y s t m n a b (inr (ds, (is, all, some, most, value))) (inl q) hx hy e =
    absurd (no_dot y t (ds ++ (x ++ s)) b hy (sym (ap (λ l. l ++ (y ++ t)) q.0) ∙ (sym e ∙ ap (λ l. l ++ (x ++ s)) is)))
fraction_same f g x y s t m n a b (inr (ds, (is, all, some, most, value))) (inr (es, (is', all', some', most', value'))) hx hy e =
    let p = starts_zone x a hx in
    let q = starts_zone y b hy in
    let behind : ds ++ (x ++ s) ≡ es ++ (y ++ t) =
    ap (drop 1) (sym (ap (λ l. l ++ (x ++ s)) is) ∙ (e ∙ ap (λ l. l ++ (y ++ t)) is')) in
    let spelled : ds ++ p.first ∷ (p.rest ++ s) ≡ es ++ q.first ∷ (q.rest ++ t) =
    sym (ap (λ l. ds ++ (l ++ s)) p.is) ∙ (behind ∙ ap (λ l. es ++ (l ++ t)) q.is) in
    let r = run_same IsDigit ds es p.first q.first (p.rest ++ s) (q.rest ++ t) all all' (no_digit x p) (no_digit y q) spelled in (
      value ∙ (ap (micros_from 100000) r.0 ∙ sym value'),
      ap (λ l. l ++ s) p.is ∙ (r.1 ∙ sym (ap (λ l. l ++ t) q.is)),
    )

-- moments of one date, time of day and fraction
moment_same : (a b : Stamp) (d e : Date) (x y : Time) (m n : ℕ) → IsMoment a d x m → IsMoment b e y n → epoch_day d ≡ epoch_day e → time_seconds x ≡ time_seconds y → m ≡ n → local_of a ≡ local_of b
moment_same a b d e x y m n ha hb day time micros =
    let same : ((epoch_day d *ℤ pos 86400 +ℤ pos (time_seconds x)) *ℤ pos 1000000) +ℤ pos m ≡ ((epoch_day e *ℤ pos 86400 +ℤ pos (time_seconds y)) *ℤ pos 1000000) +ℤ pos n =
    rw (day, time, micros) refl in
    ha ∙ (same ∙ sym hb)

pub iso_once : (text : List ℕ) (a b : Stamp) (m n : ℕ) → IsIso text a m → IsIso text b n → (a ≡ b) × (m ≡ n)
iso_once text a b m n r q =
    let date = date_same r.date q.date (84 ∷ (clock_form r.time ++ (r.fraction ++ (r.zone ++ r.rest)))) (84 ∷ (clock_form q.time ++ (q.fraction ++ (q.zone ++ q.rest)))) r.years q.years (sym r.is_text ∙ q.is_text) in
    let clock = clock_same r.time q.time (r.fraction ++ (r.zone ++ r.rest)) (q.fraction ++ (q.zone ++ q.rest)) (ap (drop 1) date.1) in
    let fraction = fraction_same r.fraction q.fraction r.zone q.zone r.rest q.rest r.micros q.micros a.offset b.offset r.is_fraction q.is_fraction r.is_zone q.is_zone clock.1 in
    let zone = zone_same r.zone q.zone r.rest q.rest a.offset b.offset r.is_zone q.is_zone fraction.1 in
    let size = ap length zone.1 in (
      stamp_same a b (moment_same a b r.date q.date r.time q.time r.micros q.micros r.moment q.moment date.0 clock.0 fraction.0) zone.0,
      omega (arith, r.is_len, q.is_len, size),
    )

pub bsd_once : (text : List ℕ) (received : LocalTime) (offset : ℤ) (a b : Stamp) (m n : ℕ) → IsBsd text received offset a m → IsBsd text received offset b n → (a ≡ b) × (m ≡ n)
bsd_once text received offset a b m n r q =
    let s : List ℕ = 32 ∷ (r.day ++ (32 ∷ clock_form r.time ++ r.rest)) in
    let t : List ℕ = 32 ∷ (q.day ++ (32 ∷ clock_form q.time ++ q.rest)) in
    let month = month_same r.date.month q.date.month s t text r.date.month_in q.date.month_in r.is_text q.is_text in
    let behind = behind_month r.date.month q.date.month s t text r.date.month_in q.date.month_in r.is_text q.is_text in
    let day = day_same r.date.day q.date.day r.day q.day (32 ∷ clock_form r.time ++ r.rest) (32 ∷ clock_form q.time ++ q.rest) (r.day ++ (32 ∷ clock_form r.time ++ r.rest)) (small_day r.date) (small_day q.date) r.is_day q.is_day refl (ap (drop 1) behind) in
    let clock = clock_same r.time q.time r.rest q.rest (ap (drop 1) day.1) in
    let year : r.date.year ≡ q.date.year = r.by_receipt ∙ (ap (year_by_receipt received) month ∙ sym q.by_receipt) in
    let number : r.date.day ≡ q.date.day = day.0 in
    let epoch : epoch_day r.date ≡ epoch_day q.date = cc in
    let size = ap length clock.1 in (
      stamp_same a b (moment_same a b r.date q.date r.time q.time 0 0 r.moment q.moment epoch clock.0 refl) (r.same_offset ∙ sym q.same_offset),
      omega (arith, r.is_len, q.is_len, size),
    )

-- a month's name begins with a letter, and a year with a digit
letter : (m b : ℕ) (s t : List ℕ) → IsInRange 1 12 m → month_name m ++ s ≡ b ∷ t → 65 ≤ b
letter zero b s t h e = absurd (omega (arith, h.0))
letter (suc zero) b s t h e = let same : 74 ≡ b = cc in omega arith
letter (suc (suc zero)) b s t h e = let same : 70 ≡ b = cc in omega arith
letter (suc (suc (suc zero))) b s t h e = let same : 77 ≡ b = cc in omega arith
letter (suc (suc (suc (suc zero)))) b s t h e = let same : 65 ≡ b = cc in omega arith
letter (suc (suc (suc (suc (suc zero))))) b s t h e = let same : 77 ≡ b = cc in omega arith
letter (suc (suc (suc (suc (suc (suc zero)))))) b s t h e = let same : 74 ≡ b = cc in omega arith
letter (suc (suc (suc (suc (suc (suc (suc zero))))))) b s t h e = let same : 74 ≡ b = cc in omega arith
letter (suc (suc (suc (suc (suc (suc (suc (suc zero)))))))) b s t h e = let same : 65 ≡ b = cc in omega arith
letter (suc (suc (suc (suc (suc (suc (suc (suc (suc zero))))))))) b s t h e = let same : 83 ≡ b = cc in omega arith
letter (suc (suc (suc (suc (suc (suc (suc (suc (suc (suc zero)))))))))) b s t h e = let same : 79 ≡ b = cc in omega arith
letter (suc (suc (suc (suc (suc (suc (suc (suc (suc (suc (suc zero))))))))))) b s t h e = let same : 78 ≡ b = cc in omega arith
letter (suc (suc (suc (suc (suc (suc (suc (suc (suc (suc (suc (suc zero)))))))))))) b s t h e = let same : 68 ≡ b = cc in omega arith
letter (suc (suc (suc (suc (suc (suc (suc (suc (suc (suc (suc (suc (suc m))))))))))))) b s t h e = absurd (omega (arith, h.1))

pub bsd_not_iso : (text : List ℕ) (received : LocalTime) (offset : ℤ) (a b : Stamp) (m n : ℕ) → IsBsd text received offset a m → ¬ IsIso text b n
bsd_not_iso text received offset a b m n r = λ q.
    let year = unsigned_abs q.date.year in
    let rest : List ℕ = drop 1 (date_form q.date ++ (84 ∷ (clock_form q.time ++ (q.fraction ++ (q.zone ++ q.rest))))) in
    let low : 65 ≤ 48 + year / 1000 % 10 =
    letter r.date.month (48 + year / 1000 % 10) (32 ∷ (r.day ++ (32 ∷ clock_form r.time ++ r.rest))) rest r.date.month_in (sym r.is_text ∙ q.is_text) in
    omega arith
