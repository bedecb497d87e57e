-- What stands behind each part of a stamp, and readings from their parts.
use Rattle.std.proofs.Common.{◌≡◌, ℕ, zero, suc, ◌+◌, ◌-◌, ◌/◌, ◌%◌, ◌<◌, ◌≤◌, inl, inr, Bool, false, ◌&&◌, nat_eq, Option, Some, List, [], ◌∷◌, ◌++◌, length, drop, refl, sym, ap, ◌∙◌, arith, ℤ, pos, ◌≤ℤ◌, unsigned_abs, length-append}
use Rattle.std.specs.Int.{IsInRange}
use Rattle.std.specs.List.{position}
use Rattle.std.proofs.Math.Seq.{drop-append_seam}
use Rattle.jiff_core.specs.Calendar.{IsBetween}
use Rattle.jiff_core.proofs.CalendarLemmas.{days_in_month_bounds}
use Rattle.jiff_core.specs.declared.civil.date.Date.{Date}
use Rattle.jiff_core.specs.declared.civil.time.Time.{Time}
use Rattle.sg_time.specs.declared.stamp.Stamp.{Stamp}
use Rattle.sg_time.specs.declared.local.LocalTime.{LocalTime}
use Rattle.sg_time.specs.Text.{month_name, month_names}
use Rattle.sg_time.specs.Reading.{date_form, clock_form, IsFraction, IsZone, IsMoment, IsIso, IsDay, year_by_receipt, IsBsd}
use Rattle.sg_time.proofs.Numbers.{behind_date, behind_clock, behind_two, two-digits_same}
use Rattle.sg_time.proofs.Texts.{length-month_name}

-- behind the date of an ISO stamp
pub iso_behind_date : (text behind : List ℕ) (date : Date) (stamp : Stamp) (len : ℕ) (r : IsIso text stamp len) → text ≡ date_form date ++ behind → behind ≡ 84 ∷ clock_form r.time ++ (r.fraction ++ (r.zone ++ r.rest))
iso_behind_date text behind date stamp len r e =
    behind_date (unsigned_abs date.year) date.month date.day (unsigned_abs r.date.year) r.date.month r.date.day behind (84 ∷ clock_form r.time ++ (r.fraction ++ (r.zone ++ r.rest))) text e r.is_text

-- behind a time of day
pub behind_time : (text s t : List ℕ) (a b : Time) → text ≡ clock_form a ++ s → text ≡ clock_form b ++ t → s ≡ t
behind_time text s t a b e f = behind_clock a.hour a.minute a.second b.hour b.minute b.second s t text e f

-- an ISO stamp, read part by part
pub iso_from_parts : (text t₁ t₂ t₃ t₄ fraction zone rest : List ℕ) (date : Date) (time : Time) (micros : ℕ) (stamp : Stamp) → IsBetween (pos 1) (pos 9998) date.year → text ≡ date_form date ++ t₁ → t₁ ≡ 84 ∷ t₂ → t₂ ≡ clock_form time ++ t₃ → IsFraction fraction micros → t₃ ≡ fraction ++ t₄ → IsZone zone stamp.offset → t₄ ≡ zone ++ rest → IsMoment stamp date time micros → IsIso text stamp (length text - length rest)
iso_from_parts text t₁ t₂ t₃ t₄ fraction zone rest date time micros stamp years e₀ e₁ e₂ is_fraction e₃ is_zone e₄ moment =
    let size : length rest ≤ length text = omega (arith, ap length e₀, ap length e₁, ap length e₂, ap length e₃, ap length e₄, length-append fraction t₄, length-append zone rest) in
    record {
      date = date;
      years = years;
      time = time;
      micros = micros;
      fraction = fraction;
      is_fraction = is_fraction;
      zone = zone;
      is_zone = is_zone;
      rest = rest;
      is_text = e₀ ∙ ap (λ t. date_form date ++ t) (e₁ ∙ ap (λ t. 84 ∷ t) (e₂ ∙ ap (λ t. clock_form time ++ t) (e₃ ∙ ap (λ t. fraction ++ t) e₄)));
      is_len = omega arith;
      moment = moment;
    }

-- behind a month's name
pub behind_month : (m n : ℕ) (s t text : List ℕ) → IsInRange 1 12 m → IsInRange 1 12 n → text ≡ month_name m ++ s → text ≡ month_name n ++ t → s ≡ t
behind_month m n s t text hm hn e f =
    let here : drop 3 text ≡ s = rw (e, ← length-month_name m hm) (drop-append_seam (month_name m) s) in
    let there : drop 3 text ≡ t = rw (f, ← length-month_name n hn) (drop-append_seam (month_name n) t) in
    sym here ∙ there

-- the first three bytes are the same
same_three : List ℕ → List ℕ → Bool
same_three [] ys = false
same_three (a ∷ []) ys = false
same_three (a ∷ b ∷ []) ys = false
same_three (a ∷ b ∷ c ∷ xs) [] = false
same_three (a ∷ b ∷ c ∷ xs) (d ∷ []) = false
same_three (a ∷ b ∷ c ∷ xs) (d ∷ e ∷ []) = false
same_three (a ∷ b ∷ c ∷ xs) (d ∷ e ∷ f ∷ ys) = nat_eq a d && (nat_eq b e && nat_eq c f)

-- the place among the months' names of the one that stands at the front
place : List ℕ → Option ℕ
place text = position (λ name. same_three name text) month_names

place-month_name : (m : ℕ) (rest : List ℕ) → IsInRange 1 12 m → place (month_name m ++ rest) ≡ Some (m - 1)
unfolding place same_three
place-month_name zero rest h = absurd (omega (arith, h.0))
place-month_name (suc zero) rest h = refl
place-month_name (suc (suc zero)) rest h = refl
place-month_name (suc (suc (suc zero))) rest h = refl
place-month_name (suc (suc (suc (suc zero)))) rest h = refl
place-month_name (suc (suc (suc (suc (suc zero))))) rest h = refl
place-month_name (suc (suc (suc (suc (suc (suc zero)))))) rest h = refl
place-month_name (suc (suc (suc (suc (suc (suc (suc zero))))))) rest h = refl
place-month_name (suc (suc (suc (suc (suc (suc (suc (suc zero)))))))) rest h = refl
place-month_name (suc (suc (suc (suc (suc (suc (suc (suc (suc zero))))))))) rest h = refl
place-month_name (suc (suc (suc (suc (suc (suc (suc (suc (suc (suc zero)))))))))) rest h = refl
place-month_name (suc (suc (suc (suc (suc (suc (suc (suc (suc (suc (suc zero))))))))))) rest h = refl
place-month_name (suc (suc (suc (suc (suc (suc (suc (suc (suc (suc (suc (suc zero)))))))))))) rest h = refl
place-month_name (suc (suc (suc (suc (suc (suc (suc (suc (suc (suc (suc (suc (suc m))))))))))))) rest h = absurd (omega (arith, h.1))

-- a month is known by its name
pub month_same : (m n : ℕ) (s t text : List ℕ) → IsInRange 1 12 m → IsInRange 1 12 n → text ≡ month_name m ++ s → text ≡ month_name n ++ t → m ≡ n
month_same m n s t text hm hn e f =
    let here = place-month_name m s hm in
    let there = place-month_name n t hn in
    let both : Some (m - 1) ≡ Some (n - 1) = sym here ∙ (ap place (sym e ∙ f) ∙ there) in
    let same : m - 1 ≡ n - 1 = cc in
    omega (arith, hm.0, hn.0)

-- a day is known by its text
pub day_same : (m n : ℕ) (x y s t text : List ℕ) → m < 100 → n < 100 → IsDay x m → IsDay y n → text ≡ x ++ s → text ≡ y ++ t → (m ≡ n) × (s ≡ t)
day_same m n x y s t text hm hn (inl p) (inl q) e f =
    let e' = e ∙ ap (λ z. z ++ s) p in
    let f' = f ∙ ap (λ z. z ++ t) q in
    (two-digits_same m n s t text hm hn e' f', behind_two m n s t text e' f')
day_same m n x y s t text hm hn (inl p) (inr q) e f =
    let g = sym (e ∙ ap (λ z. z ++ s) p) ∙ (f ∙ ap (λ z. z ++ t) q.1) in
    let first : 48 + m / 10 % 10 ≡ 32 = cc in
    absurd (omega arith)
day_same m n x y s t text hm hn (inr p) (inl q) e f =
    let g = sym (e ∙ ap (λ z. z ++ s) p.1) ∙ (f ∙ ap (λ z. z ++ t) q) in
    let first : 32 ≡ 48 + n / 10 % 10 = cc in
    absurd (omega arith)
day_same m n x y s t text hm hn (inr p) (inr q) e f =
    let g = sym (e ∙ ap (λ z. z ++ s) p.1) ∙ (f ∙ ap (λ z. z ++ t) q.1) in
    let ones : 48 + m / 1 % 10 ≡ 48 + n / 1 % 10 = cc in
    (omega (arith, p.0, q.0), ap (drop 2) g)

-- behind the month of a BSD stamp, and behind its day
pub bsd_behind_month : (text behind : List ℕ) (month : ℕ) (received : LocalTime) (offset : ℤ) (stamp : Stamp) (len : ℕ) (r : IsBsd text received offset stamp len) → IsInRange 1 12 month → text ≡ month_name month ++ behind → behind ≡ 32 ∷ (r.day ++ (32 ∷ clock_form r.time ++ r.rest))
bsd_behind_month text behind month received offset stamp len r in_range e =
    behind_month month r.date.month behind (32 ∷ (r.day ++ (32 ∷ clock_form r.time ++ r.rest))) text in_range r.date.month_in e r.is_text

pub bsd_month : (text behind : List ℕ) (month : ℕ) (received : LocalTime) (offset : ℤ) (stamp : Stamp) (len : ℕ) (r : IsBsd text received offset stamp len) → IsInRange 1 12 month → text ≡ month_name month ++ behind → r.date.month ≡ month
bsd_month text behind month received offset stamp len r in_range e =
    month_same r.date.month month (32 ∷ (r.day ++ (32 ∷ clock_form r.time ++ r.rest))) behind text r.date.month_in in_range r.is_text e

pub small_day : (d : Date) → d.day < 100
small_day d = omega (arith, d.day_in, days_in_month_bounds d.year d.month)

-- a BSD stamp, read part by part
pub bsd_from_parts : (text t₁ t₂ t₃ t₄ day rest : List ℕ) (date : Date) (time : Time) (received : LocalTime) (offset : ℤ) (stamp : Stamp) → pos 0 ≤ℤ date.year → date.year ≡ year_by_receipt received date.month → text ≡ month_name date.month ++ t₁ → t₁ ≡ 32 ∷ t₂ → IsDay day date.day → t₂ ≡ day ++ t₃ → t₃ ≡ 32 ∷ t₄ → t₄ ≡ clock_form time ++ rest → stamp.offset ≡ offset → IsMoment stamp date time 0 → IsBsd text received offset stamp (length text - length rest)
bsd_from_parts text t₁ t₂ t₃ t₄ day rest date time received offset stamp years by_receipt e₀ e₁ is_day e₂ e₃ e₄ same_offset moment =
    let size : length rest ≤ length text = omega (arith, ap length e₀, ap length e₁, ap length e₂, ap length e₃, ap length e₄, length-append (month_name date.month) t₁, length-append day t₃) in
    record {
      date = date;
      years = years;
      by_receipt = by_receipt;
      day = day;
      is_day = is_day;
      time = time;
      rest = rest;
      is_text = e₀ ∙ ap (λ t. month_name date.month ++ t) (e₁ ∙ ap (λ t. 32 ∷ t) (e₂ ∙ ap (λ t. day ++ t) (e₃ ∙ ap (λ t. 32 ∷ t) e₄)));
      is_len = omega arith;
      same_offset = same_offset;
      moment = moment;
    }
