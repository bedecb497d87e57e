-- Stamps that were written are read.
use Rattle.std.proofs.Common.{◌≡◌, ℕ, zero, suc, ◌≤◌, inl, inr, Bool, true, false, cond, Option, Some, None, List, ◌∷◌, ◌++◌, length, take, codes, refl, ap, ◌∙◌, subst, arith, ℤ, pos, negsuc, ◌+ℤ◌, ◌-ℤ◌, ◌*ℤ◌, ◌≤ℤ◌, unsigned_abs, length-append, append_assoc}
use Rattle.std.specs.Prelude.{All, int_le}
use Rattle.std.specs.Option.{ForSome}
use Rattle.std.proofs.lemmas.Int.{ints}
use Rattle.std.proofs.lemmas.List.{length-take-le}
use Rattle.std.proofs.lemmas.List.Elements.{All-nil, All-cons, All-take}
use Rattle.std.proofs.Math.Seq.{drop-append_seam}
use Rattle.jiff_core.specs.Calendar.{IsBetween}
use Rattle.jiff_core.specs.Date.{epoch_day}
use Rattle.jiff_core.specs.Time.{time_seconds}
use Rattle.jiff_core.specs.declared.civil.date.Date.{Date}
use Rattle.jiff_core.specs.declared.civil.time.Time.{Time}
use Rattle.sg_time.specs.declared.stamp.Stamp.{Stamp}
use Rattle.sg_time.specs.declared.local.LocalTime.{LocalTime}
use Rattle.sg_time.specs.Stamp.{IsValidStamp}
use Rattle.sg_time.specs.Text.{digits, date_text, clock_text, fraction_text, offset_text, iso_local_text}
use Rattle.sg_time.specs.Reading.{date_form, clock_form, IsDigit, micros_from, IsFraction, IsZone}
use Rattle.sg_time.specs.Reading.IsZone.{east, west}
use Rattle.sg_template.specs.Zone.{has_year, shown_stamp}
use Rattle.sg_r5424.specs.Grammar.{IsStamp}
use Rattle.sg_r5424.proofs.RunLemmas.{and_true}
use Rattle.sg_time.proofs.Dates.{IsShownBy}

digits_are : (k n : ℕ) → All IsDigit (digits k n)
digits_are zero n = All-nil IsDigit
digits_are (suc k) n = All-cons IsDigit _ (digits k n) (omega arith, omega arith) (digits_are k n)

fraction_is : (count micros : ℕ) → count ≤ 6 → (n : ℕ) × IsFraction (fraction_text count micros) n
fraction_is zero micros most = (0, inl (refl, refl))
fraction_is (suc k) micros most =
    let ds : List ℕ = take (suc k) (digits 6 micros) in
    let size : length ds ≡ suc k = length-take-le (suc k) (digits 6 micros) most in
    (micros_from 100000 ds, inr (ds, (refl, All-take IsDigit (suc k) (digits 6 micros) (digits_are 6 micros), omega arith, omega arith, refl)))

zone_is : (offset : ℤ) → negsuc 1438 ≤ℤ offset → offset ≤ℤ pos 1439 → IsZone (offset_text offset) offset
zone_is (pos n) low high = east n (omega (arith, ints))
zone_is (negsuc n) low high = west (suc n) (omega (arith, ints))

back : (a b : ℤ) → (a -ℤ b) +ℤ b ≡ a
back a b = omega (arith, ints)

form_read : (date : Date) (time : Time) (offset : ℤ) (count micros : ℕ) (rest : List ℕ) → IsBetween (pos 1) (pos 9998) date.year → negsuc 1438 ≤ℤ offset → offset ≤ℤ pos 1439 → count ≤ 6 → (stamp : Stamp) × IsStamp ((date_form date ++ codes "T" ++ clock_form time ++ fraction_text count micros ++ offset_text offset) ++ (32 ∷ rest)) (Some stamp) rest
form_read date time offset count micros rest years low high most =
    let fraction = fraction_is count micros most in
    let front : List ℕ = date_form date ++ codes "T" ++ clock_form time in
    let text : List ℕ = front ++ fraction_text count micros ++ offset_text offset in
    let local : ℤ = ((epoch_day date *ℤ pos 86400 +ℤ pos (time_seconds time)) *ℤ pos 1000000) +ℤ pos fraction.0 in
    let east_of : ℤ = offset *ℤ pos 60000000 in (
      record { at = local -ℤ east_of; offset = offset },
      (
        length text,
        (
          record {
            date = date;
            years = years;
            time = time;
            micros = fraction.0;
            fraction = fraction_text count micros;
            is_fraction = fraction.1;
            zone = offset_text offset;
            is_zone = zone_is offset low high;
            rest = 32 ∷ rest;
            is_text = append_assoc (front ++ fraction_text count micros) (offset_text offset) (32 ∷ rest) ∙ append_assoc front (fraction_text count micros) (offset_text offset ++ (32 ∷ rest));
            is_len = length-append text (32 ∷ rest);
            moment = back local east_of;
          },
          drop-append_seam text (32 ∷ rest),
        ),
      ),
    )

abbrev text_by : ℕ → ℕ → ℕ → ℕ → ℕ → ℕ → ℕ → ℤ → ℕ → List ℕ
text_by year month day hour minute second micros offset count =
    date_text year month day ++ codes "T" ++ clock_text hour minute second ++ fraction_text count micros ++ offset_text offset

same_text : (local : LocalTime) (offset : ℤ) (count : ℕ) (s : IsShownBy local) → date_form s.date ++ codes "T" ++ clock_form s.time ++ fraction_text count local.microsecond ++ offset_text offset ≡ iso_local_text local offset count
same_text local offset count s =
    let year : unsigned_abs s.date.year ≡ local.year = ap unsigned_abs s.year in
    ap (λ (x : ℕ). text_by x s.date.month s.date.day s.time.hour s.time.minute s.time.second local.microsecond offset count) year
    ∙ (ap (λ (x : ℕ). text_by local.year x s.date.day s.time.hour s.time.minute s.time.second local.microsecond offset count) s.month
    ∙ (ap (λ (x : ℕ). text_by local.year local.month x s.time.hour s.time.minute s.time.second local.microsecond offset count) s.day
    ∙ (ap (λ (x : ℕ). text_by local.year local.month local.day x s.time.minute s.time.second local.microsecond offset count) s.hour
    ∙ (ap (λ (x : ℕ). text_by local.year local.month local.day local.hour x s.time.second local.microsecond offset count) s.minute
    ∙ ap (λ (x : ℕ). text_by local.year local.month local.day local.hour local.minute x local.microsecond offset count) s.second))))

pub stamp_read : (local : LocalTime) (offset : ℤ) (count : ℕ) (rest : List ℕ) → IsShownBy local → 1 ≤ local.year → local.year ≤ 9998 → negsuc 1438 ≤ℤ offset → offset ≤ℤ pos 1439 → count ≤ 6 → (stamp : Stamp) × IsStamp (iso_local_text local offset count ++ (32 ∷ rest)) (Some stamp) rest
stamp_read local offset count rest s from to low high most =
    let years : IsBetween (pos 1) (pos 9998) s.date.year = (omega (arith, ints, s.year), omega (arith, ints, s.year)) in
    let read = form_read s.date s.time offset count local.microsecond rest years low high most in
    (read.0, subst (λ (x : List ℕ). IsStamp (x ++ (32 ∷ rest)) (Some read.0) rest) (same_text local offset count s) read.1)

-- a stamp that is shown is valid
within : (low high z : ℤ) → int_le low z ≡ true → int_le z high ≡ true → (low ≤ℤ z) × (z ≤ℤ high)
within low high z e f = (grind (arith, ints), grind (arith, ints))

moved_valid : (stamp : Stamp) (offset : ℤ) (test : Bool) → IsValidStamp stamp → negsuc 1438 ≤ℤ offset → offset ≤ℤ pos 1439 → has_year stamp.at offset ≡ test → IsValidStamp (cond test (record { at = stamp.at; offset = offset }) stamp)
moved_valid stamp offset true valid low high e =
    let local : ℤ = stamp.at +ℤ (offset *ℤ pos 60000000) in
    let both = and_true (int_le (negsuc 62167219199999999) local) (int_le local (pos 253402300799999999)) e in
    let range = within (negsuc 62167219199999999) (pos 253402300799999999) local both.0 both.1 in
    record { east = low; west = high; begins = range.0; ends = range.1 }
moved_valid stamp offset false valid low high e = valid

pub shown_valid : (zone : Option ℤ) (stamp : Stamp) → ForSome zone (λ offset. (negsuc 1438 ≤ℤ offset) × (offset ≤ℤ pos 1439)) → IsValidStamp stamp → IsValidStamp (shown_stamp zone stamp)
unfolding shown_stamp
shown_valid None stamp range valid = valid
shown_valid (Some offset) stamp range valid =
    let here = range offset refl in
    moved_valid stamp offset (has_year stamp.at offset) valid here.0 here.1 refl
