use Rattle.std.proofs.Common.{◌≡◌, pos, to_z, of_z, w16, w64, ap, ◌∙◌, refl, arith, unsigned_abs}
use Rattle.std.proofs.lemmas.Int.{ints}
use Rattle.std.specs.Int.{int_div_euclid, int_rem_euclid}
use Rattle.sg_time.specs.Stamp.{local_of}
use Rattle.sg_time.specs.Local.{local_time, day_of, micros_of_day, year_of, month_of, day_of_month}
use Rattle.sg_time.proofs.stamp.Stamp.local.Goals as goal

pub returns-clause-value : goal.returns-clause-value
unfolding local_time
returns-clause-value c =
    let on : c.div_euclid.result ≡ day_of c.args.self = c.div_euclid.ensures ∙ ap (λ z. int_div_euclid z (pos 86400000000)) (omega (arith, ints)) in
    let back : to_z w64 (of_z w64 c.div_euclid.result) ≡ c.div_euclid.result = omega (arith, ints) in
    let day = back ∙ on in
    let year_is : c.date_on-date.result.year ≡ pos (year_of (day_of c.args.self)) = rw day at c.date_on-date.ensures.year in
    let month_is : c.date_on-date.result.month ≡ month_of (day_of c.args.self) = rw day at c.date_on-date.ensures.month in
    let day_is : c.date_on-date.result.day ≡ day_of_month (day_of c.args.self) = rw day at c.date_on-date.ensures.day in
    let year_back : to_z w16 (of_z w16 c.date_on-date.result.year) ≡ c.date_on-date.result.year = omega (arith, ints, c.date_on-date.result.year_in) in
    let year : unsigned_abs (to_z w16 (of_z w16 c.date_on-date.result.year)) ≡ year_of (day_of c.args.self) = ap unsigned_abs (year_back ∙ year_is) in
    let left : c.rem_euclid-micros.result ≡ int_rem_euclid (local_of c.args.self) (pos 86400000000) = c.rem_euclid-micros.ensures.value ∙ ap (λ z. int_rem_euclid z (pos 86400000000)) (omega (arith, ints)) in
    let left_back : to_z w64 (of_z w64 c.rem_euclid-micros.result) ≡ c.rem_euclid-micros.result = omega (arith, ints) in
    let micros : unsigned_abs (to_z w64 (of_z w64 c.rem_euclid-micros.result)) ≡ micros_of_day c.args.self = ap unsigned_abs (left_back ∙ left) in
    rw (year, month_is, day_is, micros) refl

pub returns-clause-date : goal.returns-clause-date
returns-clause-date c =
    let on : c.div_euclid.result ≡ day_of c.args.self = c.div_euclid.ensures ∙ ap (λ z. int_div_euclid z (pos 86400000000)) (omega (arith, ints)) in
    let back : to_z w64 (of_z w64 c.div_euclid.result) ≡ c.div_euclid.result = omega (arith, ints) in
    let day = back ∙ on in
    let year_is : c.date_on-date.result.year ≡ pos (year_of (day_of c.args.self)) = rw day at c.date_on-date.ensures.year in
    let year_back : to_z w16 (of_z w16 c.date_on-date.result.year) ≡ c.date_on-date.result.year = omega (arith, ints, c.date_on-date.result.year_in) in
    let year : pos (unsigned_abs (to_z w16 (of_z w16 c.date_on-date.result.year))) ≡ c.date_on-date.result.year = ap (λ z. pos (unsigned_abs z)) (year_back ∙ year_is) ∙ rw year_is refl in
    rw year (c.date_on-date.ensures.day_number ∙ day)
