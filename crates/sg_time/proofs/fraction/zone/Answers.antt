use Rattle.std.proofs.Common.{◌≡◌, ◌∷◌, [], ap, ◌∙◌, arith, pos, neg_ℤ, ◌-ℤ◌, to_z, of_z, w16}
use Rattle.std.proofs.lemmas.Int.{ints}
use Rattle.sg_time.specs.Text.{minutes_text}
use Rattle.sg_time.specs.Reading.IsZone.{zulu, east, west}
use Rattle.sg_time.proofs.fraction.zone.Goals as goal

pub returns-in-Some : goal.returns-in-Some
returns-in-Some c = (90 ∷ [], zulu, c.in-Some.ensures)

pub returns-in-Some-after : goal.returns-in-Some-after
returns-in-Some-after c =
    let n = c.in-Some-minutes.minutes in
    let small = c.in-Some-minutes.ensures.0 in
    let same : to_z w16 n ≡ pos n = omega (arith, ints, small) in
    (43 ∷ minutes_text n, rw same (east n small), c.in-Some-after.ensures ∙ ap (λ t. 43 ∷ t) c.in-Some-minutes.ensures.1)

pub returns : goal.returns
returns c =
    let n = c.in-Some-minutes-2.minutes in
    let small = c.in-Some-minutes-2.ensures.0 in
    let same : to_z w16 (of_z w16 (pos 0 -ℤ to_z w16 n)) ≡ neg_ℤ (pos n) = omega (arith, ints, small) in
    (45 ∷ minutes_text n, rw same (west n small), c.in-Some-after-2.ensures ∙ ap (λ t. 45 ∷ t) c.in-Some-minutes-2.ensures.1)
