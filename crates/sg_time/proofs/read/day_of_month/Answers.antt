use Rattle.std.proofs.Common.{◌<◌, ◌∷◌, inl, inr, ap, ◌∙◌, refl, arith}
use Rattle.sg_time.specs.Text.{digits}
use Rattle.sg_time.proofs.read.day_of_month.Goals as goal

pub returns-in-Some : goal.returns-in-Some
returns-in-Some c =
    let day = c.in-Some-one_digit.day in
    let small : day < 10 = c.in-Some-one_digit.ensures.0 in
    (omega arith, (32 ∷ digits 1 day, inr (small, refl), c.in-Some.ensures ∙ ap (λ t. 32 ∷ t) c.in-Some-one_digit.ensures.1))

pub returns : goal.returns
returns c = (c.in-Some-two_digits.ensures.0, (digits 2 c.in-Some-two_digits.day, inl refl, c.in-Some-two_digits.ensures.1))
