use Rattle.std.proofs.Common.{◌≡◌, ◌∷◌, take, drop, length, inr, refl, sym, ap, ◌∙◌, arith, ◌-◌}
use Rattle.std.proofs.lemmas.List.{take-append-drop, take_all, length-drop, length-take-le}
use Rattle.sg_time.proofs.Fractions.{fraction_end, digits_taken}
use Rattle.sg_time.proofs.fraction.fraction.Goals as goal
use Rattle.sg_time.proofs.fraction.fraction.Goals.{then-len-eq0-via-then-len-eq0, then-len-eq0-via-else-len-eq0+then-len-gt6}

pub returns-then-len-eq0-clause-reading : goal.returns-then-len-eq0-clause-reading
returns-then-len-eq0-clause-reading c = λ micros fraction zone rest offset is_fraction is_zone e.
    let end = fraction_end c.args.text.now c.in-Some.digits.now c.digits_len-len.result micros fraction zone rest offset c.in-Some.ensures c.digits_len-len.ensures.within c.digits_len-len.ensures.before c.digits_len-len.ensures.behind is_fraction is_zone e in
    elim c.then-len-eq0.branch [
      | then-len-eq0-via-then-len-eq0 w ↦ omega (arith, end.0)
      | then-len-eq0-via-else-len-eq0+then-len-gt6 w ↦ omega (arith, end.1)
    ]

pub micros_of-requires : goal.micros_of-requires
micros_of-requires c = record { digits = digits_taken c.in-Some.digits.now c.digits_len-len.result c.digits_len-len.ensures.within c.digits_len-len.ensures.before }

pub returns-clause-reading : goal.returns-clause-reading
returns-clause-reading c =
    let ds = c.in-Some.digits.now in
    let len = c.digits_len-len.result in
    let size : length (take len ds) ≡ len = length-take-le len ds c.digits_len-len.ensures.within in
    let all = take_all (length ds - len) (drop len ds) (omega (arith, length-drop len ds)) in (
      46 ∷ take len ds,
      inr (take len ds, (refl, digits_taken ds len c.digits_len-len.ensures.within c.digits_len-len.ensures.before, omega arith, omega arith, c.micros_of.ensures.value)),
      c.micros_of.ensures.bound,
      rw all (c.in-Some.ensures ∙ ap (λ t. 46 ∷ t) (sym (take-append-drop len ds))),
    )

pub returns-clause-only : goal.returns-clause-only
returns-clause-only c = λ micros fraction zone rest offset is_fraction is_zone e.
    let ds = c.in-Some.digits.now in
    let len = c.digits_len-len.result in
    let end = fraction_end c.args.text.now ds len micros fraction zone rest offset c.in-Some.ensures c.digits_len-len.ensures.within c.digits_len-len.ensures.before c.digits_len-len.ensures.behind is_fraction is_zone e in
    take_all (length ds - len) (drop len ds) (omega (arith, length-drop len ds)) ∙ end.2
