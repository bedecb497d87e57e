use Rattle.sg_fault.proofs.Least.{number-below, first_digit, by_digits}
use Rattle.sg_fault.proofs.laws.earlier_is_by_place.Goals as goal

pub returns : goal.returns
returns c = λ p q.
    (first_digit p.line.at q.line.at _ _ (number-below p.kind) (number-below q.kind), by_digits p.line.at q.line.at _ _ (number-below p.kind) (number-below q.kind))
