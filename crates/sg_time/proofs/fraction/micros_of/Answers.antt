use Rattle.std.proofs.Common.{arith}
use Rattle.sg_time.proofs.Fractions.{micros_from-bound, micros_from-drop}
use Rattle.sg_time.proofs.fraction.micros_of.Goals as goal

pub overflow_add-micros : goal.overflow_add-micros
overflow_add-micros c =
    let total = micros_from-bound 100000 c.args.digits.now c.requires.digits in
    let step = micros_from-drop c.loop-digit.unit c.args.digits.now c.loop-digit.digit-index (omega arith) in
    omega (arith, c.loop-digit.invariant.sum)

pub returns-clause-bound : goal.returns-clause-bound
returns-clause-bound c =
    let total = micros_from-bound 100000 c.args.digits.now c.requires.digits in
    omega (arith, c.loop-digit.invariant.sum)
