use Rattle.std.proofs.Common.{arith}
use Rattle.std.proofs.lemmas.Int.{ints}
use Rattle.sg_time.proofs.Days.{epoch_day_from}
use Rattle.sg_time.proofs.read.stamp_at.Goals as goal

pub overflow_sub-result : goal.overflow_sub-result
overflow_sub-result c =
    let low = epoch_day_from c.args.date c.requires.year in
    omega (arith, ints)

pub returns-clause-moment : goal.returns-clause-moment
returns-clause-moment c =
    let low = epoch_day_from c.args.date c.requires.year in
    omega (arith, ints)

pub returns-clause-valid : goal.returns-clause-valid
returns-clause-valid c =
    let low = epoch_day_from c.args.date c.requires.year in
    record { east = omega (arith, ints); west = omega (arith, ints); begins = omega (arith, ints); ends = omega (arith, ints) }
