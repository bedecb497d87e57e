use Rattle.std.proofs.Common.{◌≡◌, sym, arith}
use Rattle.std.proofs.lemmas.Int.{ints}
use Rattle.jiff_core.specs.Date.{epoch_day}
use Rattle.sg_time.proofs.Days.{year_from, year_of-is, month_of-is, day_of_month-is}
use Rattle.sg_time.proofs.local.date_on.Goals as goal

pub returns-clause-year : goal.returns-clause-year
returns-clause-year c =
    let e : epoch_day c.from_days_since_min.result ≡ c.args.day = omega (arith, ints) in
    let from = year_from c.from_days_since_min.result (rw e c.requires.from) in
    rw (← e) (sym (year_of-is c.from_days_since_min.result from))

pub returns-clause-month : goal.returns-clause-month
returns-clause-month c =
    let e : epoch_day c.from_days_since_min.result ≡ c.args.day = omega (arith, ints) in
    let from = year_from c.from_days_since_min.result (rw e c.requires.from) in
    rw (← e) (sym (month_of-is c.from_days_since_min.result from))

pub returns-clause-day : goal.returns-clause-day
returns-clause-day c =
    let e : epoch_day c.from_days_since_min.result ≡ c.args.day = omega (arith, ints) in
    let from = year_from c.from_days_since_min.result (rw e c.requires.from) in
    rw (← e) (sym (day_of_month-is c.from_days_since_min.result from))
