use Rattle.std.proofs.Common.{◌++◌, ◌%◌, ◌/◌, ◌∙◌, arith}
use Rattle.sg_time.specs.Text.{digits}
use Rattle.sg_time.proofs.Numbers.{four-digits, behind_two}
use Rattle.sg_time.proofs.number.four_digits.Goals as goal

pub returns-in_default : goal.returns-in_default
returns-in_default c = λ n rest small e. c.in_default.ensures (n / 100) (digits 2 (n % 100) ++ rest) (omega arith) (e ∙ four-digits n rest)

pub returns-in_default-two_digits : goal.returns-in_default-two_digits
returns-in_default-two_digits c = λ n rest small e.
    c.in_default-two_digits.ensures (n % 100) rest (omega arith) (behind_two c.in-Some.hundreds (n / 100) c.in-Some.text.now (digits 2 (n % 100) ++ rest) c.args.text.now c.in-Some.ensures.1 (e ∙ four-digits n rest))
