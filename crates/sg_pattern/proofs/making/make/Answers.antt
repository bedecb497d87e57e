use Rattle.sg_pattern.proofs.Built.{by_ascii, by_unicode, large_ascii}
use Rattle.sg_pattern.proofs.making.make.Goals as goal

pub returns-in-Ok-clause-matches : goal.returns-in-Ok-clause-matches
returns-in-Ok-clause-matches c = by_ascii c.args.ignore_case c.args.text.now _ c.utf8.text c.in-Ok.ensures.matches

pub returns-in-Err-TooLarge-clause-refused : goal.returns-in-Err-TooLarge-clause-refused
returns-in-Err-TooLarge-clause-refused c = large_ascii c.args.ignore_case c.args.text.now c.utf8.text (rw c.in-Err-TooLarge.field-0-is at c.in-Err-TooLarge.ensures.refused)

pub returns-in-Err-Syntax-clause-matches : goal.returns-in-Err-Syntax-clause-matches
returns-in-Err-Syntax-clause-matches c =
    let none = rw c.in-Err-Syntax.field-0-is at c.in-Err-Syntax.ensures.refused in
    rw (by_unicode c.args.ignore_case c.args.text.now c.utf8.text none) c.make_as-in-Err-Syntax.ensures.matches

pub returns-in-Err-Syntax-clause-refused : goal.returns-in-Err-Syntax-clause-refused
returns-in-Err-Syntax-clause-refused c =
    let none = rw c.in-Err-Syntax.field-0-is at c.in-Err-Syntax.ensures.refused in
    rw (by_unicode c.args.ignore_case c.args.text.now c.utf8.text none) c.make_as-in-Err-Syntax.ensures.refused
