use Rattle.std.proofs.Common.{sym, arith}
use Rattle.sg_parse_base.proofs.Keywords.{lengths_differ}
use Rattle.sg_parse_base.proofs.token.same_keyword.Goals as goal

pub returns-then-text-word : goal.returns-then-text-word
returns-then-text-word c = sym (lengths_differ c.args.text.now c.args.word.now (λ e. absurd (omega (arith, e))))
