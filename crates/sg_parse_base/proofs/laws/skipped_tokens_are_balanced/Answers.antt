use Rattle.sg_parse_base.proofs.SkipLaws.{skipped-sound, skipped-again}
use Rattle.sg_parse_base.proofs.laws.skipped_tokens_are_balanced.Goals as goal

pub returns-clause-read : goal.returns-clause-read
returns-clause-read c = λ s r e. skipped-sound s (tt, r) e

pub returns-clause-again : goal.returns-clause-again
returns-clause-again c = λ s r t. skipped-again s r t
