use Rattle.sg_buffer.proofs.Firsts.{first_kept}
use Rattle.sg_buffer.proofs.laws.first_messages_are_kept.Goals as goal

pub returns : goal.returns
returns c = first_kept c.spellings_are_read.ensures.again
