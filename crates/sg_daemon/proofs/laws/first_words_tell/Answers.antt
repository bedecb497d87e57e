use Rattle.sg_daemon.proofs.OfflineLemmas.{first-words-tell}
use Rattle.sg_daemon.proofs.laws.first_words_tell.Goals as goal

pub returns : goal.returns
returns c = first-words-tell
