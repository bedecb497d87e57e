use Rattle.sg_resolve.proofs.Looked.{disk-read, global-read}
use Rattle.sg_resolve.proofs.laws.other_options_are_read.Goals as goal

pub returns-clause-disk : goal.returns-clause-disk
returns-clause-disk c = disk-read

pub returns-clause-global : goal.returns-clause-global
returns-clause-global c = global-read
