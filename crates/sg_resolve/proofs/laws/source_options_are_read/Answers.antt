use Rattle.sg_resolve.proofs.Looked.{source-read, listener-read, sources-alike}
use Rattle.sg_resolve.proofs.laws.source_options_are_read.Goals as goal

pub returns-clause-source : goal.returns-clause-source
returns-clause-source c = source-read

pub returns-clause-listener : goal.returns-clause-listener
returns-clause-listener c = listener-read

pub returns-clause-alone : goal.returns-clause-alone
returns-clause-alone c = λ defaults a b driver h s. sources-alike a b h defaults driver s
