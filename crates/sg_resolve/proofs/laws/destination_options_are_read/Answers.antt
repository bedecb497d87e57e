use Rattle.sg_resolve.proofs.Looked.{destination-read, writer-read, sender-read, framed-read, destinations-alike}
use Rattle.sg_resolve.proofs.laws.destination_options_are_read.Goals as goal

pub returns-clause-destination : goal.returns-clause-destination
returns-clause-destination c = destination-read

pub returns-clause-writer : goal.returns-clause-writer
returns-clause-writer c = writer-read

pub returns-clause-sender : goal.returns-clause-sender
returns-clause-sender c = sender-read

pub returns-clause-framed : goal.returns-clause-framed
returns-clause-framed c = framed-read

pub returns-clause-alone : goal.returns-clause-alone
returns-clause-alone c = λ defaults texts a b driver h d. destinations-alike a b h defaults texts driver d
