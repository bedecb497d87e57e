use Rattle.std.proofs.Common.{take}
use Rattle.sg_machine.specs.Safe.{nothing}
use Rattle.sg_standing.proofs.ImageLaws.{stores-held, held-now, held-within, held-between}
use Rattle.sg_standing.proofs.laws.images_open_again.Goals as goal

pub returns-clause-now : goal.returns-clause-now
returns-clause-now c = λ core start events images h are. stores-held core start events nothing images (held-now core start events images h are)

pub returns-clause-within : goal.returns-clause-within
returns-clause-within c = λ old new start events act does images h are. stores-held old start events (record { act = act; failed = does.failed }) images (held-within old new start events act does images h are)

pub returns-clause-between : goal.returns-clause-between
returns-clause-between c = λ core start events h k event images there are. stores-held core start (take k events) event images (held-between core start events h k event images there are)
