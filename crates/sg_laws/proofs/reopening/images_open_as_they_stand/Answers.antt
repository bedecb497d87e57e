use Rattle.sg_laws.proofs.AgainLemmas.{opens-again}
use Rattle.sg_laws.proofs.reopening.images_open_as_they_stand.Goals as goal

pub returns-clause-now : goal.returns-clause-now
returns-clause-now c = λ core start events images disks h are numbers tell. opens-again core images disks (c.images_open_again.ensures.now core start events images h are) numbers tell

pub returns-clause-within : goal.returns-clause-within
returns-clause-within c = λ old new start events act does images disks h are numbers tell. opens-again old images disks (c.images_open_again.ensures.within old new start events act does images h are) numbers tell

pub returns-clause-between : goal.returns-clause-between
returns-clause-between c = λ core start events h k event images disks there are numbers tell. opens-again core images disks (c.images_open_again.ensures.between core start events h k event images there are) numbers tell
