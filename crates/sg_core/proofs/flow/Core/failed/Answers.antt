use Rattle.sg_core.proofs.Faults.{fails-at}
use Rattle.sg_core.proofs.flow.Core.failed.Goals as goal

pub returns-clause-faults : goal.returns-clause-faults
returns-clause-faults g c = rw (← c.self.view_is) (λ setup disks first opens goes. fails-at setup disks first c.self.inside.stores c.args.store c.failed.result opens goes c.failed.ensures)
