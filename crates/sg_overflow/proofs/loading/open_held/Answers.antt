use Rattle.std.proofs.Common.{ap}
use Rattle.sg_spool.specs.declared.rows.Rows.{Rows}
use Rattle.sg_overflow.proofs.Opens.{loaded_synced, ring_reason, opened_result, reason_result}
use Rattle.sg_overflow.proofs.loading.open_held.Goals as goal

pub returns-in-Err-clause-reason : goal.returns-in-Err-clause-reason
returns-in-Err-clause-reason g c = ring_reason (g.D.Disk.state c.args.disk) (g.D.Disk.state c.in-Err.disk) c.in-Err.refusal c.in-Err.ensures.reason

pub look-requires-clause-open : goal.look-requires-clause-open
look-requires-clause-open g c = c.in-Ok.ensures.opened.opened

pub look-requires-clause-unstaged : goal.look-requires-clause-unstaged
look-requires-clause-unstaged g c = ap (λ (r : Rows). r.staged) c.in-Ok.ensures.opened.rows

pub look-requires-clause-limit : goal.look-requires-clause-limit
look-requires-clause-limit g c = c.in-Ok.ensures.opened.limit

pub look-requires-clause-list : goal.look-requires-clause-list
look-requires-clause-list g c = loaded_synced g.D.Disk.state c.args.disk c.in-Ok.spool c.in-Ok.ensures.list c.in-Ok.ensures.synced

pub returns-in-Ok-clause-opened : goal.returns-in-Ok-clause-opened
returns-in-Ok-clause-opened g c = opened_result g.D.Disk.state c.args.disk c.in-Ok.spool.disk c.args.limits c.look.result c.in-Ok.ensures.synced c.look.ensures.opened

pub returns-in-Ok-clause-reason : goal.returns-in-Ok-clause-reason
returns-in-Ok-clause-reason g c = reason_result g.D.Disk.state c.args.disk c.in-Ok.spool.disk c.look.result c.in-Ok.ensures.synced c.look.ensures.reason
