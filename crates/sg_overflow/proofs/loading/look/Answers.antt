use Rattle.std.proofs.Common.{◌∙◌, sym, ap, subst}
use Rattle.sg_spool.specs.declared.rows.Rows.{Rows}
use Rattle.sg_overflow.specs.Opening.{HasReason}
use Rattle.sg_overflow.proofs.Opens.{stored_looked, held_looked, looked_reason}
use Rattle.sg_overflow.proofs.loading.look.Goals as goal

pub new-requires-clause-unstaged : goal.new-requires-clause-unstaged
new-requires-clause-unstaged g c = ap (λ (r : Rows). r.staged) c.check.ensures.reads.rows ∙ c.requires.unstaged

pub new-requires-clause-limit : goal.new-requires-clause-limit
new-requires-clause-limit g c = c.check.ensures.reads.lasts.capacity ∙ c.requires.limit

pub new-requires-clause-list : goal.new-requires-clause-list
new-requires-clause-list g c = stored_looked g.D.Disk.state c.args.spool c.check.new.spool c.requires.list c.in-Ok.ensures.frames c.check.ensures.reads

pub returns-in-Ok-clause-opened : goal.returns-in-Ok-clause-opened
returns-in-Ok-clause-opened g c =
    held_looked g.D.Disk.state c.args.spool c.check.new.spool c.args.limits c.new.result c.requires.list c.in-Ok.ensures.frames c.check.ensures.reads c.in-Ok.ensures.open c.new.ensures.is c.new.ensures.few

pub returns-in-Err-clause-reason : goal.returns-in-Err-clause-reason
returns-in-Err-clause-reason g c =
    subst (λ (d : g.row.D.Denot). HasReason (g.D.Disk.state c.args.spool.disk) (g.D.Disk.state d) c.in-Err.refusal) (sym c.into_disk.ensures)
    (looked_reason (g.D.Disk.state c.args.spool.disk) (g.D.Disk.state c.check.new.spool.disk) c.in-Err.refusal c.in-Err.ensures.reason)
