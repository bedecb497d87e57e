use Rattle.std.proofs.Common.{◌≡◌, ◌∙◌, ◌<◌, ◌^◌, sym}
use Rattle.sg_spool.specs.Places.{live}
use Rattle.sg_stores.proofs.LookLemmas.{renewed-as, unrenewed-as}
use Rattle.sg_stores.proofs.buffer.BufferStore.renew.Goals as goal

pub returns-in-Err-clause-renews : goal.returns-in-Err-clause-renews
returns-in-Err-clause-renews g c = λ kind disk look.
    unrenewed-as g.D.Disk.state disk c.args.found.now c.self.inside.failed c.self.inside.spool c.renew.new.spool c.renew.ensures.lasts c.in-Err.refusal kind (rw (← c.self.view_is) at look) c.renew.ensures.within c.in-Err.ensures.reason

pub returns-clause-renews : goal.returns-clause-renews
returns-clause-renews g c = λ kind disk look.
    let e = c.in_default.ensures in
    let l = c.live-live.ensures in
    let ahead : live c.renew.new.spool.rows.ahead ≡ live c.renew.new.spool.rows.list = sym l.live ∙ l.list e.listed.unstaged in
    let small : live c.renew.new.spool.rows.list < 2 ^ 63 = rw (l.list e.listed.unstaged) at l.small in
    renewed-as g.D.Disk.state disk c.args.found.now c.self.inside.failed c.self.inside.spool c.renew.new.spool c.renew.ensures.lasts kind (rw (← c.self.view_is) at look) e.listed.opened c.renew.ensures.within e.renewed e.size ahead small e.listed.count e.listed.unstaged
