use Rattle.std.proofs.Common.{sym, subst, ℕ}
use Rattle.std.specs.Option.{option_map}
use Rattle.sg_device.proofs.DiskCalls.{reads_as_image}
use Rattle.sg_spool.specs.Places.{Remains}
use Rattle.sg_spool.proofs.Whole.{lists, remains}
use Rattle.sg_spool.proofs.spool.Spool.head.Goals as goal

pub returns-clause-remains : goal.returns-clause-remains
returns-clause-remains g c = rw (← c.self.view_is) (λ shut bytes left entries is.
    let m = c.self.inside in
    let whole = c.self.invariant.whole shut in
    subst (λ (k : ℕ). Remains bytes m.rows.list.jump k entries m.rows.list.end) (sym c.gate_past.ensures) (remains m.cell m.rows (option_map (λ v. v.items) m.front) (g.D.Disk.state m.disk) whole entries bytes left is))

pub returns-clause-here : goal.returns-clause-here
returns-clause-here g c = rw (← c.self.view_is) (λ shut bytes told.
    let m = c.self.inside in
    let whole = c.self.invariant.whole shut in
    let left = reads_as_image (g.D.Disk.state m.disk) bytes told in
    let is = lists m.cell m.rows (option_map (λ v. v.items) m.front) (g.D.Disk.state m.disk) whole bytes left in
    (whole.entries, is, subst (λ (k : ℕ). Remains bytes m.rows.list.jump k whole.entries m.rows.list.end) (sym c.gate_past.ensures) (remains m.cell m.rows (option_map (λ v. v.items) m.front) (g.D.Disk.state m.disk) whole whole.entries bytes left is)))

pub returns-clause-laid : goal.returns-clause-laid
returns-clause-laid g c = rw (← c.self.view_is) (λ shut bytes told.
    let m = c.self.inside in
    let whole = c.self.invariant.whole shut in
    let left = reads_as_image (g.D.Disk.state m.disk) bytes told in
    (whole.entries, (whole.each bytes left).ring.laid))
