use Rattle.std.proofs.Common.{◌≡◌, [], refl, subst}
use Rattle.sg_overflow.specs.Line.{Forwards, Lasts}
use Rattle.sg_overflow.specs.View.{OverflowView, outlet_of}
use Rattle.sg_overflow.proofs.Tallying.{sound_of, lasts_of, stays_of, within_of}
use Rattle.sg_overflow.proofs.overflow.Overflow.forward.Goals as goal

pub invariant_of-self : goal.invariant_of-self
invariant_of-self g c =
    let m = c.self.inside in
    let old : OverflowView g.row.O.Denot g.row.D.Denot = record { inner = m.line.inner; held = m.line.held; reopens = m.line.reopens; tally = m.tally } in
    let t = c.forward_some in
    let new : OverflowView g.row.O.Denot g.row.D.Denot = record { inner = t.new.self.inner; held = t.new.self.held; reopens = t.new.self.reopens; tally = m.tally } in
    let f = c.forward_some.ensures in
    sound_of g.O.Outlet.state g.D.Disk.state [] 0 f.0 old new f.1 refl c.self.invariant
    (within_of g.D.Disk.state [] f.0 (g.O.Outlet.state old.inner) (g.O.Outlet.state new.inner) old.held new.held f.1 c.self.invariant.memory)

pub returns-clause-forwards : goal.returns-clause-forwards
returns-clause-forwards g c =
    let m = c.self.inside in
    let old : OverflowView g.row.O.Denot g.row.D.Denot = record { inner = m.line.inner; held = m.line.held; reopens = m.line.reopens; tally = m.tally } in
    let t = c.forward_some in
    let new : OverflowView g.row.O.Denot g.row.D.Denot = record { inner = t.new.self.inner; held = t.new.self.held; reopens = t.new.self.reopens; tally = m.tally } in
    let f = c.forward_some.ensures in
    subst (λ (v : OverflowView g.row.O.Denot g.row.D.Denot). Forwards g.O.Outlet.state g.D.Disk.state v new) c.self.view_is (record { forwarded = f.0; moves = f.1 })

pub returns-clause-lasts : goal.returns-clause-lasts
returns-clause-lasts g c =
    let m = c.self.inside in
    let old : OverflowView g.row.O.Denot g.row.D.Denot = record { inner = m.line.inner; held = m.line.held; reopens = m.line.reopens; tally = m.tally } in
    let t = c.forward_some in
    let new : OverflowView g.row.O.Denot g.row.D.Denot = record { inner = t.new.self.inner; held = t.new.self.held; reopens = t.new.self.reopens; tally = m.tally } in
    let f = c.forward_some.ensures in
    subst (λ (v : OverflowView g.row.O.Denot g.row.D.Denot). Lasts g.O.Outlet.state g.D.Disk.state v new) c.self.view_is
    (lasts_of g.O.Outlet.state g.D.Disk.state [] 0 f.0 old new f.1 refl c.self.invariant)

pub returns-clause-stays : goal.returns-clause-stays
returns-clause-stays g c =
    let m = c.self.inside in
    let old : OverflowView g.row.O.Denot g.row.D.Denot = record { inner = m.line.inner; held = m.line.held; reopens = m.line.reopens; tally = m.tally } in
    let t = c.forward_some in
    let new : OverflowView g.row.O.Denot g.row.D.Denot = record { inner = t.new.self.inner; held = t.new.self.held; reopens = t.new.self.reopens; tally = m.tally } in
    let f = c.forward_some.ensures in
    subst (λ (v : OverflowView g.row.O.Denot g.row.D.Denot). outlet_of g.O.Outlet.state g.D.Disk.state new ≡ outlet_of g.O.Outlet.state g.D.Disk.state v) c.self.view_is
    (stays_of g.O.Outlet.state g.D.Disk.state f.0 old new f.1 refl c.self.invariant)
