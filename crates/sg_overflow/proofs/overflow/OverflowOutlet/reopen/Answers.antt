use Rattle.std.proofs.Common.{[], refl, subst, sym, ap, true, false, Ok, Err}
use Rattle.sg_device.specs.Outlet.{OutletState, Reopens}
use Rattle.sg_device.specs.declared.outlet.Reopened.TheVariants.{Ready, Later}
use Rattle.sg_overflow.specs.View.{OverflowView, outlet_of}
use Rattle.sg_overflow.specs.declared.tally.OutletTally.{OutletTally}
use Rattle.sg_overflow.proofs.Answering.{reopens_none, later_as}
use Rattle.sg_overflow.proofs.Sends.{moves_reopened}
use Rattle.sg_overflow.proofs.Tallying.{took_of, sound_of, stays_of, reopens_as}
use Rattle.sg_overflow.proofs.overflow.OverflowOutlet.reopen.Goals as goal

pub returns-then-not-can_count : goal.returns-then-not-can_count
returns-then-not-can_count g c = reopens_none (outlet_of g.O.Outlet.state g.D.Disk.state c.args.self.now)

pub invariant_of-self : goal.invariant_of-self
invariant_of-self g c =
    let m = c.self.inside in
    let old : OverflowView g.row.O.Denot g.row.D.Denot = record { inner = m.line.inner; held = m.line.held; reopens = m.line.reopens; tally = m.tally } in
    let new : OverflowView g.row.O.Denot g.row.D.Denot = record { inner = c.reopen.new.self; held = m.line.held; reopens = false; tally = m.tally } in
    let moves = moves_reopened g.D.Disk.state old.held (g.O.Outlet.state old.inner) (g.O.Outlet.state new.inner) c.reopen.result c.is_empty-empty.ensures.still c.reopen.ensures in
    sound_of g.O.Outlet.state g.D.Disk.state [] 0 0 old new moves refl c.self.invariant c.self.invariant.memory

pub returns-in-Ok-Ready : goal.returns-in-Ok-Ready
returns-in-Ok-Ready g c =
    let m = c.self.inside in
    let old : OverflowView g.row.O.Denot g.row.D.Denot = record { inner = m.line.inner; held = m.line.held; reopens = m.line.reopens; tally = m.tally } in
    let new : OverflowView g.row.O.Denot g.row.D.Denot = record { inner = c.reopen.new.self; held = m.line.held; reopens = false; tally = m.tally } in
    let moves = moves_reopened g.D.Disk.state old.held (g.O.Outlet.state old.inner) (g.O.Outlet.state new.inner) c.reopen.result c.is_empty-empty.ensures.still c.reopen.ensures in
    subst (λ (v : OverflowView g.row.O.Denot g.row.D.Denot). Reopens (outlet_of g.O.Outlet.state g.D.Disk.state v) (outlet_of g.O.Outlet.state g.D.Disk.state new) (Ok Ready)) c.self.view_is
    (subst (λ (o : OutletState). Reopens (outlet_of g.O.Outlet.state g.D.Disk.state old) o (Ok Ready)) (sym (stays_of g.O.Outlet.state g.D.Disk.state 0 old new moves refl c.self.invariant)) (reopens_none (outlet_of g.O.Outlet.state g.D.Disk.state old)))

pub invariant_of-self-in-Ok-Later : goal.invariant_of-self-in-Ok-Later
invariant_of-self-in-Ok-Later g c =
    let m = c.self.inside in
    let old : OverflowView g.row.O.Denot g.row.D.Denot = record { inner = m.line.inner; held = m.line.held; reopens = m.line.reopens; tally = m.tally } in
    let new : OverflowView g.row.O.Denot g.row.D.Denot = record { inner = c.reopen.new.self; held = m.line.held; reopens = m.line.reopens; tally = c.after_later-self-inside.result } in
    let moves = moves_reopened g.D.Disk.state old.held (g.O.Outlet.state old.inner) (g.O.Outlet.state new.inner) c.reopen.result c.is_empty-empty.ensures.still c.reopen.ensures in
    sound_of g.O.Outlet.state g.D.Disk.state [] 0 0 old new moves (ap (λ (t : OutletTally). t.loaded) c.after_later-self-inside.ensures) c.self.invariant c.self.invariant.memory

pub returns-in-Ok-Later : goal.returns-in-Ok-Later
returns-in-Ok-Later g c =
    let m = c.self.inside in
    let old : OverflowView g.row.O.Denot g.row.D.Denot = record { inner = m.line.inner; held = m.line.held; reopens = m.line.reopens; tally = m.tally } in
    let new : OverflowView g.row.O.Denot g.row.D.Denot = record { inner = c.reopen.new.self; held = m.line.held; reopens = m.line.reopens; tally = c.after_later-self-inside.result } in
    let moves = moves_reopened g.D.Disk.state old.held (g.O.Outlet.state old.inner) (g.O.Outlet.state new.inner) c.reopen.result c.is_empty-empty.ensures.still c.reopen.ensures in
    let can = c.can_count.ensures c.if-not-can_count.false in
    subst (λ (v : OverflowView g.row.O.Denot g.row.D.Denot). Reopens (outlet_of g.O.Outlet.state g.D.Disk.state v) (outlet_of g.O.Outlet.state g.D.Disk.state new) (Ok Later)) c.self.view_is
    (later_as g.O.Outlet.state g.D.Disk.state old new c.after_later-self-inside.ensures (took_of g.O.Outlet.state g.D.Disk.state [] 0 0 old new moves (ap (λ (t : OutletTally). t.loaded) c.after_later-self-inside.ensures) c.self.invariant) can.1)

pub invariant_of-self-in-Err : goal.invariant_of-self-in-Err
invariant_of-self-in-Err g c =
    let m = c.self.inside in
    let old : OverflowView g.row.O.Denot g.row.D.Denot = record { inner = m.line.inner; held = m.line.held; reopens = m.line.reopens; tally = m.tally } in
    let new : OverflowView g.row.O.Denot g.row.D.Denot = record { inner = c.reopen.new.self; held = m.line.held; reopens = true; tally = c.after_fault-self-inside.result } in
    let moves = moves_reopened g.D.Disk.state old.held (g.O.Outlet.state old.inner) (g.O.Outlet.state new.inner) c.reopen.result c.is_empty-empty.ensures.still c.reopen.ensures in
    sound_of g.O.Outlet.state g.D.Disk.state [] 0 0 old new moves (ap (λ (t : OutletTally). t.loaded) c.after_fault-self-inside.ensures) c.self.invariant c.self.invariant.memory

pub returns-in-Err : goal.returns-in-Err
returns-in-Err g c =
    let m = c.self.inside in
    let old : OverflowView g.row.O.Denot g.row.D.Denot = record { inner = m.line.inner; held = m.line.held; reopens = m.line.reopens; tally = m.tally } in
    let new : OverflowView g.row.O.Denot g.row.D.Denot = record { inner = c.reopen.new.self; held = m.line.held; reopens = true; tally = c.after_fault-self-inside.result } in
    let moves = moves_reopened g.D.Disk.state old.held (g.O.Outlet.state old.inner) (g.O.Outlet.state new.inner) c.reopen.result c.is_empty-empty.ensures.still c.reopen.ensures in
    let can = c.can_count.ensures c.if-not-can_count.false in
    subst (λ (v : OverflowView g.row.O.Denot g.row.D.Denot). Reopens (outlet_of g.O.Outlet.state g.D.Disk.state v) (outlet_of g.O.Outlet.state g.D.Disk.state new) (Err c.in-Err.fault)) c.self.view_is
    (reopens_as g.O.Outlet.state g.D.Disk.state old new c.in-Err.fault c.after_fault-self-inside.ensures (took_of g.O.Outlet.state g.D.Disk.state [] 0 0 old new moves (ap (λ (t : OutletTally). t.loaded) c.after_fault-self-inside.ensures) c.self.invariant) can.2)
