use Rattle.std.proofs.Common.{◌+◌, []}
use Rattle.sg_overflow.proofs.Sends.{forwards_then, moves_given, moves_direct, sent_few, sent_cause, none_held}
use Rattle.sg_overflow.proofs.Moving.{moves_then}
use Rattle.sg_overflow.proofs.Stopping.{cause_wider}
use Rattle.sg_overflow.proofs.Tallying.{within_of}
use Rattle.sg_overflow.proofs.forwarder.Forwarder.forward_before.Goals as goal

pub returns-then-not-is_open-clause-passes : goal.returns-then-not-is_open-clause-passes
returns-then-not-is_open-clause-passes g c =
    let b = c.reopen_inner-begun in
    let f = b.ensures.forwards in (
      f.0,
      moves_given g.D.Disk.state c.args.frames.now f.0 (g.O.Outlet.state c.args.self.now.inner) (g.O.Outlet.state b.new.self.inner) c.args.self.now.held b.new.self.held f.1,
    )

pub returns-then-not-is_open-clause-memory : goal.returns-then-not-is_open-clause-memory
returns-then-not-is_open-clause-memory g c =
    let b = c.reopen_inner-begun in
    let f = b.ensures.forwards in
    within_of g.D.Disk.state [] f.0 (g.O.Outlet.state c.args.self.now.inner) (g.O.Outlet.state b.new.self.inner) c.args.self.now.held b.new.self.held f.1

pub returns-then-not-goes-clause-passes : goal.returns-then-not-goes-clause-passes
returns-then-not-goes-clause-passes g c =
    let b = c.reopen_inner-begun in
    let s = c.forward_for-stop in
    let f =
    forwards_then g.D.Disk.state (g.O.Outlet.state c.args.self.now.inner) (g.O.Outlet.state b.new.self.inner) (g.O.Outlet.state s.new.inner) c.args.self.now.held b.new.self.held s.new.held
    b.ensures.forwards s.ensures.forwards in (
      f.0,
      moves_given g.D.Disk.state c.args.frames.now f.0 (g.O.Outlet.state c.args.self.now.inner) (g.O.Outlet.state s.new.inner) c.args.self.now.held s.new.held f.1,
    )

pub returns-then-not-goes-clause-cause : goal.returns-then-not-goes-clause-cause
returns-then-not-goes-clause-cause g c =
    let b = c.reopen_inner-begun in
    let s = c.forward_for-stop in
    let m = b.ensures.forwards.1 in
    cause_wider (g.O.Outlet.state c.args.self.now.inner) (g.O.Outlet.state b.new.self.inner) (g.O.Outlet.state s.new.inner) s.new.held.store.closed s.result m.faults m.laters s.ensures.cause

pub returns-then-not-goes-clause-memory : goal.returns-then-not-goes-clause-memory
returns-then-not-goes-clause-memory g c =
    let b = c.reopen_inner-begun in
    let s = c.forward_for-stop in
    let f =
    forwards_then g.D.Disk.state (g.O.Outlet.state c.args.self.now.inner) (g.O.Outlet.state b.new.self.inner) (g.O.Outlet.state s.new.inner) c.args.self.now.held b.new.self.held s.new.held
    b.ensures.forwards s.ensures.forwards in
    within_of g.D.Disk.state [] f.0 (g.O.Outlet.state c.args.self.now.inner) (g.O.Outlet.state s.new.inner) c.args.self.now.held s.new.held f.1

pub returns-then-not-is_empty-clause-passes : goal.returns-then-not-is_empty-clause-passes
returns-then-not-is_empty-clause-passes g c =
    let b = c.reopen_inner-begun in
    let s = c.forward_for-stop in
    let f =
    forwards_then g.D.Disk.state (g.O.Outlet.state c.args.self.now.inner) (g.O.Outlet.state b.new.self.inner) (g.O.Outlet.state s.new.inner) c.args.self.now.held b.new.self.held s.new.held
    b.ensures.forwards s.ensures.forwards in (
      f.0,
      moves_given g.D.Disk.state c.args.frames.now f.0 (g.O.Outlet.state c.args.self.now.inner) (g.O.Outlet.state s.new.inner) c.args.self.now.held s.new.held f.1,
    )

pub returns-then-not-is_empty-clause-cause : goal.returns-then-not-is_empty-clause-cause
returns-then-not-is_empty-clause-cause g c =
    let b = c.reopen_inner-begun in
    let s = c.forward_for-stop in
    let m = b.ensures.forwards.1 in
    cause_wider (g.O.Outlet.state c.args.self.now.inner) (g.O.Outlet.state b.new.self.inner) (g.O.Outlet.state s.new.inner) s.new.held.store.closed s.result m.faults m.laters s.ensures.cause

pub returns-then-not-is_empty-clause-memory : goal.returns-then-not-is_empty-clause-memory
returns-then-not-is_empty-clause-memory g c =
    let b = c.reopen_inner-begun in
    let s = c.forward_for-stop in
    let f =
    forwards_then g.D.Disk.state (g.O.Outlet.state c.args.self.now.inner) (g.O.Outlet.state b.new.self.inner) (g.O.Outlet.state s.new.inner) c.args.self.now.held b.new.self.held s.new.held
    b.ensures.forwards s.ensures.forwards in
    within_of g.D.Disk.state [] f.0 (g.O.Outlet.state c.args.self.now.inner) (g.O.Outlet.state s.new.inner) c.args.self.now.held s.new.held f.1

pub returns-clause-passes : goal.returns-clause-passes
returns-clause-passes g c =
    let b = c.reopen_inner-begun in
    let s = c.forward_for-stop in
    let t = c.send-sent in
    let i = g.O.Outlet.state c.args.self.now.inner in
    let j = g.O.Outlet.state s.new.inner in
    let l = g.O.Outlet.state t.new.inner in
    let f =
    forwards_then g.D.Disk.state i (g.O.Outlet.state b.new.self.inner) j c.args.self.now.held b.new.self.held s.new.held
    b.ensures.forwards s.ensures.forwards in
    let none = none_held g.D.Disk.state s.new.held (c.is_empty.ensures.none c.if-not-is_empty.false) in (
      f.0 + t.result.count,
      moves_then g.D.Disk.state c.args.frames.now t.result.count f.0 t.result.count i j l c.args.self.now.held s.new.held s.new.held f.1
          (moves_direct g.D.Disk.state c.args.frames.now t.result.count t.result.stop j l s.new.held c.is_empty.ensures.still none t.ensures),
    )

pub returns-clause-cause : goal.returns-clause-cause
returns-clause-cause g c =
    let b = c.reopen_inner-begun in
    let s = c.forward_for-stop in
    let t = c.send-sent in
    let i = g.O.Outlet.state c.args.self.now.inner in
    let j = g.O.Outlet.state s.new.inner in
    let l = g.O.Outlet.state t.new.inner in
    let f =
    forwards_then g.D.Disk.state i (g.O.Outlet.state b.new.self.inner) j c.args.self.now.held b.new.self.held s.new.held
    b.ensures.forwards s.ensures.forwards in
    cause_wider i j l s.new.held.store.closed t.result.stop f.1.faults f.1.laters (sent_cause j l c.args.frames.now t.result.count s.new.held.store.closed t.result.stop t.ensures.answer)

pub returns-clause-few : goal.returns-clause-few
returns-clause-few g c =
    let t = c.send-sent in
    sent_few (g.O.Outlet.state c.forward_for-stop.new.inner) (g.O.Outlet.state t.new.inner) c.args.frames.now t.result.count t.result.stop t.ensures.answer

pub returns-clause-memory : goal.returns-clause-memory
returns-clause-memory g c =
    let b = c.reopen_inner-begun in
    let s = c.forward_for-stop in
    let f =
    forwards_then g.D.Disk.state (g.O.Outlet.state c.args.self.now.inner) (g.O.Outlet.state b.new.self.inner) (g.O.Outlet.state s.new.inner) c.args.self.now.held b.new.self.held s.new.held
    b.ensures.forwards s.ensures.forwards in
    within_of g.D.Disk.state [] f.0 (g.O.Outlet.state c.args.self.now.inner) (g.O.Outlet.state s.new.inner) c.args.self.now.held s.new.held f.1
