use Rattle.std.proofs.Common.{◌+◌, ◌∙◌, sym, arith}
use Rattle.sg_overflow.proofs.Sends.{forwards_then}
use Rattle.sg_overflow.proofs.Stopping.{refused_none, refused_more, stops_refused, stops_else, open_is}
use Rattle.sg_overflow.proofs.forwarder.Forwarder.forward_all.Goals as goal

pub turns-init : goal.turns-init
turns-init g c = record {
  forwards = (0, c.is_empty-empty.ensures.still (g.O.Outlet.state c.args.self.now.inner));
  some = c.is_empty-empty.ensures.some;
  none = c.is_empty-empty.ensures.empty;
  refused = refused_none (g.O.Outlet.state c.args.self.now.inner) (g.O.Outlet.state c.args.self.now.inner) (omega arith) (omega arith);
  low = omega arith;
}

pub turns-preserved-then-is_open : goal.turns-preserved-then-is_open
turns-preserved-then-is_open g c =
    let l = c.turns in
    let s = c.forward_once-stop in
    let all =
    forwards_then g.D.Disk.state (g.O.Outlet.state c.args.self.now.inner) (g.O.Outlet.state l.self.inner) (g.O.Outlet.state s.new.self.inner) c.args.self.now.held l.self.held s.new.self.held
    l.invariant.forwards s.ensures.forwards in
    record {
      forwards = all;
      some = c.is_empty-left.ensures.some;
      none = c.is_empty-left.ensures.empty;
      refused = refused_none (g.O.Outlet.state c.args.self.now.inner) (g.O.Outlet.state s.new.self.inner) all.1.faults all.1.laters;
      low = omega arith;
    }

pub turns-smaller-then-is_open : goal.turns-smaller-then-is_open
turns-smaller-then-is_open g c =
    let l = c.turns in
    let less = c.forward_once-stop.ensures.fewer (open_is c.forward_once-stop.result (sym c.is_open.ensures ∙ c.if-is_open.true)) (l.invariant.some c.turns-test.true) in
    omega (arith, less, l.invariant.low)

pub returns-then-not-is_refused-clause-forwards : goal.returns-then-not-is_refused-clause-forwards
returns-then-not-is_refused-clause-forwards g c =
    let l = c.turns in
    let s = c.forward_once-stop in
    forwards_then g.D.Disk.state (g.O.Outlet.state c.args.self.now.inner) (g.O.Outlet.state l.self.inner) (g.O.Outlet.state s.new.self.inner) c.args.self.now.held l.self.held s.new.self.held
    l.invariant.forwards s.ensures.forwards

pub returns-then-not-is_refused-clause-cause : goal.returns-then-not-is_refused-clause-cause
returns-then-not-is_refused-clause-cause g c =
    let l = c.turns in
    let s = c.forward_once-stop in
    stops_else (g.O.Outlet.state c.args.self.now.inner) (g.O.Outlet.state l.self.inner) (g.O.Outlet.state s.new.self.inner) s.new.self.held s.result
    (sym c.is_open.ensures ∙ c.if-is_open.false) (sym c.is_refused.ensures ∙ c.if-not-is_refused.true) s.ensures.cause

pub returns-then-refusals-eq3-clause-forwards : goal.returns-then-refusals-eq3-clause-forwards
returns-then-refusals-eq3-clause-forwards g c =
    let l = c.turns in
    let s = c.forward_once-stop in
    forwards_then g.D.Disk.state (g.O.Outlet.state c.args.self.now.inner) (g.O.Outlet.state l.self.inner) (g.O.Outlet.state s.new.self.inner) c.args.self.now.held l.self.held s.new.self.held
    l.invariant.forwards s.ensures.forwards

pub returns-then-refusals-eq3-clause-cause : goal.returns-then-refusals-eq3-clause-cause
returns-then-refusals-eq3-clause-cause g c =
    let l = c.turns in
    let s = c.forward_once-stop in
    let m = s.ensures.forwards.1 in
    let is = sym c.is_refused.ensures ∙ c.if-not-is_refused.false in
    stops_refused (g.O.Outlet.state c.args.self.now.inner) (g.O.Outlet.state s.new.self.inner) s.new.self.held (l.refusals + 1) s.result is c.if-refusals-eq3.true
    (refused_more l.refusals (g.O.Outlet.state c.args.self.now.inner) (g.O.Outlet.state l.self.inner) (g.O.Outlet.state s.new.self.inner) s.new.self.held.store.closed s.result is l.invariant.refused m.faults m.laters s.ensures.cause)

pub turns-preserved : goal.turns-preserved
turns-preserved g c =
    let l = c.turns in
    let s = c.forward_once-stop in
    let m = s.ensures.forwards.1 in
    record {
      forwards =
          forwards_then g.D.Disk.state (g.O.Outlet.state c.args.self.now.inner) (g.O.Outlet.state l.self.inner) (g.O.Outlet.state s.new.self.inner) c.args.self.now.held l.self.held s.new.self.held
          l.invariant.forwards s.ensures.forwards;
      some = c.is_empty-left.ensures.some;
      none = c.is_empty-left.ensures.empty;
      refused =
          refused_more l.refusals (g.O.Outlet.state c.args.self.now.inner) (g.O.Outlet.state l.self.inner) (g.O.Outlet.state s.new.self.inner) s.new.self.held.store.closed s.result
          (sym c.is_refused.ensures ∙ c.if-not-is_refused.false) l.invariant.refused m.faults m.laters s.ensures.cause;
      low = omega (arith, l.invariant.low, c.if-refusals-eq3.false);
    }

pub turns-smaller : goal.turns-smaller
turns-smaller g c =
    let l = c.turns in
    let m = c.forward_once-stop.ensures.forwards.1 in
    omega (arith, m.number, l.invariant.low)

pub returns-clause-cause : goal.returns-clause-cause
returns-clause-cause g c = c.turns.invariant.none c.turns-test.false
