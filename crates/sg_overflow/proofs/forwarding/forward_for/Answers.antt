use Rattle.std.proofs.Common.{◌∙◌, sym}
use Rattle.sg_overflow.proofs.Sends.{forwards_then}
use Rattle.sg_overflow.proofs.Stopping.{cause_wider, open_is}
use Rattle.sg_overflow.proofs.forwarding.forward_for.Goals as goal

pub batches-init : goal.batches-init
batches-init g c = record {
  forwards = (0, c.is_empty-empty.ensures.still (g.O.Outlet.state c.args.inner.now));
  some = c.is_empty-empty.ensures.some;
}

pub returns-then-not-is_open-clause-forwards : goal.returns-then-not-is_open-clause-forwards
returns-then-not-is_open-clause-forwards g c =
    let l = c.batches in
    forwards_then g.D.Disk.state (g.O.Outlet.state c.args.inner.now) (g.O.Outlet.state l.inner) (g.O.Outlet.state c.forward_batch-stop.new.inner) c.args.held.now l.held c.forward_batch-stop.new.held
    l.invariant.forwards c.forward_batch-stop.ensures.forwards

pub returns-then-not-is_open-clause-cause : goal.returns-then-not-is_open-clause-cause
returns-then-not-is_open-clause-cause g c =
    let l = c.batches in
    let m = l.invariant.forwards.1 in
    cause_wider (g.O.Outlet.state c.args.inner.now) (g.O.Outlet.state l.inner) (g.O.Outlet.state c.forward_batch-stop.new.inner) c.forward_batch-stop.new.held.store.closed c.forward_batch-stop.result
    m.faults m.laters c.forward_batch-stop.ensures.cause

pub batches-preserved : goal.batches-preserved
batches-preserved g c =
    let l = c.batches in
    record {
      forwards =
          forwards_then g.D.Disk.state (g.O.Outlet.state c.args.inner.now) (g.O.Outlet.state l.inner) (g.O.Outlet.state c.forward_batch-stop.new.inner) c.args.held.now l.held c.forward_batch-stop.new.held
          l.invariant.forwards c.forward_batch-stop.ensures.forwards;
      some = c.is_empty-left.ensures.some;
    }

pub batches-smaller : goal.batches-smaller
batches-smaller g c =
    c.forward_batch-stop.ensures.fewer (open_is c.forward_batch-stop.result (sym c.is_open.ensures ∙ c.if-not-is_open.false)) (c.batches.invariant.some c.batches-test.true)
