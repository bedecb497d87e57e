use Rattle.std.proofs.Common.{◌≡◌, ◌∙◌, length, sym, refl, arith}
use Rattle.sg_overflow.specs.View.{held_count}
use Rattle.sg_overflow.proofs.Accepting.{failed_since}
use Rattle.sg_overflow.proofs.Sends.{forwards_then}
use Rattle.sg_overflow.proofs.Stopping.{saved_of, all_refused, none_in, spilled_all}
use Rattle.sg_overflow.proofs.forwarder.Forwarder.finish.Goals as goal

pub returns-then-is_empty-clause-forwards : goal.returns-then-is_empty-clause-forwards
returns-then-is_empty-clause-forwards g c =
    let f = c.forward_all-stop in
    let m = c.spill-moved in
    let j = g.O.Outlet.state f.new.self.inner in
    forwards_then g.D.Disk.state (g.O.Outlet.state c.args.self.now.inner) j j c.args.self.now.held f.new.self.held m.new.self f.ensures.forwards (0, m.ensures.moves j)

pub returns-then-failed-clause-forwards : goal.returns-then-failed-clause-forwards
returns-then-failed-clause-forwards g c =
    let f = c.forward_all-stop in
    let m = c.spill-moved in
    let j = g.O.Outlet.state f.new.self.inner in
    forwards_then g.D.Disk.state (g.O.Outlet.state c.args.self.now.inner) j j c.args.self.now.held f.new.self.held m.new.self f.ensures.forwards (0, m.ensures.moves j)

pub returns-then-not-is_open-clause-forwards : goal.returns-then-not-is_open-clause-forwards
returns-then-not-is_open-clause-forwards g c =
    let f = c.forward_all-stop in
    let m = c.spill-moved in
    let j = g.O.Outlet.state f.new.self.inner in
    forwards_then g.D.Disk.state (g.O.Outlet.state c.args.self.now.inner) j j c.args.self.now.held f.new.self.held m.new.self f.ensures.forwards (0, m.ensures.moves j)

pub returns-clause-forwards : goal.returns-clause-forwards
returns-clause-forwards g c =
    let f = c.forward_all-stop in
    let m = c.spill-moved in
    let j = g.O.Outlet.state f.new.self.inner in
    forwards_then g.D.Disk.state (g.O.Outlet.state c.args.self.now.inner) j j c.args.self.now.held f.new.self.held m.new.self f.ensures.forwards (0, m.ensures.moves j)

pub returns-then-not-is_refused-clause-forwards : goal.returns-then-not-is_refused-clause-forwards
returns-then-not-is_refused-clause-forwards g c =
    let f = c.forward_all-stop in
    let m = c.spill-moved in
    let j = g.O.Outlet.state f.new.self.inner in
    forwards_then g.D.Disk.state (g.O.Outlet.state c.args.self.now.inner) j j c.args.self.now.held f.new.self.held m.new.self f.ensures.forwards (0, m.ensures.moves j)

pub returns-then-is_empty-clause-finished : goal.returns-then-is_empty-clause-finished
returns-then-is_empty-clause-finished g c =
    let held = c.spill-moved.new.self in
    let none : held_count held ≡ 0 = c.is_empty.ensures.empty c.if-is_empty.true in (
      omega (arith, none),
      none_in held.memory (omega (arith, none)),
      (λ works. saved_of g.D.Disk.state held c.is_empty.ensures.still c.is_empty.ensures.told (omega (arith, none)) works),
    )

pub returns-then-failed-clause-finished : goal.returns-then-failed-clause-finished
returns-then-failed-clause-finished g c =
    let f = c.forward_all-stop in
    let m = c.spill-moved in
    let j = g.O.Outlet.state f.new.self.inner in
    let all = forwards_then g.D.Disk.state (g.O.Outlet.state c.args.self.now.inner) j j c.args.self.now.held f.new.self.held m.new.self f.ensures.forwards (0, m.ensures.moves j) in
    let closed = sym c.failed.ensures ∙ c.if-failed.true in (
      closed,
      failed_since g.D.Disk.state c.args.self.now.held.store m.new.self.store c.args.self.now.held.store.closed refl all.1.lasts closed,
      c.is_empty.ensures.some c.if-is_empty.false,
    )

pub returns-clause-finished : goal.returns-clause-finished
returns-clause-finished g c =
    let f = c.forward_all-stop in
    let m = c.spill-moved in
    let held = m.new.self in
    let none : length held.memory ≡ 0 = spilled_all (length held.memory) held.store.closed m.result (sym c.is_open.ensures ∙ c.if-not-is_open.false) m.ensures.cause in
    let closed = sym c.failed.ensures ∙ c.if-failed.false in
    let some = c.is_empty.ensures.some c.if-is_empty.false in (
      omega (arith, none, some),
      none_in held.memory none,
      closed,
      saved_of g.D.Disk.state held c.is_empty.ensures.still c.is_empty.ensures.told none closed,
      all_refused (g.O.Outlet.state c.args.self.now.inner) (g.O.Outlet.state f.new.self.inner) f.new.self.held f.result (sym c.is_refused.ensures ∙ c.if-not-is_refused.false) f.ensures.cause,
    )
