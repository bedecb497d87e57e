use Rattle.std.proofs.Common.{◌≡◌, ◌∙◌, ℕ, List, length, sym, ap, arith}
use Rattle.sg_overflow.specs.View.{Held, held_count}
use Rattle.sg_overflow.proofs.Sends.{held_cause, held_open, some_length, none_length, moves_sent, sent_few, sent_all, sent_cause, nothing_open}
use Rattle.sg_overflow.proofs.forwarding.forward_batch.Goals as goal

pub returns-in-Err-clause-forwards : goal.returns-in-Err-clause-forwards
returns-in-Err-clause-forwards g c = (0, c.first.ensures.reads.moves (g.O.Outlet.state c.args.inner.now))

pub returns-in-Err-clause-cause : goal.returns-in-Err-clause-cause
returns-in-Err-clause-cause g c =
    held_cause (g.O.Outlet.state c.args.inner.now) (g.O.Outlet.state c.args.inner.now) c.first.new.self.store.closed c.in-Err.stop c.in-Err.ensures.cause

pub returns-in-Err-clause-fewer : goal.returns-in-Err-clause-fewer
returns-in-Err-clause-fewer g c = λ is some. held_open c.first.new.self.store.closed c.in-Err.stop c.in-Err.ensures.cause is

pub returns-then-is_empty-clause-forwards : goal.returns-then-is_empty-clause-forwards
returns-then-is_empty-clause-forwards g c = (0, c.first.ensures.reads.moves (g.O.Outlet.state c.args.inner.now))

pub returns-then-is_empty-clause-fewer : goal.returns-then-is_empty-clause-fewer
returns-then-is_empty-clause-fewer g c = λ is some.
    let none : length c.in-Ok.frames ≡ 0 = none_length (length c.in-Ok.frames) (sym c.is_empty.ensures ∙ c.if-is_empty.true) in
    absurd (omega (arith, c.in-Ok.ensures.shows.some some, none))

pub send-sent-requires : goal.send-sent-requires
send-sent-requires g c = λ is.
    let none : length c.in-Ok.frames ≡ 0 = ap (λ (l : List (List ℕ)). length l) is in
    let some = some_length (length c.in-Ok.frames) (sym c.is_empty.ensures ∙ c.if-is_empty.false) in
    omega (arith, none, some)

pub remove_first-requires-clause-some : goal.remove_first-requires-clause-some
remove_first-requires-clause-some g c =
    let s = c.send-sent in
    let few = sent_few (g.O.Outlet.state c.args.inner.now) (g.O.Outlet.state s.new.inner) c.in-Ok.frames s.result.count s.result.stop s.ensures.answer in
    let same : held_count c.first.new.self ≡ held_count c.args.held.now = ap (λ (h : Held g.row.D.Denot). held_count h) c.first.ensures.reads.same in
    omega (arith, few, same, c.in-Ok.ensures.shows.within)

pub remove_first-requires-clause-stored : goal.remove_first-requires-clause-stored
remove_first-requires-clause-stored g c = λ some.
    let s = c.send-sent in
    let few = sent_few (g.O.Outlet.state c.args.inner.now) (g.O.Outlet.state s.new.inner) c.in-Ok.frames s.result.count s.result.stop s.ensures.answer in
    let same : c.first.new.self.stored ≡ c.args.held.now.stored = ap (λ (h : Held g.row.D.Denot). h.stored) c.first.ensures.reads.same in
    let many = c.in-Ok.ensures.shows.stored (omega (arith, some, same)) in
    omega (arith, few, same, many)

pub remove_first-requires-clause-works : goal.remove_first-requires-clause-works
remove_first-requires-clause-works g c = c.in-Ok.ensures.shows.works

pub returns-then-not-remove_first-clause-forwards : goal.returns-then-not-remove_first-clause-forwards
returns-then-not-remove_first-clause-forwards g c =
    let s = c.send-sent in (
      s.result.count,
      moves_sent g.D.Disk.state c.in-Ok.frames s.result.count s.result.stop (g.O.Outlet.state c.args.inner.now) (g.O.Outlet.state s.new.inner) c.args.held.now c.first.new.self c.remove_first.new.self
          c.first.ensures.reads c.in-Ok.ensures.shows s.ensures c.remove_first.ensures.drops,
    )

pub returns-then-not-remove_first-clause-cause : goal.returns-then-not-remove_first-clause-cause
returns-then-not-remove_first-clause-cause g c = c.remove_first.ensures.cause c.if-not-remove_first.true

pub returns-then-not-remove_first-clause-fewer : goal.returns-then-not-remove_first-clause-fewer
returns-then-not-remove_first-clause-fewer g c = λ is some. nothing_open is

pub returns-clause-forwards : goal.returns-clause-forwards
returns-clause-forwards g c =
    let s = c.send-sent in (
      s.result.count,
      moves_sent g.D.Disk.state c.in-Ok.frames s.result.count s.result.stop (g.O.Outlet.state c.args.inner.now) (g.O.Outlet.state s.new.inner) c.args.held.now c.first.new.self c.remove_first.new.self
          c.first.ensures.reads c.in-Ok.ensures.shows s.ensures c.remove_first.ensures.drops,
    )

pub returns-clause-cause : goal.returns-clause-cause
returns-clause-cause g c =
    let s = c.send-sent in
    sent_cause (g.O.Outlet.state c.args.inner.now) (g.O.Outlet.state s.new.inner) c.in-Ok.frames s.result.count c.remove_first.new.self.store.closed s.result.stop s.ensures.answer

pub returns-clause-fewer : goal.returns-clause-fewer
returns-clause-fewer g c = λ is any.
    let s = c.send-sent in
    let all = sent_all (g.O.Outlet.state c.args.inner.now) (g.O.Outlet.state s.new.inner) c.in-Ok.frames s.result.count s.result.stop s.ensures.answer is in
    let some = some_length (length c.in-Ok.frames) (sym c.is_empty.ensures ∙ c.if-is_empty.false) in
    let same : held_count c.first.new.self ≡ held_count c.args.held.now = ap (λ (h : Held g.row.D.Denot). held_count h) c.first.ensures.reads.same in
    omega (arith, all, some, same, c.remove_first.ensures.drops.number)
