use Rattle.std.proofs.Common.{sym, ◌∙◌}
use Rattle.sg_actor.proofs.DestLemmas.{none-of, send-later, send-failed, send-reopened, send-starved, send-open, send-unopened}
use Rattle.sg_actor.proofs.dest.DestActor.turn.Goals as goal

pub returns-in-Later-clause-turn : goal.returns-in-Later-clause-turn
returns-in-Later-clause-turn g c =
    let old = c.args.self.now in
    let none = none-of old.outage.given_up (sym c.is_some.ensures ∙ c.if-is_some.false) in
    let k = c.in-Later.ensures in
    send-later old.spec g.C.Counter.step c.args.counter.now old.outage c.reopen.new.outage (g.O.Outlet.state old.outlet) (g.O.Outlet.state c.reopen.new.outlet) none c.requires.failures c.in-Later.ensures

pub returns-in-Failed-clause-turn : goal.returns-in-Failed-clause-turn
returns-in-Failed-clause-turn g c =
    let old = c.args.self.now in
    let none = none-of old.outage.given_up (sym c.is_some.ensures ∙ c.if-is_some.false) in
    send-failed old.spec g.C.Counter.step c.args.counter.now old.outage c.reopen.new.outage (g.O.Outlet.state old.outlet) (g.O.Outlet.state c.reopen.new.outlet) none c.in-Failed.ensures

pub returns-in_ok-given-in-Reopened-clause-turn : goal.returns-in_ok-given-in-Reopened-clause-turn
returns-in_ok-given-in-Reopened-clause-turn g c =
    let old = c.args.self.now in
    let none = none-of old.outage.given_up (sym c.is_some.ensures ∙ c.if-is_some.false) in
    send-reopened old.spec g.C.Counter.step c.args.counter.now c.deliver_front.new.counter old.outage c.reopen.new.outage c.deliver_front.new.outage (g.O.Outlet.state old.outlet) (g.O.Outlet.state c.reopen.new.outlet) (g.O.Outlet.state c.deliver_front.new.outlet)
    c.in_ok-given-in-Reopened.given none c.in-Reopened.ensures c.in_ok-given-in-Reopened.ensures.gives

pub returns-in_err-given-in-Reopened-clause-turn : goal.returns-in_err-given-in-Reopened-clause-turn
returns-in_err-given-in-Reopened-clause-turn g c =
    let old = c.args.self.now in
    let none = none-of old.outage.given_up (sym c.is_some.ensures ∙ c.if-is_some.false) in
    send-starved old.spec g.C.Counter.step c.args.counter.now c.deliver_front.new.counter old.outage c.reopen.new.outage c.deliver_front.new.outage (g.O.Outlet.state old.outlet) (g.O.Outlet.state c.reopen.new.outlet) (g.O.Outlet.state c.deliver_front.new.outlet)
    _ c.from_residual.result c.from_residual.ensures.0 none c.in-Reopened.ensures c.in_err-given-in-Reopened.ensures.gives

pub returns-in_ok-given-in-Open-clause-turn : goal.returns-in_ok-given-in-Open-clause-turn
returns-in_ok-given-in-Open-clause-turn g c =
    let old = c.args.self.now in
    let none = none-of old.outage.given_up (sym c.is_some.ensures ∙ c.if-is_some.false) in
    send-open old.spec g.C.Counter.step c.args.counter.now c.deliver_front-in-Open.new.counter old.outage c.reopen.new.outage c.deliver_front-in-Open.new.outage (g.O.Outlet.state old.outlet) (g.O.Outlet.state c.reopen.new.outlet) (g.O.Outlet.state c.deliver_front-in-Open.new.outlet)
    c.in_ok-given-in-Open.given none c.in-Open.ensures c.in_ok-given-in-Open.ensures.gives

pub returns-in_err-given-in-Open-clause-turn : goal.returns-in_err-given-in-Open-clause-turn
returns-in_err-given-in-Open-clause-turn g c =
    let old = c.args.self.now in
    let none = none-of old.outage.given_up (sym c.is_some.ensures ∙ c.if-is_some.false) in
    send-unopened old.spec g.C.Counter.step c.args.counter.now c.deliver_front-in-Open.new.counter old.outage c.reopen.new.outage c.deliver_front-in-Open.new.outage (g.O.Outlet.state old.outlet) (g.O.Outlet.state c.reopen.new.outlet) (g.O.Outlet.state c.deliver_front-in-Open.new.outlet)
    _ c.from_residual-in_err-given-in-Open.result c.from_residual-in_err-given-in-Open.ensures.0 none c.in-Open.ensures c.in_err-given-in-Open.ensures.gives
