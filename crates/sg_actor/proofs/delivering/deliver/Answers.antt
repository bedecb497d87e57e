use Rattle.std.proofs.Common.{◌≡◌, sym, subst, ap, true, List, ℕ, length, arith}
use Rattle.sg_actor.specs.Rendering.{sent_of}
use Rattle.sg_actor.specs.Outages.{SendComesTo}
use Rattle.sg_actor.specs.DestTurns.{HasDelivered, idle_in}
use Rattle.sg_actor.specs.Delivering.{Settles}
use Rattle.sg_actor.proofs.FrameLemmas.{sent-few}
use Rattle.sg_actor.proofs.SendLemmas.{delivered-none, delivered-starved, delivered-stopped, delivered-well, not-ok}
use Rattle.sg_actor.proofs.delivering.deliver.Goals as goal

pub returns-in_err-render-clause-delivers : goal.returns-in_err-render-clause-delivers
returns-in_err-render-clause-delivers g c =
    let drain = g.O.Outlet.state c.args.outlet.now in
    subst (λ well. HasDelivered c.args.spec.now g.C.Counter.step c.args.counter.now c.args.counter.now c.args.place c.args.messages.now c.args.outage.now drain drain well (idle_in c.from_residual.result)) (sym (not-ok c.from_residual.result c.from_residual.ensures.0))
    (delivered-none c.args.spec.now g.C.Counter.step c.args.counter.now c.args.place c.args.messages.now c.args.outage.now drain (idle_in c.from_residual.result) c.requires.ready c.requires.kept c.requires.failures)

pub send-sent-requires-clause-few : goal.send-sent-requires-clause-few
send-sent-requires-clause-few g c = let e : length c.render.new.frames ≡ length (sent_of c.args.spec.now c.args.messages.now) = ap length c.in_ok-render.ensures in omega (arith, sent-few c.args.spec.now c.args.messages.now)

pub returns-then-sent-clause-delivers : goal.returns-then-sent-clause-delivers
returns-then-sent-clause-delivers g c =
    let drain = g.O.Outlet.state c.args.outlet.now in
    let drain' = g.O.Outlet.state c.send-sent.new.outlet in
    let sends = subst (λ (frames : List (List ℕ)). SendComesTo c.args.spec.now.gives_up frames c.args.outage.now c.send-sent.new.outage drain drain' c.send-sent.result) c.in_ok-render.ensures c.send-sent.ensures in
    let settles = subst (λ (k : ℕ). Settles g.C.Counter.step c.args.counter.now c.settle-goes_on.new.counter c.args.spec.now.dest c.args.place c.send-sent.result.taken k c.send-sent.new.outage c.settle-goes_on.new.outage c.settle-goes_on.result) c.of-taken.ensures c.settle-goes_on.ensures.settles in
    delivered-starved c.args.spec.now g.C.Counter.step c.args.counter.now c.settle-goes_on.new.counter c.args.place c.args.messages.now c.args.outage.now c.send-sent.new.outage c.settle-goes_on.new.outage drain drain' c.send-sent.result c.settle-goes_on.result
    sends c.requires.ready c.requires.kept settles

pub returns-else-goes_on-clause-delivers : goal.returns-else-goes_on-clause-delivers
returns-else-goes_on-clause-delivers g c =
    let drain = g.O.Outlet.state c.args.outlet.now in
    let drain' = g.O.Outlet.state c.send-sent.new.outlet in
    let sends = subst (λ (frames : List (List ℕ)). SendComesTo c.args.spec.now.gives_up frames c.args.outage.now c.send-sent.new.outage drain drain' c.send-sent.result) c.in_ok-render.ensures c.send-sent.ensures in
    let settles = subst (λ (k : ℕ). Settles g.C.Counter.step c.args.counter.now c.settle-goes_on.new.counter c.args.spec.now.dest c.args.place c.send-sent.result.taken k c.send-sent.new.outage c.settle-goes_on.new.outage c.settle-goes_on.result) c.of-taken.ensures c.settle-goes_on.ensures.settles in
    subst (λ b. HasDelivered c.args.spec.now g.C.Counter.step c.args.counter.now c.settle-goes_on.new.counter c.args.place c.args.messages.now c.settle-goes_on.new.outage drain drain' true b) (sym c.idle-idle.ensures)
    (delivered-stopped c.args.spec.now g.C.Counter.step c.args.counter.now c.settle-goes_on.new.counter c.args.place c.args.messages.now c.args.outage.now c.send-sent.new.outage c.settle-goes_on.new.outage drain drain' c.send-sent.result c.settle-goes_on.result
    sends c.requires.ready c.requires.kept settles c.if-goes_on.false c.if-sent.false)

pub returns-then-goes_on-clause-delivers : goal.returns-then-goes_on-clause-delivers
returns-then-goes_on-clause-delivers g c =
    let drain = g.O.Outlet.state c.args.outlet.now in
    let drain' = g.O.Outlet.state c.send-sent.new.outlet in
    let sends = subst (λ (frames : List (List ℕ)). SendComesTo c.args.spec.now.gives_up frames c.args.outage.now c.send-sent.new.outage drain drain' c.send-sent.result) c.in_ok-render.ensures c.send-sent.ensures in
    let settles = subst (λ (k : ℕ). Settles g.C.Counter.step c.args.counter.now c.settle-goes_on.new.counter c.args.spec.now.dest c.args.place c.send-sent.result.taken k c.send-sent.new.outage c.settle-goes_on.new.outage c.settle-goes_on.result) c.of-taken.ensures c.settle-goes_on.ensures.settles in
    subst (λ b. HasDelivered c.args.spec.now g.C.Counter.step c.args.counter.now c.refill.new.counter c.args.place c.args.messages.now c.refill.new.outage drain drain' true b) (sym c.idle-idle.ensures)
    (delivered-well c.args.spec.now g.C.Counter.step c.args.counter.now c.settle-goes_on.new.counter c.refill.new.counter c.args.place c.args.messages.now c.args.outage.now c.send-sent.new.outage c.settle-goes_on.new.outage c.refill.new.outage drain drain' c.send-sent.result c.settle-goes_on.result
    sends c.requires.ready c.requires.kept settles c.if-goes_on.true c.refill.ensures.refills c.if-sent.false)
