use Rattle.std.proofs.Common.{sym, subst, ◌∙◌, true, false, List}
use Rattle.std.specs.Prelude.{Ok}
use Rattle.sg_msg.specs.Message.{Content}
use Rattle.sg_counter.specs.declared.answers.CoreFront.{CoreFront}
use Rattle.sg_counter.specs.declared.calls.CoreCall.TheVariants.{Front}
use Rattle.sg_counter.specs.declared.calls.CoreReply.TheVariants.{Front as FrontReply}
use Rattle.sg_actor.specs.DestTurns.{HasDelivered}
use Rattle.sg_actor.proofs.FrontLemmas.{front-starved, front-flushed, front-empty, front-blank, front-broken, front-well, front-failed, blank-of, some-of}
use Rattle.sg_actor.proofs.delivering.deliver_front.Goals as goal

pub returns-in_err-place-clause-gives : goal.returns-in_err-place-clause-gives
returns-in_err-place-clause-gives g c =
    front-starved c.args.spec.now g.C.Counter.step c.entries.result c.entries.ensures.most c.args.counter.now c.front.new.self _ c.args.outage.now (g.O.Outlet.state c.args.outlet.now) c.from_residual.result c.from_residual.ensures.0
    c.in_err-place.ensures.step c.requires.failures c.requires.ready c.requires.kept

pub returns-in-Empty-clause-gives : goal.returns-in-Empty-clause-gives
returns-in-Empty-clause-gives g c =
    let made = subst (λ (f : CoreFront). g.C.Counter.step c.args.counter.now (Front c.args.spec.now.dest c.entries.result) (FrontReply (Ok f)) c.front.new.self) c.in-Empty.is c.in_ok-place.ensures.step in
    front-flushed c.args.spec.now g.C.Counter.step c.args.counter.now c.front.new.self c.args.outage.now (g.O.Outlet.state c.args.outlet.now) (g.O.Outlet.state c.flush-in-Empty.new.outlet) c.flush-in-Empty.result
    (front-empty c.args.spec.now g.C.Counter.step c.entries.result c.entries.ensures.most c.args.counter.now c.front.new.self c.args.outage.now (g.O.Outlet.state c.args.outlet.now) made c.requires.failures c.requires.ready c.requires.kept)
    c.flush-in-Empty.ensures.outlet c.flush-in-Empty.ensures.nothing

pub returns-in-Broken-clause-gives : goal.returns-in-Broken-clause-gives
returns-in-Broken-clause-gives g c =
    let made = subst (λ (f : CoreFront). g.C.Counter.step c.args.counter.now (Front c.args.spec.now.dest c.entries.result) (FrontReply (Ok f)) c.front.new.self) c.in-Broken.is c.in_ok-place.ensures.step in
    front-broken c.args.spec.now g.C.Counter.step c.entries.result c.entries.ensures.most c.args.counter.now c.front.new.self c.args.outage.now c.break_store.new.self (g.O.Outlet.state c.args.outlet.now) made c.requires.failures c.requires.ready c.requires.kept c.break_store.ensures

pub returns-then-is_empty-clause-gives : goal.returns-then-is_empty-clause-gives
returns-then-is_empty-clause-gives g c =
    let made = subst (λ (f : CoreFront). g.C.Counter.step c.args.counter.now (Front c.args.spec.now.dest c.entries.result) (FrontReply (Ok f)) c.front.new.self) c.in-Entries.is c.in_ok-place.ensures.step in
    front-flushed c.args.spec.now g.C.Counter.step c.args.counter.now c.front.new.self c.args.outage.now (g.O.Outlet.state c.args.outlet.now) (g.O.Outlet.state c.flush.new.outlet) c.flush.result
    (front-blank c.args.spec.now g.C.Counter.step c.entries.result c.entries.ensures.most c.args.counter.now c.front.new.self c.in-Entries.place c.in-Entries.messages c.args.outage.now (g.O.Outlet.state c.args.outlet.now)
    (blank-of c.in-Entries.messages (sym c.is_empty.ensures ∙ c.if-is_empty.true)) made c.requires.failures c.requires.ready c.requires.kept)
    c.flush.ensures.outlet c.flush.ensures.nothing

pub returns-in_err-idle-in-Entries-clause-gives : goal.returns-in_err-idle-in-Entries-clause-gives
returns-in_err-idle-in-Entries-clause-gives g c =
    let made = subst (λ (f : CoreFront). g.C.Counter.step c.args.counter.now (Front c.args.spec.now.dest c.entries.result) (FrontReply (Ok f)) c.front.new.self) c.in-Entries.is c.in_ok-place.ensures.step in
    let some = some-of c.in-Entries.messages (sym c.is_empty.ensures ∙ c.if-is_empty.false) in
    let h = subst (λ (ms : List Content). HasDelivered c.args.spec.now g.C.Counter.step c.front.new.self c.deliver.new.counter c.in-Entries.place ms c.deliver.new.outage (g.O.Outlet.state c.args.outlet.now) (g.O.Outlet.state c.deliver.new.outlet) false false) c.as_slice.ensures c.in_err-idle-in-Entries.ensures.delivers in
    front-failed c.args.spec.now g.C.Counter.step c.entries.result c.entries.ensures.most c.args.counter.now c.front.new.self c.deliver.new.counter c.in-Entries.place c.in-Entries.messages c.deliver.new.outage (g.O.Outlet.state c.args.outlet.now) (g.O.Outlet.state c.deliver.new.outlet)
    c.from_residual-in_err-idle-in-Entries.result false c.from_residual-in_err-idle-in-Entries.ensures.0 some made h

pub returns-in_ok-idle-in-Entries-clause-gives : goal.returns-in_ok-idle-in-Entries-clause-gives
returns-in_ok-idle-in-Entries-clause-gives g c =
    let made = subst (λ (f : CoreFront). g.C.Counter.step c.args.counter.now (Front c.args.spec.now.dest c.entries.result) (FrontReply (Ok f)) c.front.new.self) c.in-Entries.is c.in_ok-place.ensures.step in
    let some = some-of c.in-Entries.messages (sym c.is_empty.ensures ∙ c.if-is_empty.false) in
    let h = subst (λ (ms : List Content). HasDelivered c.args.spec.now g.C.Counter.step c.front.new.self c.deliver.new.counter c.in-Entries.place ms c.deliver.new.outage (g.O.Outlet.state c.args.outlet.now) (g.O.Outlet.state c.deliver.new.outlet) true c.in_ok-idle-in-Entries.idle) c.as_slice.ensures c.in_ok-idle-in-Entries.ensures.delivers in
    front-well c.args.spec.now g.C.Counter.step c.entries.result c.entries.ensures.most c.args.counter.now c.front.new.self c.deliver.new.counter c.in-Entries.place c.in-Entries.messages c.deliver.new.outage (g.O.Outlet.state c.args.outlet.now) (g.O.Outlet.state c.deliver.new.outlet) c.in_ok-idle-in-Entries.idle some made h
