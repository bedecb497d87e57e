use Rattle.std.proofs.Common.{subst, sym, refl, arith, ◌∙◌}
use Rattle.std.specs.Prelude.{Ok, Err}
use Rattle.std.specs.declared.alloc.AllocError.{AllocError}
use Rattle.sg_actor.specs.Sources.{source, IsReady}
use Rattle.sg_actor.specs.Steps.{FindsWork}
use Rattle.sg_actor.specs.Bringing.{HandsIn}
use Rattle.sg_actor.proofs.FindLemmas.{pulled-none, idle-none, before-same}
use Rattle.sg_actor.proofs.KeepLemmas.{keeps-none}
use Rattle.sg_actor.proofs.OnLemmas.{on-poor, on-over, on-idle, on-unfound, on-starved, on-handed}
use Rattle.sg_actor.proofs.FailLemmas.{fails-same, fails-within}
use Rattle.sg_actor.proofs.reading.read_on.Goals as goal

pub returns-then-credit-eq0-clause-reads : goal.returns-then-credit-eq0-clause-reads
returns-then-credit-eq0-clause-reads g c =
    let feed = g.I.Inlet.state c.args.inlet.now in
    let reader = c.args.reader.now in
    let buffer = c.args.buffer.now in
    let offers = g.R.Router.offers c.args.router.now in
    let dests = g.R.Router.dests c.args.router.now in
    on-poor offers dests c.args.spec.now g.C.Counter.step c.args.counter.now c.args.credit (source feed reader buffer) (omega arith)
    (keeps-none offers dests c.args.spec.now (source feed reader buffer) c.requires.ready) (pulled-none feed reader reader buffer buffer (before-same reader)) (idle-none feed reader reader buffer buffer)

pub returns-in_err-find_work-clause-reads : goal.returns-in_err-find_work-clause-reads
returns-in_err-find_work-clause-reads g c =
    let e = c.in_err-find_work.ensures in
    on-unfound (g.R.Router.offers c.args.router.now) (g.R.Router.dests c.args.router.now) c.args.spec.now g.C.Counter.step c.args.counter.now c.args.credit
    (source (g.I.Inlet.state c.args.inlet.now) c.args.reader.now c.args.buffer.now) (source (g.I.Inlet.state c.find_work.new.inlet) c.find_work.new.reader c.find_work.new.buffer)
    c.from_residual.result c.from_residual.ensures.0 e.keeps e.pulled.pulls

pub returns-in-Over-clause-reads : goal.returns-in-Over-clause-reads
returns-in-Over-clause-reads g c =
    let e = c.in_ok-find_work.ensures in
    let a = source (g.I.Inlet.state c.args.inlet.now) c.args.reader.now c.args.buffer.now in
    let b = source (g.I.Inlet.state c.find_work.new.inlet) c.find_work.new.reader c.find_work.new.buffer in
    on-over (g.R.Router.offers c.args.router.now) (g.R.Router.dests c.args.router.now) c.args.spec.now g.C.Counter.step c.args.counter.now c.args.credit a b
    e.keeps (subst (λ f. FindsWork {E = AllocError} a b (Ok f)) c.in-Over.is e.finds) e.pulled.pulls

pub returns-in-Idle-clause-reads : goal.returns-in-Idle-clause-reads
returns-in-Idle-clause-reads g c =
    let e = c.in_ok-find_work.ensures in
    let a = source (g.I.Inlet.state c.args.inlet.now) c.args.reader.now c.args.buffer.now in
    let b = source (g.I.Inlet.state c.find_work.new.inlet) c.find_work.new.reader c.find_work.new.buffer in
    on-idle (g.R.Router.offers c.args.router.now) (g.R.Router.dests c.args.router.now) c.args.spec.now g.C.Counter.step c.args.counter.now c.args.credit a b
    e.keeps (subst (λ f. FindsWork {E = AllocError} a b (Ok f)) c.in-Idle.is e.finds) e.pulled.pulls

pub returns-in_err-handed-in-Work-clause-reads : goal.returns-in_err-handed-in-Work-clause-reads
returns-in_err-handed-in-Work-clause-reads g c =
    let e = c.in_ok-find_work.ensures in
    let dests = g.R.Router.dests c.args.router.now in
    let a = source (g.I.Inlet.state c.args.inlet.now) c.args.reader.now c.args.buffer.now in
    let b = source (g.I.Inlet.state c.find_work.new.inlet) c.find_work.new.reader c.find_work.new.buffer in
    let z = source (g.I.Inlet.state c.hand_in.new.inlet) c.hand_in.new.reader c.find_work.new.buffer in
    let ready = subst (λ d. IsReady d c.args.spec.now b) c.requires.dests e.keeps.ready in
    let hands = subst (λ d. HandsIn {E = AllocError} d c.args.spec.now g.C.Counter.step c.args.counter.now c.hand_in.new.counter b z (Err c.in_err-handed-in-Work.field-0.0)) (sym c.requires.dests) (c.in_err-handed-in-Work.ensures.hands c.find_work.new.buffer ready) in
    on-starved (g.R.Router.offers c.args.router.now) dests c.args.spec.now g.C.Counter.step c.args.counter.now c.hand_in.new.counter c.args.credit a b z c.in_err-handed-in-Work.field-0.0
    c.from_residual-in_err-handed-in-Work.result c.from_residual-in_err-handed-in-Work.ensures.0 e.keeps hands e.pulled.pulls (omega (arith, e.few, c.least-most.ensures.credit))

pub returns-in_ok-handed-in-Work-clause-reads : goal.returns-in_ok-handed-in-Work-clause-reads
returns-in_ok-handed-in-Work-clause-reads g c =
    let e = c.in_ok-find_work.ensures in
    let dests = g.R.Router.dests c.args.router.now in
    let a = source (g.I.Inlet.state c.args.inlet.now) c.args.reader.now c.args.buffer.now in
    let b = source (g.I.Inlet.state c.find_work.new.inlet) c.find_work.new.reader c.find_work.new.buffer in
    let z = source (g.I.Inlet.state c.hand_in.new.inlet) c.hand_in.new.reader c.find_work.new.buffer in
    let ready = subst (λ d. IsReady d c.args.spec.now b) c.requires.dests e.keeps.ready in
    let hands = subst (λ d. HandsIn {E = AllocError} d c.args.spec.now g.C.Counter.step c.args.counter.now c.hand_in.new.counter b z (Ok c.in_ok-handed-in-Work.handed)) (sym c.requires.dests) (c.in_ok-handed-in-Work.ensures.hands c.find_work.new.buffer ready) in
    on-handed (g.R.Router.offers c.args.router.now) dests c.args.spec.now g.C.Counter.step c.args.counter.now c.hand_in.new.counter c.args.credit a b z c.in-Work.pulled c.in_ok-handed-in-Work.handed
    e.keeps (subst (λ f. FindsWork {E = AllocError} a b (Ok f)) c.in-Work.is e.finds) hands e.pulled.pulls (omega (arith, e.few, c.least-most.ensures.credit))

pub returns-then-credit-eq0-clause-failing : goal.returns-then-credit-eq0-clause-failing
returns-then-credit-eq0-clause-failing g c =
    let faults = (g.I.Inlet.state c.args.inlet.now).faults in
    fails-same c.args.reader.now.failed c.args.reader.now.failed faults faults refl

pub returns-in_err-handed-in-Work-clause-failing : goal.returns-in_err-handed-in-Work-clause-failing
returns-in_err-handed-in-Work-clause-failing g c =
    let e = c.in_ok-find_work.ensures in
    let b = source (g.I.Inlet.state c.find_work.new.inlet) c.find_work.new.reader c.find_work.new.buffer in
    let hands = c.in_err-handed-in-Work.ensures.hands c.find_work.new.buffer (subst (λ d. IsReady d c.args.spec.now b) c.requires.dests e.keeps.ready) in
    fails-within c.args.reader.now.failed c.args.reader.now.failed c.find_work.new.reader.failed c.hand_in.new.reader.failed
    (g.I.Inlet.state c.args.inlet.now).faults (g.I.Inlet.state c.find_work.new.inlet).faults (g.I.Inlet.state c.hand_in.new.inlet).faults
    refl e.pulled.failing hands.gives.unpulled.failed hands.gives.advances.faults

pub returns-in_ok-handed-in-Work-clause-failing : goal.returns-in_ok-handed-in-Work-clause-failing
returns-in_ok-handed-in-Work-clause-failing g c =
    let e = c.in_ok-find_work.ensures in
    let b = source (g.I.Inlet.state c.find_work.new.inlet) c.find_work.new.reader c.find_work.new.buffer in
    let hands = c.in_ok-handed-in-Work.ensures.hands c.find_work.new.buffer (subst (λ d. IsReady d c.args.spec.now b) c.requires.dests e.keeps.ready) in
    fails-within c.args.reader.now.failed c.args.reader.now.failed c.find_work.new.reader.failed c.hand_in.new.reader.failed
    (g.I.Inlet.state c.args.inlet.now).faults (g.I.Inlet.state c.find_work.new.inlet).faults (g.I.Inlet.state c.hand_in.new.inlet).faults
    refl e.pulled.failing hands.gives.unpulled.failed hands.gives.advances.faults

pub returns-in_err-handed-in-Work-clause-ended : goal.returns-in_err-handed-in-Work-clause-ended
returns-in_err-handed-in-Work-clause-ended g c =
    let e = c.in_ok-find_work.ensures in
    let b = source (g.I.Inlet.state c.find_work.new.inlet) c.find_work.new.reader c.find_work.new.buffer in
    let hands = c.in_err-handed-in-Work.ensures.hands c.find_work.new.buffer (subst (λ d. IsReady d c.args.spec.now b) c.requires.dests e.keeps.ready) in
    λ was. hands.gives.unpulled.ended ∙ e.pulled.ended was

pub returns-in_ok-handed-in-Work-clause-ended : goal.returns-in_ok-handed-in-Work-clause-ended
returns-in_ok-handed-in-Work-clause-ended g c =
    let e = c.in_ok-find_work.ensures in
    let b = source (g.I.Inlet.state c.find_work.new.inlet) c.find_work.new.reader c.find_work.new.buffer in
    let hands = c.in_ok-handed-in-Work.ensures.hands c.find_work.new.buffer (subst (λ d. IsReady d c.args.spec.now b) c.requires.dests e.keeps.ready) in
    λ was. hands.gives.unpulled.ended ∙ e.pulled.ended was
