use Rattle.std.proofs.Common.{◌<◌, ◌+◌, ◌^◌, ℕ, Bool, Ok, refl, subst, arith}
use Rattle.sg_frame.specs.Framing.{open_left}
use Rattle.sg_route.proofs.Routers.{router-same, router-then}
use Rattle.sg_trace.specs.declared.tracer.Tracer.{Tracer}
use Rattle.sg_trace.specs.Pulling.{PullsTraced}
use Rattle.sg_trace.specs.Rows.{items_in}
use Rattle.sg_trace.specs.Taking.{IsBadIf}
use Rattle.sg_trace.proofs.Takings.{items-count, takes-back}
use Rattle.sg_trace.proofs.Tracings.{tracing-begun, traces-ended, traces-failed, tracing-taken, tracing-said, traces-bad}
use Rattle.sg_output.proofs.Sayings.{err-is}
use Rattle.sg_trace.proofs.opened.trace_opened.Goals as goal

pub loop-pull-init : goal.loop-pull-init
loop-pull-init g c = record {
  tracing = tracing-begun (g.R.Router.offers c.args.router.now c.args.reader.inlet) c.args.targets.now c.args.reader.kind c.args.reader.limit (g.W.Feed.Inlet.state c.args.feed.now) (g.W.Machine.state c.args.world.now) c.args.tracer.now c.requires.begun;
  router = router-same (g.R.Router.offers c.args.router.now) (g.R.Router.inlets c.args.router.now) (g.R.Router.dests c.args.router.now);
}

pub returns-in_err-pull_once-clause-traces : goal.returns-in_err-pull_once-clause-traces
returns-in_err-pull_once-clause-traces g c =
    let why = c.in_err-pull_once.field-0.0 in
    rw (err-is _ why c.from_residual.ensures.1)
    (traces-failed (g.R.Router.offers c.args.router.now c.args.reader.inlet) c.args.targets.now c.args.reader.kind c.args.reader.limit (g.W.Feed.Inlet.state c.args.feed.now) (g.W.Machine.state c.args.world.now)
    (g.W.Feed.Inlet.state c.loop-pull.feed) (g.W.Machine.state c.loop-pull.world) c.loop-pull.tracer c.loop-pull._pull
    (g.W.Feed.Inlet.state c.pull_once.new.feed) c.pull_once.new.framer why c.loop-pull.invariant.tracing c.in_err-pull_once.ensures.later c.in_err-pull_once.ensures.pulls)

pub returns-then-branch-clause-traces : goal.returns-then-branch-clause-traces
returns-then-branch-clause-traces g c =
    let feed = g.W.Feed.Inlet.state c.loop-pull.feed in
    let feed' = g.W.Feed.Inlet.state c.pull_once.new.feed in
    let f = c.loop-pull.tracer.framer in
    let f' = c.pull_once.new.framer in
    traces-ended (g.R.Router.offers c.args.router.now c.args.reader.inlet) c.args.targets.now c.args.reader.kind c.args.reader.limit (g.W.Feed.Inlet.state c.args.feed.now) (g.W.Machine.state c.args.world.now)
    feed (g.W.Machine.state c.loop-pull.world) c.loop-pull.tracer c.loop-pull._pull
    feed' f' c.loop-pull.invariant.tracing c.in_ok-pull_once.ensures.later (subst (λ (b : Bool). PullsTraced feed feed' f f' (Ok b)) c.if-branch.true c.in_ok-pull_once.ensures.pulls)

pub take_items-requires-clause-timely : goal.take_items-requires-clause-timely
take_items-requires-clause-timely g c =
    let feed = g.W.Feed.Inlet.state c.loop-pull.feed in
    let feed' = g.W.Feed.Inlet.state c.pull_once.new.feed in
    let (rows, so) = c.loop-pull.invariant.tracing in
    let pull = subst (λ (b : Bool). PullsTraced feed feed' c.loop-pull.tracer.framer c.pull_once.new.framer (Ok b)) c.if-branch.false c.in_ok-pull_once.ensures.pulls in
    let done = pull c.args.reader.kind c.args.reader.limit (g.W.Feed.Inlet.state c.args.feed.now) (items_in rows) so.reads in
    done.0.1.timely

pub take_items-requires-clause-room : goal.take_items-requires-clause-room
take_items-requires-clause-room g c =
    let feed = g.W.Feed.Inlet.state c.loop-pull.feed in
    let feed' = g.W.Feed.Inlet.state c.pull_once.new.feed in
    let (rows, so) = c.loop-pull.invariant.tracing in
    let pull = subst (λ (b : Bool). PullsTraced feed feed' c.loop-pull.tracer.framer c.pull_once.new.framer (Ok b)) c.if-branch.false c.in_ok-pull_once.ensures.pulls in
    let done = pull c.args.reader.kind c.args.reader.limit (g.W.Feed.Inlet.state c.args.feed.now) (items_in rows) so.reads in
    omega (arith, so.count, done.0.1.fewer, items-count rows)

pub take_items-requires-clause-range : goal.take_items-requires-clause-range
take_items-requires-clause-range g c =
    let feed = g.W.Feed.Inlet.state c.loop-pull.feed in
    let feed' = g.W.Feed.Inlet.state c.pull_once.new.feed in
    let (rows, so) = c.loop-pull.invariant.tracing in
    let pull = subst (λ (b : Bool). PullsTraced feed feed' c.loop-pull.tracer.framer c.pull_once.new.framer (Ok b)) c.if-branch.false c.in_ok-pull_once.ensures.pulls in
    let done = pull c.args.reader.kind c.args.reader.limit (g.W.Feed.Inlet.state c.args.feed.now) (items_in rows) so.reads in
    subst (λ (n : ℕ). n < 2 ^ 63) done.0.1.place done.0.1.range

pub returns-then-bad-clause-traces : goal.returns-then-bad-clause-traces
returns-then-bad-clause-traces g c =
    let offering = g.R.Router.offers c.args.router.now c.args.reader.inlet in
    let other = g.R.Router.offers c.loop-pull.router c.args.reader.inlet in
    let targets = c.args.targets.now in
    let kind = c.args.reader.kind in
    let limit = c.args.reader.limit in
    let first = g.W.Feed.Inlet.state c.args.feed.now in
    let world = g.W.Machine.state c.args.world.now in
    let feed = g.W.Feed.Inlet.state c.loop-pull.feed in
    let feed' = g.W.Feed.Inlet.state c.pull_once.new.feed in
    let now = g.W.Machine.state c.loop-pull.world in
    let later = g.W.Machine.state c.say_piece.new.world in
    let tracer = c.loop-pull.tracer in
    let f' = c.pull_once.new.framer in
    let new = c.take_items.new.tracer in
    let said : Tracer = record new { text = c.say_piece.new.text } in
    let n = c.loop-pull._pull in
    let pull = subst (λ (b : Bool). PullsTraced feed feed' tracer.framer f' (Ok b)) c.if-branch.false c.in_ok-pull_once.ensures.pulls in
    let takes = takes-back offering other targets c.peer.result.now (record tracer { framer = f' }) new c.in_ok-bad.bad (c.loop-pull.invariant.router.same.back c.args.reader.inlet) c.in_ok-bad.ensures.takes in
    let one = tracing-taken offering targets kind limit first world feed now tracer n feed' f' new c.in_ok-bad.bad c.peer.result.now c.loop-pull.invariant.tracing pull c.peer.ensures takes in
    let two = tracing-said offering targets kind limit first world feed' now new (n + 1) later said one c.in_ok-say_piece.ensures.says c.in_ok-say_piece.ensures.some refl refl in
    traces-bad offering targets kind limit first world feed' later said (n + 1) two (subst (λ (b : Bool). IsBadIf b (open_left new.framer)) c.if-bad.true takes.1.bad_count)

pub loop-pull-preserved : goal.loop-pull-preserved
loop-pull-preserved g c =
    let offering = g.R.Router.offers c.args.router.now c.args.reader.inlet in
    let other = g.R.Router.offers c.loop-pull.router c.args.reader.inlet in
    let targets = c.args.targets.now in
    let kind = c.args.reader.kind in
    let limit = c.args.reader.limit in
    let first = g.W.Feed.Inlet.state c.args.feed.now in
    let world = g.W.Machine.state c.args.world.now in
    let feed = g.W.Feed.Inlet.state c.loop-pull.feed in
    let feed' = g.W.Feed.Inlet.state c.pull_once.new.feed in
    let now = g.W.Machine.state c.loop-pull.world in
    let later = g.W.Machine.state c.say_piece.new.world in
    let tracer = c.loop-pull.tracer in
    let f' = c.pull_once.new.framer in
    let new = c.take_items.new.tracer in
    let said : Tracer = record new { text = c.say_piece.new.text } in
    let n = c.loop-pull._pull in
    let pull = subst (λ (b : Bool). PullsTraced feed feed' tracer.framer f' (Ok b)) c.if-branch.false c.in_ok-pull_once.ensures.pulls in
    let takes = takes-back offering other targets c.peer.result.now (record tracer { framer = f' }) new c.in_ok-bad.bad (c.loop-pull.invariant.router.same.back c.args.reader.inlet) c.in_ok-bad.ensures.takes in
    let one = tracing-taken offering targets kind limit first world feed now tracer n feed' f' new c.in_ok-bad.bad c.peer.result.now c.loop-pull.invariant.tracing pull c.peer.ensures takes in
    record {
      tracing = tracing-said offering targets kind limit first world feed' now new (n + 1) later said one c.in_ok-say_piece.ensures.says c.in_ok-say_piece.ensures.some refl refl;
      router = router-then _ _ _ _ _ _ _ _ _ c.loop-pull.invariant.router c.in_ok-bad.ensures.router;
    }
