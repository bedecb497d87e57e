use Rattle.std.proofs.Common.{arith, ◌≡◌, refl, subst, sym, ◌∙◌, true, false, ap, length}
use Rattle.std.specs.Prelude.{not}
use Rattle.sg_actor.specs.Sources.{source, IsReady}
use Rattle.sg_actor.proofs.FindLemmas.{spent-of, pulled-none, idle-none, pulled-as, before-same, going-of, ended-not, keeps-pulled, keeps-rest}
use Rattle.sg_actor.proofs.FailLemmas.{fails-same, fails-within}
use Rattle.sg_actor.proofs.reading.find_work.Goals as goal

pub returns-then-not-is_spent-clause-finds : goal.returns-then-not-is_spent-clause-finds
returns-then-not-is_spent-clause-finds g c =
    let feed = g.I.Inlet.state c.args.inlet.now in
    let buffer = c.args.buffer.now in (
      pulled-none feed c.args.reader.now c.read_whole.new.reader buffer buffer c.in_ok-read_whole.ensures.before,
      idle-none feed c.args.reader.now c.read_whole.new.reader buffer buffer,
      λ e. sym c.is_spent.ensures ∙ c.if-not-is_spent.true,
    )

pub returns-then-is_over-clause-finds : goal.returns-then-is_over-clause-finds
returns-then-is_over-clause-finds g c =
    let feed = g.I.Inlet.state c.args.inlet.now in
    let buffer = c.args.buffer.now in
    let r = c.read_whole.new.reader in
    let reads = c.in_ok-read_whole.ensures.reads in (
      pulled-none feed c.args.reader.now r buffer buffer c.in_ok-read_whole.ensures.before,
      idle-none feed c.args.reader.now r buffer buffer,
      record {
        spent = spent-of r c.args.most (sym c.is_spent.ensures ∙ c.if-not-is_spent.false) c.requires.some reads.0 reads.1;
        over = sym c.is_over.ensures ∙ c.if-is_over.true;
      },
    )

pub pull_once-requires-clause-spent : goal.pull_once-requires-clause-spent
pull_once-requires-clause-spent g c =
    let reads = c.in_ok-read_whole.ensures.reads in
    spent-of c.read_whole.new.reader c.args.most (sym c.is_spent.ensures ∙ c.if-not-is_spent.false) c.requires.some reads.0 reads.1

pub pull_once-requires-clause-going : goal.pull_once-requires-clause-going
pull_once-requires-clause-going g c = (going-of c.read_whole.new.reader (sym c.is_over.ensures ∙ c.if-is_over.false)).0

pub pull_once-requires-clause-works : goal.pull_once-requires-clause-works
pull_once-requires-clause-works g c = (going-of c.read_whole.new.reader (sym c.is_over.ensures ∙ c.if-is_over.false)).1

pub returns-then-pull_once-clause-keeps : goal.returns-then-pull_once-clause-keeps
returns-then-pull_once-clause-keeps g c =
    let feed = g.I.Inlet.state c.args.inlet.now in
    let buffer = c.args.buffer.now in
    keeps-pulled (g.R.Router.offers c.args.router.now) (g.R.Router.dests c.args.router.now) c.args.spec.now (source feed c.args.reader.now buffer) (source feed c.read_whole.new.reader buffer)
    (source (g.I.Inlet.state c.pull_once.new.inlet) c.pull_once.new.reader c.pull_once.new.buffer) c.pull_once.result c.in_ok-read_whole.ensures.keeps c.pull_once.ensures

pub returns-then-pull_once-clause-finds : goal.returns-then-pull_once-clause-finds
returns-then-pull_once-clause-finds g c =
    let feed = g.I.Inlet.state c.args.inlet.now in
    let feed' = g.I.Inlet.state c.pull_once.new.inlet in
    let buffer = c.args.buffer.now in
    let buffer' = c.pull_once.new.buffer in
    let r = c.read_whole.new.reader in
    let r' = c.pull_once.new.reader in
    let pulls = c.pull_once.ensures (g.R.Router.dests c.args.router.now) c.args.spec.now c.in_ok-read_whole.ensures.keeps.ready in (
      pulled-as feed feed' c.args.reader.now r r' r' buffer buffer buffer' buffer' c.in_ok-read_whole.ensures.before (before-same r') ∙ pulls.brought ∙ ap not c.if-pull_once.true,
      pulls.idles ∙ c.if-pull_once.true,
      pulls.rests.held ∙ (spent-of r c.args.most (sym c.is_spent.ensures ∙ c.if-not-is_spent.false) c.requires.some c.in_ok-read_whole.ensures.reads.0 c.in_ok-read_whole.ensures.reads.1).held,
    )

pub read_whole-requires-2-clause-ready : goal.read_whole-requires-2-clause-ready
read_whole-requires-2-clause-ready g c =
    let pulls = c.pull_once.ensures (g.R.Router.dests c.args.router.now) c.args.spec.now c.in_ok-read_whole.ensures.keeps.ready in
    subst (λ d. IsReady d c.args.spec.now (source (g.I.Inlet.state c.pull_once.new.inlet) c.pull_once.new.reader c.pull_once.new.buffer)) (sym c.in_ok-read_whole.ensures.router.dests_same) pulls.rests.ready

pub returns-in_err-read_whole-2-clause-keeps : goal.returns-in_err-read_whole-2-clause-keeps
returns-in_err-read_whole-2-clause-keeps g c =
    let feed = g.I.Inlet.state c.args.inlet.now in
    let feed' = g.I.Inlet.state c.pull_once.new.inlet in
    let router = c.in_ok-read_whole.ensures.router in
    keeps-rest (g.R.Router.offers c.args.router.now) (g.R.Router.offers c.read_whole.new.router) (g.R.Router.dests c.args.router.now) (g.R.Router.dests c.read_whole.new.router) c.args.spec.now
    (source feed c.args.reader.now c.args.buffer.now) (source feed c.read_whole.new.reader c.args.buffer.now) (source feed' c.pull_once.new.reader c.pull_once.new.buffer) (source feed' c.read_whole-2.new.reader c.pull_once.new.buffer)
    c.pull_once.result c.in_ok-read_whole.ensures.keeps c.pull_once.ensures router.same router.dests_same c.in_err-read_whole-2.ensures.keeps

pub returns-clause-keeps : goal.returns-clause-keeps
returns-clause-keeps g c =
    let feed = g.I.Inlet.state c.args.inlet.now in
    let feed' = g.I.Inlet.state c.pull_once.new.inlet in
    let router = c.in_ok-read_whole.ensures.router in
    keeps-rest (g.R.Router.offers c.args.router.now) (g.R.Router.offers c.read_whole.new.router) (g.R.Router.dests c.args.router.now) (g.R.Router.dests c.read_whole.new.router) c.args.spec.now
    (source feed c.args.reader.now c.args.buffer.now) (source feed c.read_whole.new.reader c.args.buffer.now) (source feed' c.pull_once.new.reader c.pull_once.new.buffer) (source feed' c.read_whole-2.new.reader c.pull_once.new.buffer)
    c.pull_once.result c.in_ok-read_whole.ensures.keeps c.pull_once.ensures router.same router.dests_same c.in_ok-read_whole-2.ensures.keeps

pub returns-clause-finds : goal.returns-clause-finds
returns-clause-finds g c =
    let feed = g.I.Inlet.state c.args.inlet.now in
    let feed' = g.I.Inlet.state c.pull_once.new.inlet in
    let buffer = c.args.buffer.now in
    let buffer' = c.pull_once.new.buffer in
    let r = c.read_whole.new.reader in
    let r' = c.pull_once.new.reader in
    let r'' = c.read_whole-2.new.reader in
    let pulls = c.pull_once.ensures (g.R.Router.dests c.args.router.now) c.args.spec.now c.in_ok-read_whole.ensures.keeps.ready in (
      pulled-as feed feed' c.args.reader.now r r' r'' buffer buffer buffer' buffer' c.in_ok-read_whole.ensures.before c.in_ok-read_whole-2.ensures.before ∙ pulls.brought ∙ ap not c.if-pull_once.false,
      pulls.idles ∙ c.if-pull_once.false,
      λ e. absurd (let differ : true ≡ false = e in cc),
    )

pub returns-then-pull_once-clause-few : goal.returns-then-pull_once-clause-few
returns-then-pull_once-clause-few g c =
    let pulls = c.pull_once.ensures (g.R.Router.dests c.args.router.now) c.args.spec.now c.in_ok-read_whole.ensures.keeps.ready in
    let same : length c.pull_once.new.reader.held ≡ length c.read_whole.new.reader.held = ap length pulls.rests.held in
    omega (arith, c.in_ok-read_whole.ensures.few)

pub returns-in_err-read_whole-2-clause-few : goal.returns-in_err-read_whole-2-clause-few
returns-in_err-read_whole-2-clause-few g c =
    let pulls = c.pull_once.ensures (g.R.Router.dests c.args.router.now) c.args.spec.now c.in_ok-read_whole.ensures.keeps.ready in
    let same : length c.pull_once.new.reader.held ≡ length c.read_whole.new.reader.held = ap length pulls.rests.held in
    omega (arith, c.in_ok-read_whole.ensures.few, c.in_err-read_whole-2.ensures.few)

pub returns-clause-few : goal.returns-clause-few
returns-clause-few g c =
    let pulls = c.pull_once.ensures (g.R.Router.dests c.args.router.now) c.args.spec.now c.in_ok-read_whole.ensures.keeps.ready in
    let same : length c.pull_once.new.reader.held ≡ length c.read_whole.new.reader.held = ap length pulls.rests.held in
    omega (arith, c.in_ok-read_whole.ensures.few, c.in_ok-read_whole-2.ensures.few)

pub returns-in_err-read_whole-clause-pulled : goal.returns-in_err-read_whole-clause-pulled
returns-in_err-read_whole-clause-pulled g c =
    let faults = (g.I.Inlet.state c.args.inlet.now).faults in
    record {
      pulls = omega arith;
      ended = λ was. c.in_err-read_whole.ensures.before.ended ∙ was;
      failing = fails-same c.args.reader.now.failed c.read_whole.new.reader.failed faults faults c.in_err-read_whole.ensures.before.failed;
    }

pub returns-then-not-is_spent-clause-pulled : goal.returns-then-not-is_spent-clause-pulled
returns-then-not-is_spent-clause-pulled g c =
    let faults = (g.I.Inlet.state c.args.inlet.now).faults in
    record {
      pulls = omega arith;
      ended = λ was. c.in_ok-read_whole.ensures.before.ended ∙ was;
      failing = fails-same c.args.reader.now.failed c.read_whole.new.reader.failed faults faults c.in_ok-read_whole.ensures.before.failed;
    }

pub returns-then-is_over-clause-pulled : goal.returns-then-is_over-clause-pulled
returns-then-is_over-clause-pulled g c =
    let faults = (g.I.Inlet.state c.args.inlet.now).faults in
    record {
      pulls = omega arith;
      ended = λ was. c.in_ok-read_whole.ensures.before.ended ∙ was;
      failing = fails-same c.args.reader.now.failed c.read_whole.new.reader.failed faults faults c.in_ok-read_whole.ensures.before.failed;
    }

pub returns-then-pull_once-clause-pulled : goal.returns-then-pull_once-clause-pulled
returns-then-pull_once-clause-pulled g c =
    let faults = (g.I.Inlet.state c.args.inlet.now).faults in
    let faults' = (g.I.Inlet.state c.pull_once.new.inlet).faults in
    let pulls = c.pull_once.ensures (g.R.Router.dests c.args.router.now) c.args.spec.now c.in_ok-read_whole.ensures.keeps.ready in
    record {
      pulls = pulls.pulls;
      ended = ended-not c.args.reader.now c.read_whole.new.reader c.pull_once.new.reader c.in_ok-read_whole.ensures.before (sym c.is_over.ensures ∙ c.if-is_over.false);
      failing = fails-within c.args.reader.now.failed c.read_whole.new.reader.failed c.pull_once.new.reader.failed c.pull_once.new.reader.failed faults faults' faults' c.in_ok-read_whole.ensures.before.failed pulls.failing refl (omega arith);
    }

pub returns-in_err-read_whole-2-clause-pulled : goal.returns-in_err-read_whole-2-clause-pulled
returns-in_err-read_whole-2-clause-pulled g c =
    let faults = (g.I.Inlet.state c.args.inlet.now).faults in
    let faults' = (g.I.Inlet.state c.pull_once.new.inlet).faults in
    let pulls = c.pull_once.ensures (g.R.Router.dests c.args.router.now) c.args.spec.now c.in_ok-read_whole.ensures.keeps.ready in
    record {
      pulls = pulls.pulls;
      ended = ended-not c.args.reader.now c.read_whole.new.reader c.read_whole-2.new.reader c.in_ok-read_whole.ensures.before (sym c.is_over.ensures ∙ c.if-is_over.false);
      failing = fails-within c.args.reader.now.failed c.read_whole.new.reader.failed c.pull_once.new.reader.failed c.read_whole-2.new.reader.failed faults faults' faults' c.in_ok-read_whole.ensures.before.failed pulls.failing c.in_err-read_whole-2.ensures.before.failed (omega arith);
    }

pub returns-clause-pulled : goal.returns-clause-pulled
returns-clause-pulled g c =
    let faults = (g.I.Inlet.state c.args.inlet.now).faults in
    let faults' = (g.I.Inlet.state c.pull_once.new.inlet).faults in
    let pulls = c.pull_once.ensures (g.R.Router.dests c.args.router.now) c.args.spec.now c.in_ok-read_whole.ensures.keeps.ready in
    record {
      pulls = pulls.pulls;
      ended = ended-not c.args.reader.now c.read_whole.new.reader c.read_whole-2.new.reader c.in_ok-read_whole.ensures.before (sym c.is_over.ensures ∙ c.if-is_over.false);
      failing = fails-within c.args.reader.now.failed c.read_whole.new.reader.failed c.pull_once.new.reader.failed c.read_whole-2.new.reader.failed faults faults' faults' c.in_ok-read_whole.ensures.before.failed pulls.failing c.in_ok-read_whole-2.ensures.before.failed (omega arith);
    }
