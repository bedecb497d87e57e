use Rattle.std.proofs.Common.{subst, sym, ap, arith, ◌≡◌, length}
use Rattle.sg_actor.specs.Sources.{source}
use Rattle.sg_actor.specs.Steps.{KeepsRecords}
use Rattle.sg_actor.proofs.KeepLemmas.{keeps-none, keeps-whole, rests-fed, whole-before, whole-fed, whole-few}
use Rattle.sg_actor.proofs.reading.read_whole.Goals as goal

pub returns-in_err-feed_pulled-clause-keeps : goal.returns-in_err-feed_pulled-clause-keeps
returns-in_err-feed_pulled-clause-keeps g c =
    let feed = g.I.Inlet.state c.args.inlet.now in
    let offers = g.R.Router.offers c.args.router.now in
    let dests = g.R.Router.dests c.args.router.now in
    let buffer = c.args.buffer.now in
    subst (λ r. KeepsRecords offers dests c.args.spec.now (source feed c.args.reader.now buffer) (source feed r buffer)) (sym c.in_err-feed_pulled.ensures)
    (keeps-none offers dests c.args.spec.now (source feed c.args.reader.now buffer) c.requires.ready)

pub take_items-requires-clause-ready : goal.take_items-requires-clause-ready
take_items-requires-clause-ready g c =
    let feed = g.I.Inlet.state c.args.inlet.now in
    let old = c.args.reader.now in
    (c.args.buffer.now, (rests-fed (g.R.Router.dests c.args.router.now) c.args.spec.now feed c.args.buffer.now old c.feed_pulled.new.reader old.pulled c.in_ok-feed_pulled.ensures c.requires.ready).ready)

pub returns-in_err-take_items-clause-keeps : goal.returns-in_err-take_items-clause-keeps
returns-in_err-take_items-clause-keeps g c =
    keeps-whole (g.R.Router.offers c.args.router.now) (g.R.Router.dests c.args.router.now) c.args.spec.now (g.I.Inlet.state c.args.inlet.now) c.args.buffer.now c.args.reader.now c.feed_pulled.new.reader c.take_items.new.reader
    c.in_ok-feed_pulled.ensures c.in_err-take_items.ensures.keeps c.requires.ready

pub returns-in_err-take_items-clause-before : goal.returns-in_err-take_items-clause-before
returns-in_err-take_items-clause-before g c =
    whole-before c.args.buffer.now c.args.reader.now c.feed_pulled.new.reader c.take_items.new.reader c.in_ok-feed_pulled.ensures c.in_err-take_items.ensures.taken

pub returns-clause-keeps : goal.returns-clause-keeps
returns-clause-keeps g c =
    keeps-whole (g.R.Router.offers c.args.router.now) (g.R.Router.dests c.args.router.now) c.args.spec.now (g.I.Inlet.state c.args.inlet.now) c.args.buffer.now c.args.reader.now c.feed_pulled.new.reader c.take_items.new.reader
    c.in_ok-feed_pulled.ensures c.in_ok-take_items.ensures.keeps c.requires.ready

pub returns-clause-before : goal.returns-clause-before
returns-clause-before g c =
    whole-before c.args.buffer.now c.args.reader.now c.feed_pulled.new.reader c.take_items.new.reader c.in_ok-feed_pulled.ensures c.in_ok-take_items.ensures.taken

pub returns-clause-reads : goal.returns-clause-reads
returns-clause-reads g c = (
  whole-fed c.args.buffer.now c.args.reader.now c.feed_pulled.new.reader c.take_items.new.reader c.in_ok-feed_pulled.ensures c.in_ok-take_items.ensures.taken,
  c.in_ok-take_items.ensures.takes,
)

pub returns-in_err-take_items-clause-few : goal.returns-in_err-take_items-clause-few
returns-in_err-take_items-clause-few g c =
    whole-few c.args.buffer.now c.args.reader.now c.feed_pulled.new.reader c.take_items.new.reader c.args.most c.in_ok-feed_pulled.ensures c.in_err-take_items.ensures.few

pub returns-clause-few : goal.returns-clause-few
returns-clause-few g c =
    whole-few c.args.buffer.now c.args.reader.now c.feed_pulled.new.reader c.take_items.new.reader c.args.most c.in_ok-feed_pulled.ensures c.in_ok-take_items.ensures.few

pub returns-in_err-feed_pulled-clause-few : goal.returns-in_err-feed_pulled-clause-few
returns-in_err-feed_pulled-clause-few g c = (let same : length c.feed_pulled.new.reader.held ≡ length c.args.reader.now.held = ap (λ r. length r.held) c.in_err-feed_pulled.ensures in omega arith)
