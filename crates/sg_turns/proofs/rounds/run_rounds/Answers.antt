use Rattle.std.proofs.Common.{arith, [], ◌+◌, ◌++◌, refl, ◌∙◌}
use Rattle.sg_turns.specs.Actors.{SourceTakes, DestTakes, SourceTook, DestTook}
use Rattle.sg_turns.proofs.ActorLemmas.{source-none, source-more, dest-none, dest-more}
use Rattle.sg_turns.proofs.RoundLemmas.{busy-is, calm-is, more, took-nothing, runs-round, ends-quietly, runs-out, spends-rounds}
use Rattle.sg_turns.proofs.rounds.run_rounds.Goals as goal

pub loop-round-init : goal.loop-round-init
loop-round-init g c =
    let state = g.I.Inlet.state in
    let offers = g.R.Router.offers in
    let inlets = g.R.Router.inlets in
    let dests = g.R.Router.dests in
    record {
      runs = (
        [],
        (
          (λ who. []),
          took-nothing (SourceTook state offers inlets dests) (DestTook g.O.Outlet.state) g.C.Counter.step c.args.counter.now c.args.sources.now.items c.args.dests.now.items
              (source-none state offers inlets dests) (dest-none g.O.Outlet.state),
        ),
      );
      sources = c.requires.sources;
      dests = c.requires.dests;
      setup = refl;
      left = omega arith;
    }

pub take_round-round-requires-clause-sources : goal.take_round-round-requires-clause-sources
take_round-round-requires-clause-sources g c = c.loop-round.invariant.sources

pub take_round-round-requires-clause-dests : goal.take_round-round-requires-clause-dests
take_round-round-requires-clause-dests g c = c.loop-round.invariant.dests

pub take_round-round-requires-clause-left : goal.take_round-round-requires-clause-left
take_round-round-requires-clause-left g c =
    let took = c.loop-round.invariant.runs.1.1.took in
    let sources = took.all_sources in
    let dests = took.all_dests in
    omega (arith, sources, dests, c.loop-round.invariant.left, c.requires.left, c.requires.few.0, c.requires.few.1)

pub loop-round-preserved : goal.loop-round-preserved
loop-round-preserved g c =
    let state = g.I.Inlet.state in
    let offers = g.R.Router.offers in
    let inlets = g.R.Router.inlets in
    let dests = g.R.Router.dests in
    let h = c.loop-round.invariant.runs in
    let k = c.take_round-round.ensures.took in
    let all_sources = h.1.1.took.all_sources in
    let all_dests = h.1.1.took.all_dests in
    record {
      runs = (
        h.0 ++ k.0,
        (
          more h.1.0 k.1.0,
          runs-round (SourceTook state offers inlets dests) (DestTook g.O.Outlet.state) (SourceTakes state offers inlets dests) (DestTakes g.O.Outlet.state) g.C.Counter.step
              c.args.counter.now c.loop-round.counter c.take_round-round.new.counter c.args.sources.now.items c.loop-round.sources.items c.take_round-round.new.sources.items
              c.args.dests.now.items c.loop-round.dests.items c.take_round-round.new.dests.items c.take_round-round.result h.0 k.0 h.1.0 k.1.0 c.loop-round._round
              (source-more state offers inlets dests) (dest-more g.O.Outlet.state) h.1.1 k.1.1 (busy-is c.take_round-round.result.busy c.if-not-round.false) c.if-round.false,
        ),
      );
      sources = c.take_round-round.ensures.sources;
      dests = c.take_round-round.ensures.dests;
      setup = c.take_round-round.ensures.setup ∙ c.loop-round.invariant.setup;
      left = omega (arith, all_sources, all_dests, c.loop-round.invariant.left, c.take_round-round.ensures.left, c.requires.few.0, c.requires.few.1);
    }

pub returns-then-round-clause-serves : goal.returns-then-round-clause-serves
returns-then-round-clause-serves g c =
    let state = g.I.Inlet.state in
    let offers = g.R.Router.offers in
    let inlets = g.R.Router.inlets in
    let dests = g.R.Router.dests in
    let h = c.loop-round.invariant.runs in
    let k = c.take_round-round.ensures.took in (
      h.0 ++ k.0,
      (
        more h.1.0 k.1.0,
        (
          c.loop-round._round + 1,
          runs-out (SourceTook state offers inlets dests) (DestTook g.O.Outlet.state) (SourceTakes state offers inlets dests) (DestTakes g.O.Outlet.state) g.C.Counter.step
              c.args.counter.now c.loop-round.counter c.take_round-round.new.counter c.args.sources.now.items c.loop-round.sources.items c.take_round-round.new.sources.items
              c.args.dests.now.items c.loop-round.dests.items c.take_round-round.new.dests.items c.take_round-round.result h.0 k.0 h.1.0 k.1.0 c.loop-round._round c.args.rounds
              (source-more state offers inlets dests) (dest-more g.O.Outlet.state) h.1.1 k.1.1 c.if-round.true (omega arith),
        ),
      ),
    )

pub returns-then-round-clause-setup : goal.returns-then-round-clause-setup
returns-then-round-clause-setup g c = c.take_round-round.ensures.setup ∙ c.loop-round.invariant.setup

pub returns-then-not-round-clause-serves : goal.returns-then-not-round-clause-serves
returns-then-not-round-clause-serves g c =
    let state = g.I.Inlet.state in
    let offers = g.R.Router.offers in
    let inlets = g.R.Router.inlets in
    let dests = g.R.Router.dests in
    let h = c.loop-round.invariant.runs in
    let k = c.take_round-round.ensures.took in (
      h.0 ++ k.0,
      (
        more h.1.0 k.1.0,
        (
          c.loop-round._round + 1,
          ends-quietly (SourceTook state offers inlets dests) (DestTook g.O.Outlet.state) (SourceTakes state offers inlets dests) (DestTakes g.O.Outlet.state) g.C.Counter.step
              c.args.counter.now c.loop-round.counter c.take_round-round.new.counter c.args.sources.now.items c.loop-round.sources.items c.take_round-round.new.sources.items
              c.args.dests.now.items c.loop-round.dests.items c.take_round-round.new.dests.items c.take_round-round.result h.0 k.0 h.1.0 k.1.0 c.loop-round._round c.args.rounds
              (source-more state offers inlets dests) (dest-more g.O.Outlet.state) h.1.1 k.1.1 (calm-is c.take_round-round.result.busy c.if-not-round.true) c.if-round.false (omega arith),
        ),
      ),
    )

pub returns-then-not-round-clause-setup : goal.returns-then-not-round-clause-setup
returns-then-not-round-clause-setup g c = c.take_round-round.ensures.setup ∙ c.loop-round.invariant.setup

pub returns-clause-serves : goal.returns-clause-serves
returns-clause-serves g c =
    let state = g.I.Inlet.state in
    let offers = g.R.Router.offers in
    let inlets = g.R.Router.inlets in
    let dests = g.R.Router.dests in
    let h = c.loop-round.invariant.runs in (
      h.0,
      (
        h.1.0,
        (
          c.loop-round._round,
          spends-rounds (SourceTook state offers inlets dests) (DestTook g.O.Outlet.state) g.C.Counter.step c.args.counter.now c.loop-round.counter
              c.args.sources.now.items c.loop-round.sources.items c.args.dests.now.items c.loop-round.dests.items h.0 h.1.0 c.loop-round._round c.args.rounds h.1.1 (omega arith) c.requires.some,
        ),
      ),
    )

pub returns-clause-sources : goal.returns-clause-sources
returns-clause-sources g c = c.loop-round.invariant.sources

pub returns-clause-dests : goal.returns-clause-dests
returns-clause-dests g c = c.loop-round.invariant.dests

pub returns-clause-setup : goal.returns-clause-setup
returns-clause-setup g c = c.loop-round.invariant.setup
