use Rattle.std.proofs.Common.{◌++◌, sym, subst}
use Rattle.sg_turns.specs.Actors.{SourceTakes, DestTakes}
use Rattle.sg_turns.specs.Rounds.{TookRound}
use Rattle.sg_turns.proofs.RoundLemmas.{turn-of, round-of}
use Rattle.sg_turns.proofs.round.take_round.Goals as goal

pub returns-clause-took : goal.returns-clause-took
returns-clause-took g c =
    let h = c.take_sources-read.ensures.took in
    let k = c.take_dests-sent.ensures.took in
    subst (λ r. TookRound (SourceTakes g.I.Inlet.state g.R.Router.offers g.R.Router.inlets g.R.Router.dests) (DestTakes g.O.Outlet.state) g.C.Counter.step c.args.counter.now c.take_dests-sent.new.counter
    c.args.sources.now.items c.take_sources-read.new.sources.items c.args.dests.now.items c.take_dests-sent.new.dests.items r) (sym c.join.ensures) (
      h.0 ++ k.0,
      (
        turn-of h.1.0 k.1.0,
        round-of (SourceTakes g.I.Inlet.state g.R.Router.offers g.R.Router.inlets g.R.Router.dests) (DestTakes g.O.Outlet.state) g.C.Counter.step
            c.args.counter.now c.take_sources-read.new.counter c.take_dests-sent.new.counter c.args.sources.now.items c.take_sources-read.new.sources.items c.args.dests.now.items c.take_dests-sent.new.dests.items
            c.take_sources-read.result c.take_dests-sent.result h.0 k.0 h.1.0 k.1.0 h.1.1 k.1.1,
      ),
    )
