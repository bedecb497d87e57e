use Rattle.std.proofs.Common.{arith, ◌≡◌, ◌+◌, ◌-◌, length, refl, sym, ap, ◌∙◌, subst}
use Rattle.sg_booth.specs.Desks.{IsDeskOf, ArePlacesOrdered, places}
use Rattle.sg_turns.specs.Actors.{SourceTakes, DestTakes, SourceTook, DestTook}
use Rattle.sg_turns.proofs.ActorLemmas.{source-none, source-more, dest-none, dest-more}
use Rattle.sg_hub.specs.Seats.{SeatState}
use Rattle.sg_crew.specs.Workers.{actors_of}
use Rattle.sg_crew.proofs.RunLemmas.{HasRun, run-none, run-more, run-quiet, run-out, run-spent}
use Rattle.sg_crew.proofs.rounds.run_rounds.Goals as goal

pub loop-left-init : goal.loop-left-init
loop-left-init g c =
    let state = g.I.Inlet.state in
    let offers = g.R.Router.offers in
    let inlets = g.R.Router.inlets in
    let dests = g.R.Router.dests in
    let is = c.requires.first in
    let source = SourceTook state offers inlets dests in
    let dest = DestTook g.O.Outlet.state in
    let as' = actors_of c.args.sources.now.items in
    let bs = actors_of c.args.dests.now.items in
    let zero : 0 ≡ c.args.rounds - c.args.rounds = omega arith in
    record {
      hub = refl;
      first = subst (IsDeskOf c.args.hub.now) (sym is) (refl, refl);
      ordered = subst ArePlacesOrdered (sym is) (omega arith, tt);
      sum = subst (λ (s : SeatState). length (places s) + s.left ≡ c.args.hub.now.turns) (sym is) (omega arith);
      few = omega arith;
      left = (let left = ap (λ (s : SeatState). s.left) is in omega (arith, left));
      sources = c.requires.sources;
      dests = c.requires.dests;
      all_sources = refl;
      all_dests = refl;
      world = refl;
      run = subst (λ n. HasRun source dest c.args.first.now as' as' bs bs n c.args.rounds) zero
          (run-none source dest (SourceTakes state offers inlets dests) (DestTakes g.O.Outlet.state)
          (source-none state offers inlets dests) (dest-none g.O.Outlet.state) (source-more state offers inlets dests) (dest-more g.O.Outlet.state)
          c.args.first.now as' bs c.args.rounds (ap (λ (s : SeatState). s.seen) is));
    }

pub take_phase-phase-requires-clause-few : goal.take_phase-phase-requires-clause-few
take_phase-phase-requires-clause-few g c = λ κs lives.
    let sources = c.loop-left.invariant.all_sources in
    let dests = c.loop-left.invariant.all_dests in
    (omega (arith, sources, c.requires.few.0), omega (arith, dests, c.requires.few.1))

pub take_phase-phase-requires-clause-seat : goal.take_phase-phase-requires-clause-seat
take_phase-phase-requires-clause-seat g c = λ κs lives.
    let i = c.loop-left.invariant in
    let same = ap (λ h. h.turns) i.hub in
    let left = i.left in
    let few = i.few in
    (i.ordered, omega (arith, same, left, few, c.requires.turns, c.loop-left-test.true))

pub loop-left-preserved : goal.loop-left-preserved
loop-left-preserved g c =
    let state = g.I.Inlet.state in
    let offers = g.R.Router.offers in
    let inlets = g.R.Router.inlets in
    let dests = g.R.Router.dests in
    let i = c.loop-left.invariant in
    let e = c.take_phase-phase.ensures in
    let most = c.rounds_of-most.ensures in
    let n = c.take_phase-phase.result.rounds in
    let within = e.phase.few in
    let least = e.phase.some in
    let few = i.few in
    let below = most.left in
    let left = i.left in
    let more = e.first.left in
    let left' = c.loop-left.left - n in
    let number : (c.args.rounds - c.loop-left.left) + n ≡ c.args.rounds - left' = omega (arith, few, below, within) in
    let taken : left' + n ≡ c.loop-left.left = omega (arith, below, within) in
    let source = SourceTook state offers inlets dests in
    let dest = DestTook g.O.Outlet.state in
    record {
      hub = i.hub;
      first = e.first.of_hub;
      ordered = e.first.ordered;
      sum = e.first.sum ∙ i.sum;
      few = omega (arith, few);
      left = omega (arith, left, more, within, least, below);
      sources = e.crew.sources;
      dests = e.crew.dests;
      all_sources = e.crew.all_sources ∙ i.all_sources;
      all_dests = e.crew.all_dests ∙ i.all_dests;
      world = c.look_if_due.ensures ∙ i.world;
      run = subst (λ k. HasRun source dest c.take_phase-phase.new.first (actors_of c.args.sources.now.items) (actors_of c.take_phase-phase.new.sources.items)
          (actors_of c.args.dests.now.items) (actors_of c.take_phase-phase.new.dests.items) k left') number
          (run-more source dest (SourceTakes state offers inlets dests) (DestTakes g.O.Outlet.state)
          (source-none state offers inlets dests) (dest-none g.O.Outlet.state) (source-more state offers inlets dests) (dest-more g.O.Outlet.state)
          c.loop-left.first c.take_phase-phase.new.first (actors_of c.args.sources.now.items) (actors_of c.loop-left.sources.items) (actors_of c.take_phase-phase.new.sources.items)
          (actors_of c.args.dests.now.items) (actors_of c.loop-left.dests.items) (actors_of c.take_phase-phase.new.dests.items)
          n c.take_phase-phase.result.busy c.take_phase-phase.result.starved (c.args.rounds - c.loop-left.left) c.loop-left.left left' c.args.rounds c.rounds_of-most.result
          i.run e.took e.phase c.if-phase.false c.if-phase-eq0.false taken most.last);
    }

pub returns-then-phase-clause-served : goal.returns-then-phase-clause-served
returns-then-phase-clause-served g c =
    let state = g.I.Inlet.state in
    let offers = g.R.Router.offers in
    let inlets = g.R.Router.inlets in
    let dests = g.R.Router.dests in
    let i = c.loop-left.invariant in
    let e = c.take_phase-phase.ensures in
    let few = i.few in
    run-out (SourceTook state offers inlets dests) (DestTook g.O.Outlet.state) (SourceTakes state offers inlets dests) (DestTakes g.O.Outlet.state)
    (source-none state offers inlets dests) (dest-none g.O.Outlet.state) (source-more state offers inlets dests) (dest-more g.O.Outlet.state)
    c.loop-left.first c.take_phase-phase.new.first (actors_of c.args.sources.now.items) (actors_of c.loop-left.sources.items) (actors_of c.take_phase-phase.new.sources.items)
    (actors_of c.args.dests.now.items) (actors_of c.loop-left.dests.items) (actors_of c.take_phase-phase.new.dests.items)
    c.take_phase-phase.result.rounds c.take_phase-phase.result.busy c.take_phase-phase.result.starved (c.args.rounds - c.loop-left.left) c.loop-left.left 0 c.args.rounds c.rounds_of-most.result
    i.run e.took e.phase c.if-phase.true (omega (arith, few)) c.rounds_of-most.ensures.left

pub returns-then-phase-eq0-clause-served : goal.returns-then-phase-eq0-clause-served
returns-then-phase-eq0-clause-served g c =
    let state = g.I.Inlet.state in
    let offers = g.R.Router.offers in
    let inlets = g.R.Router.inlets in
    let dests = g.R.Router.dests in
    let i = c.loop-left.invariant in
    let e = c.take_phase-phase.ensures in
    let few = i.few in
    run-quiet (SourceTook state offers inlets dests) (DestTook g.O.Outlet.state) (SourceTakes state offers inlets dests) (DestTakes g.O.Outlet.state)
    (source-none state offers inlets dests) (dest-none g.O.Outlet.state) (source-more state offers inlets dests) (dest-more g.O.Outlet.state)
    c.loop-left.first c.take_phase-phase.new.first (actors_of c.args.sources.now.items) (actors_of c.loop-left.sources.items) (actors_of c.take_phase-phase.new.sources.items)
    (actors_of c.args.dests.now.items) (actors_of c.loop-left.dests.items) (actors_of c.take_phase-phase.new.dests.items)
    c.take_phase-phase.result.rounds c.take_phase-phase.result.busy c.take_phase-phase.result.starved (c.args.rounds - c.loop-left.left) c.loop-left.left 0 c.args.rounds c.rounds_of-most.result
    i.run e.took e.phase c.if-phase.false c.if-phase-eq0.true (omega (arith, few)) c.rounds_of-most.ensures.left

pub returns-clause-served : goal.returns-clause-served
returns-clause-served g c =
    let i = c.loop-left.invariant in
    let over = c.loop-left-test.false in
    run-spent (SourceTook g.I.Inlet.state g.R.Router.offers g.R.Router.inlets g.R.Router.dests) (DestTook g.O.Outlet.state) c.loop-left.first
    (actors_of c.args.sources.now.items) (actors_of c.loop-left.sources.items) (actors_of c.args.dests.now.items) (actors_of c.loop-left.dests.items)
    (c.args.rounds - c.loop-left.left) c.loop-left.left c.args.rounds i.run (omega (arith, over)) (omega (arith, over)) c.requires.some

pub returns-then-phase-clause-world : goal.returns-then-phase-clause-world
returns-then-phase-clause-world g c = c.look_if_due.ensures ∙ c.loop-left.invariant.world

pub returns-then-phase-eq0-clause-world : goal.returns-then-phase-eq0-clause-world
returns-then-phase-eq0-clause-world g c = c.look_if_due.ensures ∙ c.loop-left.invariant.world

pub returns-clause-world : goal.returns-clause-world
returns-clause-world g c = c.loop-left.invariant.world
