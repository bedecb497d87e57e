use Rattle.std.proofs.Common.{arith, [], ◌≡◌, ◌<◌, length, subst, refl, ◌∙◌}
use Rattle.sg_counter.specs.Exchanges.{OfSource}
use Rattle.sg_turns.specs.Actors.{SourceTakes}
use Rattle.sg_turns.specs.Rounds.{TookFirst}
use Rattle.sg_turns.proofs.ActorLemmas.{source-there, source-step, sources-again}
use Rattle.sg_turns.proofs.PartLemmas.{no-turn, took-none}
use Rattle.sg_turns.proofs.round.take_sources.Goals as goal

pub loop-i-init : goal.loop-i-init
loop-i-init g c = record {
  took = ([], ((λ j. no-turn), took-none (SourceTakes g.I.Inlet.state g.R.Router.offers g.R.Router.inlets g.R.Router.dests) OfSource g.C.Counter.step c.args.counter.now c.args.sources.now.items));
  setup = refl;
  left = omega arith;
}

pub turn-turn-requires-clause-fits : goal.turn-turn-requires-clause-fits
turn-turn-requires-clause-fits g c =
    let all = c.loop-i.invariant.took.1.1.all in
    let below : c.loop-i.i < length c.loop-i.sources.items = omega (arith, all) in
    (source-there g.I.Inlet.state g.R.Router.offers g.R.Router.inlets g.R.Router.dests (g.C.Counter.setup c.args.counter.now) (g.C.Counter.setup c.loop-i.counter) g.C.Counter.step c.args.counter.now c.loop-i.counter
    c.args.sources.now.items c.loop-i.sources.items c.loop-i.i c.loop-i.round c.index_mut.result.now c.loop-i.invariant.setup c.requires.fits below c.index_mut.ensures.value c.loop-i.invariant.took).fits

pub turn-turn-requires-clause-ready : goal.turn-turn-requires-clause-ready
turn-turn-requires-clause-ready g c =
    let all = c.loop-i.invariant.took.1.1.all in
    let below : c.loop-i.i < length c.loop-i.sources.items = omega (arith, all) in
    (source-there g.I.Inlet.state g.R.Router.offers g.R.Router.inlets g.R.Router.dests (g.C.Counter.setup c.args.counter.now) (g.C.Counter.setup c.loop-i.counter) g.C.Counter.step c.args.counter.now c.loop-i.counter
    c.args.sources.now.items c.loop-i.sources.items c.loop-i.i c.loop-i.round c.index_mut.result.now c.loop-i.invariant.setup c.requires.fits below c.index_mut.ensures.value c.loop-i.invariant.took).ready

pub loop-i-preserved : goal.loop-i-preserved
loop-i-preserved g c =
    let all = c.loop-i.invariant.took.1.1.all in
    let below : c.loop-i.i < length c.loop-i.sources.items = omega (arith, all) in
    let was = source-there g.I.Inlet.state g.R.Router.offers g.R.Router.inlets g.R.Router.dests (g.C.Counter.setup c.args.counter.now) (g.C.Counter.setup c.loop-i.counter) g.C.Counter.step c.args.counter.now c.loop-i.counter
    c.args.sources.now.items c.loop-i.sources.items c.loop-i.i c.loop-i.round c.index_mut.result.now c.loop-i.invariant.setup c.requires.fits below c.index_mut.ensures.value c.loop-i.invariant.took in
    record {
      took = source-step g.I.Inlet.state g.R.Router.offers g.R.Router.inlets g.R.Router.dests g.C.Counter.step c.args.counter.now c.loop-i.counter c.turn-turn.new.counter
          c.args.sources.now.items c.loop-i.sources.items c.loop-i.i c.loop-i.round c.note-round.result c.index_mut.result.now c.turn-turn.new.self c.turn-turn.result
          was.number below c.index_mut.ensures.value c.turn-turn.ensures.turn c.turn-turn.ensures.router c.turn-turn.ensures.spec c.note-round.ensures c.loop-i.invariant.took;
      setup = c.turn-turn.ensures.setup ∙ c.loop-i.invariant.setup;
      left = omega (arith, c.loop-i.invariant.left, c.turn-turn.ensures.left);
    }

pub returns-clause-fits : goal.returns-clause-fits
returns-clause-fits g c =
    let h = c.loop-i.invariant.took in
    let is : c.loop-i.i ≡ length c.args.sources.now.items = omega arith in
    sources-again g.I.Inlet.state g.R.Router.offers g.R.Router.inlets g.R.Router.dests (g.C.Counter.setup c.args.counter.now) (g.C.Counter.setup c.loop-i.counter) g.C.Counter.step c.args.counter.now c.loop-i.counter
    c.args.sources.now.items c.loop-i.sources.items c.loop-i.round h.0 h.1.0 c.loop-i.invariant.setup c.requires.fits
    (subst (λ n. TookFirst (SourceTakes g.I.Inlet.state g.R.Router.offers g.R.Router.inlets g.R.Router.dests) OfSource g.C.Counter.step c.args.counter.now c.loop-i.counter c.args.sources.now.items c.loop-i.sources.items n c.loop-i.round h.0 h.1.0) is h.1.1)
