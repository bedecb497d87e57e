use Rattle.std.proofs.Common.{arith, [], ◌≡◌, ◌<◌, length, subst, refl, ap, ◌∙◌}
use Rattle.sg_machine.specs.declared.setup.Setup.{Setup}
use Rattle.sg_counter.specs.Exchanges.{OfDest}
use Rattle.sg_turns.specs.Actors.{DestTakes}
use Rattle.sg_turns.specs.Rounds.{TookFirst}
use Rattle.sg_turns.proofs.ActorLemmas.{dest-there, dest-step, dests-again}
use Rattle.sg_turns.proofs.PartLemmas.{no-turn, took-none}
use Rattle.sg_turns.proofs.round.take_dests.Goals as goal

pub loop-d-init : goal.loop-d-init
loop-d-init g c = record {
  took = ([], ((λ j. no-turn), took-none (DestTakes g.O.Outlet.state) OfDest g.C.Counter.step c.args.counter.now c.args.dests.now.items));
  setup = refl;
  left = omega arith;
}

pub turn-turn-requires-clause-dest : goal.turn-turn-requires-clause-dest
turn-turn-requires-clause-dest g c =
    let all = c.loop-d.invariant.took.1.1.all in
    let below : c.loop-d.d < length c.loop-d.dests.items = omega (arith, all) in
    let was = dest-there g.O.Outlet.state (g.C.Counter.setup c.args.counter.now) g.C.Counter.step c.args.counter.now c.loop-d.counter
    c.args.dests.now.items c.loop-d.dests.items c.loop-d.d c.loop-d.round c.index_mut.result.now c.requires.fits below c.index_mut.ensures.value c.loop-d.invariant.took in
    let number = was.number in
    let count = c.requires.fits.all in
    let same : length (g.C.Counter.setup c.loop-d.counter).dests ≡ length (g.C.Counter.setup c.args.counter.now).dests = ap (λ (s : Setup). length s.dests) c.loop-d.invariant.setup in
    omega (arith, all, below, number, count, same)

pub turn-turn-requires-clause-failures : goal.turn-turn-requires-clause-failures
turn-turn-requires-clause-failures g c =
    let all = c.loop-d.invariant.took.1.1.all in
    let below : c.loop-d.d < length c.loop-d.dests.items = omega (arith, all) in
    (dest-there g.O.Outlet.state (g.C.Counter.setup c.args.counter.now) g.C.Counter.step c.args.counter.now c.loop-d.counter
    c.args.dests.now.items c.loop-d.dests.items c.loop-d.d c.loop-d.round c.index_mut.result.now c.requires.fits below c.index_mut.ensures.value c.loop-d.invariant.took).failures

pub loop-d-preserved : goal.loop-d-preserved
loop-d-preserved g c =
    let all = c.loop-d.invariant.took.1.1.all in
    let below : c.loop-d.d < length c.loop-d.dests.items = omega (arith, all) in
    let was = dest-there g.O.Outlet.state (g.C.Counter.setup c.args.counter.now) g.C.Counter.step c.args.counter.now c.loop-d.counter
    c.args.dests.now.items c.loop-d.dests.items c.loop-d.d c.loop-d.round c.index_mut.result.now c.requires.fits below c.index_mut.ensures.value c.loop-d.invariant.took in
    record {
      took = dest-step g.O.Outlet.state g.C.Counter.step c.args.counter.now c.loop-d.counter c.turn-turn.new.counter
          c.args.dests.now.items c.loop-d.dests.items c.loop-d.d c.loop-d.round c.note-round.result c.index_mut.result.now c.turn-turn.new.self c.turn-turn.result
          was.number below c.index_mut.ensures.value c.turn-turn.ensures.turn c.turn-turn.ensures.spec c.note-round.ensures c.loop-d.invariant.took;
      setup = c.turn-turn.ensures.setup ∙ c.loop-d.invariant.setup;
      left = omega (arith, c.loop-d.invariant.left, c.turn-turn.ensures.left);
    }

pub returns-clause-fits : goal.returns-clause-fits
returns-clause-fits g c =
    let h = c.loop-d.invariant.took in
    let is : c.loop-d.d ≡ length c.args.dests.now.items = omega arith in
    dests-again g.O.Outlet.state (g.C.Counter.setup c.args.counter.now) (g.C.Counter.setup c.loop-d.counter) g.C.Counter.step c.args.counter.now c.loop-d.counter
    c.args.dests.now.items c.loop-d.dests.items c.loop-d.round h.0 h.1.0 c.loop-d.invariant.setup c.requires.fits
    (subst (λ n. TookFirst (DestTakes g.O.Outlet.state) OfDest g.C.Counter.step c.args.counter.now c.loop-d.counter c.args.dests.now.items c.loop-d.dests.items n c.loop-d.round h.0 h.1.0) is h.1.1)
