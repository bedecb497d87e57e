use Rattle.std.proofs.Common.{arith, length, refl, ap, sym, ◌∙◌, subst}
use Rattle.sg_booth.specs.Desks.{IsDeskOf}
use Rattle.sg_core.specs.Calls.{Serves as CoreServes}
use Rattle.sg_turns.specs.Actors.{AreSources, AreDests, SourceTook, DestTook}
use Rattle.sg_standing.specs.States.{setup_of}
use Rattle.sg_hub.specs.Seats.{SeatState}
use Rattle.sg_crew.specs.Workers.{actor_of, actors_of}
use Rattle.sg_crew.proofs.ListLemmas.{length-map}
use Rattle.sg_crew.proofs.RunLemmas.{setup-stays, served-is, serves-as}
use Rattle.sg_crew.proofs.run.serve_at.Goals as goal

pub seat_all-readers-requires-clause-first : goal.seat_all-readers-requires-clause-first
seat_all-readers-requires-clause-first g c = subst (IsDeskOf c.args.hub) (sym c.requires.first) (refl, refl)

pub seat_all-readers-requires-clause-left : goal.seat_all-readers-requires-clause-left
seat_all-readers-requires-clause-left g c = let left = ap (λ (s : SeatState). s.left) c.requires.first in omega (arith, left, c.requires.turns.1)

pub seat_all-senders-requires-clause-first : goal.seat_all-senders-requires-clause-first
seat_all-senders-requires-clause-first g c = subst (IsDeskOf c.args.hub) (sym (c.seat_all-readers.ensures.first ∙ c.requires.first)) (refl, refl)

pub seat_all-senders-requires-clause-left : goal.seat_all-senders-requires-clause-left
seat_all-senders-requires-clause-left g c = let left = ap (λ (s : SeatState). s.left) (c.seat_all-readers.ensures.first ∙ c.requires.first) in omega (arith, left, c.requires.turns.1)

pub run_rounds-ended-requires-clause-first : goal.run_rounds-ended-requires-clause-first
run_rounds-ended-requires-clause-first g c = λ κs lives. c.seat_all-senders.ensures.first ∙ (c.seat_all-readers.ensures.first ∙ c.requires.first)

pub run_rounds-ended-requires-clause-few : goal.run_rounds-ended-requires-clause-few
run_rounds-ended-requires-clause-few g c = λ κs lives.
    let sources = length-map actor_of c.seat_all-readers.result.items in
    let readers = ap length c.seat_all-readers.ensures.actors in
    let dests = length-map actor_of c.seat_all-senders.result.items in
    let senders = ap length c.seat_all-senders.ensures.actors in
    (omega (arith, sources, readers, c.requires.few.0), omega (arith, dests, senders, c.requires.few.1))

pub run_rounds-ended-requires-clause-sources : goal.run_rounds-ended-requires-clause-sources
run_rounds-ended-requires-clause-sources g c = λ κs lives.
    subst (AreSources g.I.Inlet.state g.R.Router.inlets g.R.Router.dests (setup_of c.args.hub.made)) (sym c.seat_all-readers.ensures.actors) c.requires.sources

pub run_rounds-ended-requires-clause-dests : goal.run_rounds-ended-requires-clause-dests
run_rounds-ended-requires-clause-dests g c = λ κs lives. subst (AreDests g.O.Outlet.state (setup_of c.args.hub.made)) (sym c.seat_all-senders.ensures.actors) c.requires.dests

pub free_all-requires-clause-fits : goal.free_all-requires-clause-fits
free_all-requires-clause-fits g c =
    let one = length-map actor_of c.seat_all-readers.result.items in
    let two = ap length c.seat_all-readers.ensures.actors in
    let three = c.run_rounds-ended.ensures.crew.all_sources in
    let room = c.requires.rooms.0.3 in
    omega (arith, one, two, three, room)

pub free_all-requires-2-clause-fits : goal.free_all-requires-2-clause-fits
free_all-requires-2-clause-fits g c =
    let one = length-map actor_of c.seat_all-senders.result.items in
    let two = ap length c.seat_all-senders.ensures.actors in
    let three = c.run_rounds-ended.ensures.crew.all_dests in
    let room = c.requires.rooms.1.3 in
    omega (arith, one, two, three, room)

pub returns-clause-serves : goal.returns-clause-serves
returns-clause-serves g c =
    let e = c.run_rounds-ended.ensures in
    let source = SourceTook g.I.Inlet.state g.R.Router.offers g.R.Router.inlets g.R.Router.dests in
    let dest = DestTook g.O.Outlet.state in
    serves-as source dest CoreServes c.args.hub.made c.close-core.result
    (actors_of c.seat_all-readers.result.items) c.args.sources.items (actors_of c.run_rounds-ended.new.sources.items) c.free_all.result.items
    (actors_of c.seat_all-senders.result.items) c.args.dests.items (actors_of c.run_rounds-ended.new.dests.items) c.free_all-2.result.items
    c.args.rounds c.run_rounds-ended.result c.seat_all-readers.ensures.actors c.free_all.ensures c.seat_all-senders.ensures.actors c.free_all-2.ensures
    (served-is c.args.hub c.run_rounds-ended.new.first c.close-core.result e.first.ordered e.first.sum c.close-core.ensures source dest
    (actors_of c.seat_all-readers.result.items) (actors_of c.run_rounds-ended.new.sources.items) (actors_of c.seat_all-senders.result.items) (actors_of c.run_rounds-ended.new.dests.items)
    c.args.rounds c.run_rounds-ended.result e.served)

pub returns-clause-sources : goal.returns-clause-sources
returns-clause-sources g c =
    let e = c.run_rounds-ended.ensures in
    let same = setup-stays c.args.hub c.run_rounds-ended.new.first c.close-core.result e.first.ordered e.first.sum c.close-core.ensures in
    subst (λ s. AreSources g.I.Inlet.state g.R.Router.inlets g.R.Router.dests s c.free_all.result.items) (sym same)
    (subst (AreSources g.I.Inlet.state g.R.Router.inlets g.R.Router.dests (setup_of c.args.hub.made)) (sym c.free_all.ensures) e.crew.sources)

pub returns-clause-dests : goal.returns-clause-dests
returns-clause-dests g c =
    let e = c.run_rounds-ended.ensures in
    let same = setup-stays c.args.hub c.run_rounds-ended.new.first c.close-core.result e.first.ordered e.first.sum c.close-core.ensures in
    subst (λ s. AreDests g.O.Outlet.state s c.free_all-2.result.items) (sym same) (subst (AreDests g.O.Outlet.state (setup_of c.args.hub.made)) (sym c.free_all-2.ensures) e.crew.dests)

pub returns-clause-setup : goal.returns-clause-setup
returns-clause-setup g c =
    let e = c.run_rounds-ended.ensures in
    setup-stays c.args.hub c.run_rounds-ended.new.first c.close-core.result e.first.ordered e.first.sum c.close-core.ensures

pub returns-clause-world : goal.returns-clause-world
returns-clause-world g c = c.look_last.ensures ∙ c.run_rounds-ended.ensures.world
