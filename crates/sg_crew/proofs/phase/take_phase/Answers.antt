use Rattle.std.proofs.Common.{rules, arith, ◌≡◌, ◌++◌, refl, ap, sym, ◌∙◌, subst, append_assoc}
use Rattle.std.specs.Prelude.{◌||◌, ◌+◌, not, is_some}
use Rattle.sg_booth.specs.Desks.{IsDeskOf, fresh_desk}
use Rattle.sg_counter.specs.Exchanges.{OfSource, OfDest}
use Rattle.sg_turns.specs.Actors.{SourceTakes, DestTakes}
use Rattle.sg_hub.specs.Seats.{SeatState}
use Rattle.sg_crew.specs.Crews.{any, HasPhaseWith}
use Rattle.sg_crew.specs.Workers.{actor_of, actors_of, turns_of, busy_sum, HasStayed}
use Rattle.sg_crew.proofs.ListLemmas.{part-stays}
use Rattle.sg_crew.proofs.PhaseLemmas.{turns-of, phase-is, phase-turns}
use Rattle.sg_crew.proofs.TakeLemmas.{dealt-seat, dealt-actors, may-read, sources-took, sources-stay, may-send, dests-took, dests-stay, may-join, phase-as}
use Rattle.sg_crew.proofs.phase.take_phase.Goals as goal

pub deal-requires-clause-left : goal.deal-requires-clause-left
deal-requires-clause-left g c = omega (arith, c.requires.seat.1, c.requires.few.0)

pub deal-requires-2-clause-first : goal.deal-requires-2-clause-first
deal-requires-2-clause-first g c = subst (IsDeskOf c.args.hub.now) (sym c.deal.ensures.first) (c.requires.first.0, c.requires.first.1)

pub deal-requires-2-clause-left : goal.deal-requires-2-clause-left
deal-requires-2-clause-left g c = let left = ap (λ (s : SeatState). s.left) c.deal.ensures.first in omega (arith, left, c.requires.seat.1, c.requires.few.0, c.requires.few.1)

pub take_turns-taken-requires-clause-read : goal.take_turns-taken-requires-clause-read
take_turns-taken-requires-clause-read g c = λ κs lives.
    may-read g.I.Inlet.state g.R.Router.offers g.R.Router.inlets g.R.Router.dests c.args.hub.now c.args.first.now c.args.first.now refl c.args.sources.now.items c.deal.new.workers.items c.deal.ensures.workers
    c.requires.sources c.requires.first

pub take_turns-taken-requires-clause-send : goal.take_turns-taken-requires-clause-send
take_turns-taken-requires-clause-send g c = λ κs lives.
    may-send g.O.Outlet.state c.args.hub.now c.args.first.now c.deal.new.first (ap (λ (s : SeatState). fresh_desk s 1024) c.deal.ensures.first) c.args.dests.now.items c.deal-2.new.workers.items c.deal-2.ensures.workers
    c.requires.dests c.requires.first

pub gather-read-requires-clause-first : goal.gather-read-requires-clause-first
gather-read-requires-clause-first g c =
    subst (IsDeskOf c.args.hub.now) (sym c.deal-2.ensures.first) (subst (λ (s : SeatState). IsDeskOf c.args.hub.now s) (sym c.deal.ensures.first) (c.requires.first.0, c.requires.first.1))

pub gather-read-requires-clause-left : goal.gather-read-requires-clause-left
gather-read-requires-clause-left g c =
    let one = ap (λ (s : SeatState). s.left) c.deal.ensures.first in
    let two = ap (λ (s : SeatState). s.left) c.deal-2.ensures.first in
    omega (arith, one, two, c.requires.seat.1, c.requires.few.0, c.requires.few.1)

pub gather-read-requires-clause-seats : goal.gather-read-requires-clause-seats
gather-read-requires-clause-seats g c =
    let state = g.I.Inlet.state in
    let offers = g.R.Router.offers in
    let inlets = g.R.Router.inlets in
    let dests = g.R.Router.dests in
    let t = sources-took state offers inlets dests c.args.hub.now c.args.first.now c.args.first.now refl c.args.sources.now.items c.deal.new.workers.items c.deal.ensures.workers c.requires.sources
    c.take_turns-taken.new.sources.items c.take_turns-taken.ensures.read in
    may-join (SourceTakes state offers inlets dests) OfSource c.args.hub.now c.args.first.now c.deal.new.workers.items c.take_turns-taken.new.sources.items t.0 t.1
    (dealt-seat c.args.first.now c.args.first.now refl c.args.sources.now.items c.deal.new.workers.items c.deal.ensures.workers) c.requires.first

pub gather-sent-requires-clause-first : goal.gather-sent-requires-clause-first
gather-sent-requires-clause-first g c =
    let of_hub : IsDeskOf c.args.hub.now c.deal-2.new.first =
    subst (IsDeskOf c.args.hub.now) (sym c.deal-2.ensures.first) (subst (λ (s : SeatState). IsDeskOf c.args.hub.now s) (sym c.deal.ensures.first) (c.requires.first.0, c.requires.first.1)) in
    (c.gather-read.ensures.gathered.booth ∙ of_hub.0, c.gather-read.ensures.gathered.made ∙ of_hub.1)

pub gather-sent-requires-clause-left : goal.gather-sent-requires-clause-left
gather-sent-requires-clause-left g c =
    let one = ap (λ (s : SeatState). s.left) c.deal.ensures.first in
    let two = ap (λ (s : SeatState). s.left) c.deal-2.ensures.first in
    let three = c.gather-read.ensures.gathered.left in
    omega (arith, one, two, three, c.requires.seat.1, c.requires.few.0, c.requires.few.1)

pub gather-sent-requires-clause-seats : goal.gather-sent-requires-clause-seats
gather-sent-requires-clause-seats g c =
    let same = ap (λ (s : SeatState). fresh_desk s 1024) c.deal.ensures.first in
    let u = dests-took g.O.Outlet.state c.args.hub.now c.args.first.now c.deal.new.first same c.args.dests.now.items c.deal-2.new.workers.items c.deal-2.ensures.workers c.requires.dests
    c.take_turns-taken.new.dests.items c.take_turns-taken.ensures.sent in
    may-join (DestTakes g.O.Outlet.state) OfDest c.args.hub.now c.args.first.now c.deal-2.new.workers.items c.take_turns-taken.new.dests.items u.0 u.1
    (dealt-seat c.args.first.now c.deal.new.first same c.args.dests.now.items c.deal-2.new.workers.items c.deal-2.ensures.workers) c.requires.first

pub gather-read-requires-clause-few : goal.gather-read-requires-clause-few
gather-read-requires-clause-few g c = let one = c.take_turns-taken.ensures.read.all in let two = c.deal.ensures.workers.all in omega (arith, one, two, c.requires.few.0)

pub gather-sent-requires-clause-few : goal.gather-sent-requires-clause-few
gather-sent-requires-clause-few g c = let one = c.take_turns-taken.ensures.sent.all in let two = c.deal-2.ensures.workers.all in omega (arith, one, two, c.requires.few.1)

pub returns-clause-took : goal.returns-clause-took
returns-clause-took g c =
    let state = g.I.Inlet.state in
    let offers = g.R.Router.offers in
    let inlets = g.R.Router.inlets in
    let dests = g.R.Router.dests in
    let hub = c.args.hub.now in
    let f0 = c.args.first.now in
    let s0 = c.args.sources.now.items in
    let s1 = c.deal.new.workers.items in
    let s2 = c.take_turns-taken.new.sources.items in
    let t = sources-took state offers inlets dests hub f0 f0 refl s0 s1 c.deal.ensures.workers c.requires.sources s2 c.take_turns-taken.ensures.read in
    let s3 = c.gather-read.new.workers.items in
    let same = ap (λ (s : SeatState). fresh_desk s 1024) c.deal.ensures.first in
    let m = c.deal.new.first in
    let d0 = c.args.dests.now.items in
    let d1 = c.deal-2.new.workers.items in
    let d2 = c.take_turns-taken.new.dests.items in
    let d3 = c.gather-sent.new.workers.items in
    let u = dests-took g.O.Outlet.state hub f0 m same d0 d1 c.deal-2.ensures.workers c.requires.dests d2 c.take_turns-taken.ensures.sent in
    let f1 = c.deal-2.new.first in
    let f2 = c.gather-read.new.first in
    let f3 = c.gather-sent.new.first in
    let gs = c.gather-read.ensures.gathered in
    let gd = c.gather-sent.ensures.gathered in
    let seen1 : f1.seen ≡ f0.seen = ap (λ (s : SeatState). s.seen) c.deal-2.ensures.first ∙ ap (λ (s : SeatState). s.seen) c.deal.ensures.first in
    let own1 : f1.own ≡ f0.own = ap (λ (s : SeatState). s.own) c.deal-2.ensures.first ∙ ap (λ (s : SeatState). s.own) c.deal.ensures.first in
    let joined1 : f1.joined ≡ f0.joined = ap (λ (s : SeatState). s.joined) c.deal-2.ensures.first ∙ ap (λ (s : SeatState). s.joined) c.deal.ensures.first in
    let more = gs.seen.0 ++ gd.seen.0 in
    let seen : f3.seen ≡ f0.seen ++ more = gd.seen.1 ∙ (ap (λ l. l ++ gd.seen.0) (gs.seen.1 ∙ ap (λ l. l ++ gs.seen.0) seen1) ∙ append_assoc f0.seen gs.seen.0 gd.seen.0) in
    let sat = dealt-seat f0 f0 refl s0 s1 c.deal.ensures.workers in
    let sat' = dealt-seat f0 m same d0 d1 c.deal-2.ensures.workers in
    let even = c.is_even.ensures c.hold.ensures in
    let e = c.joined-phase.ensures in
    let one = c.gather-read.ensures.busy in
    let two = c.gather-sent.ensures.busy in
    let sum = e.busy in
    let busy : c.joined-phase.result.busy ≡ busy_sum s2 + busy_sum d2 = omega (arith, one, two, sum) in
    let starved = e.starved ∙ (ap (λ b. b || c.gather-sent.result.starved) c.gather-read.ensures.starved ∙ ap (λ b. any (λ a. not (is_some a)) (turns_of s2) || b) c.gather-sent.ensures.starved) in
    let number = c.take_turns-taken.result.rounds in
    let is = sym e.rounds in (
      more,
      (
        turns-of t.0 u.0,
        subst (λ n. HasPhaseWith (SourceTakes state offers inlets dests) (DestTakes g.O.Outlet.state) f0 f3 (actors_of s0) (actors_of s3) (actors_of d0) (actors_of d3) n
            c.joined-phase.result.busy c.joined-phase.result.starved more (turns-of t.0 u.0)) is
            (phase-as (SourceTakes state offers inlets dests) (DestTakes g.O.Outlet.state) f0 f3 (actors_of s1) (actors_of s2) (actors_of s0) (actors_of s3) (actors_of d1) (actors_of d2) (actors_of d0) (actors_of d3)
            number c.joined-phase.result.busy c.joined-phase.result.starved more (turns-of t.0 u.0)
            (dealt-actors f0 f0 refl s0 s1 c.deal.ensures.workers) (part-stays HasStayed actor_of (λ x y h. h) s2 s3 c.gather-read.ensures.actors)
            (dealt-actors f0 m same d0 d1 c.deal-2.ensures.workers) (part-stays HasStayed actor_of (λ x y h. h) d2 d3 c.gather-sent.ensures.actors)
            (phase-is (SourceTakes state offers inlets dests) (DestTakes g.O.Outlet.state) hub f0 f1 f2 f3 s1 s2 d1 d2 t.0 u.0
            seen1 own1 joined1 sat sat' t.1 u.1 gs gd number c.joined-phase.result.busy c.joined-phase.result.starved more seen c.requires.seat.0
            (c.gather-read.ensures.even even.0) (c.gather-sent.ensures.even even.1) busy starved)),
      ),
    )

pub returns-clause-first : goal.returns-clause-first
returns-clause-first g c =
    let state = g.I.Inlet.state in
    let offers = g.R.Router.offers in
    let inlets = g.R.Router.inlets in
    let dests = g.R.Router.dests in
    let hub = c.args.hub.now in
    let f0 = c.args.first.now in
    let s0 = c.args.sources.now.items in
    let s1 = c.deal.new.workers.items in
    let s2 = c.take_turns-taken.new.sources.items in
    let t = sources-took state offers inlets dests hub f0 f0 refl s0 s1 c.deal.ensures.workers c.requires.sources s2 c.take_turns-taken.ensures.read in
    let s3 = c.gather-read.new.workers.items in
    let same = ap (λ (s : SeatState). fresh_desk s 1024) c.deal.ensures.first in
    let m = c.deal.new.first in
    let d0 = c.args.dests.now.items in
    let d1 = c.deal-2.new.workers.items in
    let d2 = c.take_turns-taken.new.dests.items in
    let d3 = c.gather-sent.new.workers.items in
    let u = dests-took g.O.Outlet.state hub f0 m same d0 d1 c.deal-2.ensures.workers c.requires.dests d2 c.take_turns-taken.ensures.sent in
    let f1 = c.deal-2.new.first in
    let f2 = c.gather-read.new.first in
    let f3 = c.gather-sent.new.first in
    let gs = c.gather-read.ensures.gathered in
    let gd = c.gather-sent.ensures.gathered in
    let seen1 : f1.seen ≡ f0.seen = ap (λ (s : SeatState). s.seen) c.deal-2.ensures.first ∙ ap (λ (s : SeatState). s.seen) c.deal.ensures.first in
    let own1 : f1.own ≡ f0.own = ap (λ (s : SeatState). s.own) c.deal-2.ensures.first ∙ ap (λ (s : SeatState). s.own) c.deal.ensures.first in
    let joined1 : f1.joined ≡ f0.joined = ap (λ (s : SeatState). s.joined) c.deal-2.ensures.first ∙ ap (λ (s : SeatState). s.joined) c.deal.ensures.first in
    let more = gs.seen.0 ++ gd.seen.0 in
    let seen : f3.seen ≡ f0.seen ++ more = gd.seen.1 ∙ (ap (λ l. l ++ gd.seen.0) (gs.seen.1 ∙ ap (λ l. l ++ gs.seen.0) seen1) ∙ append_assoc f0.seen gs.seen.0 gd.seen.0) in
    let sat = dealt-seat f0 f0 refl s0 s1 c.deal.ensures.workers in
    let sat' = dealt-seat f0 m same d0 d1 c.deal-2.ensures.workers in
    let one = ap (λ (s : SeatState). s.left) c.deal.ensures.first in
    let two = ap (λ (s : SeatState). s.left) c.deal-2.ensures.first in
    let all = c.deal.ensures.workers.all in
    let all' = c.deal-2.ensures.workers.all in
    let of_hub : IsDeskOf c.args.hub.now c.deal-2.new.first =
    subst (IsDeskOf c.args.hub.now) (sym c.deal-2.ensures.first) (subst (λ (s : SeatState). IsDeskOf c.args.hub.now s) (sym c.deal.ensures.first) (c.requires.first.0, c.requires.first.1)) in
    let three = c.gather-read.ensures.gathered.left in
    let four = c.gather-sent.ensures.gathered.left in
    record {
      of_hub = (gd.booth ∙ (gs.booth ∙ of_hub.0), gd.made ∙ (gs.made ∙ of_hub.1));
      ordered = search rules;
      sum = phase-turns (SourceTakes state offers inlets dests) (DestTakes g.O.Outlet.state) hub f0 f1 f2 f3 s1 s2 d1 d2 t.0 u.0
          seen1 own1 joined1 sat sat' t.1 u.1 gs gd more seen (omega (arith, one, two, all, all', c.requires.seat.1, c.requires.few.0, c.requires.few.1));
      left = omega (arith, one, two, three, four, c.requires.seat.1, c.requires.few.0, c.requires.few.1);
    }

pub returns-clause-crew : goal.returns-clause-crew
returns-clause-crew g c =
    let state = g.I.Inlet.state in
    let offers = g.R.Router.offers in
    let inlets = g.R.Router.inlets in
    let dests = g.R.Router.dests in
    let hub = c.args.hub.now in
    let f0 = c.args.first.now in
    let s0 = c.args.sources.now.items in
    let s1 = c.deal.new.workers.items in
    let s2 = c.take_turns-taken.new.sources.items in
    let t = sources-took state offers inlets dests hub f0 f0 refl s0 s1 c.deal.ensures.workers c.requires.sources s2 c.take_turns-taken.ensures.read in
    let m = c.deal.new.first in
    let same = ap (λ (s : SeatState). fresh_desk s 1024) c.deal.ensures.first in
    let d0 = c.args.dests.now.items in
    let d1 = c.deal-2.new.workers.items in
    let d2 = c.take_turns-taken.new.dests.items in
    let u = dests-took g.O.Outlet.state hub f0 m same d0 d1 c.deal-2.ensures.workers c.requires.dests d2 c.take_turns-taken.ensures.sent in
    record {
      sources = sources-stay state offers inlets dests hub f0 f0 refl s0 s1 c.deal.ensures.workers c.requires.sources s2 c.gather-read.new.workers.items t.0 t.1 c.gather-read.ensures.actors;
      dests = dests-stay g.O.Outlet.state hub f0 m same d0 d1 c.deal-2.ensures.workers c.requires.dests d2 c.gather-sent.new.workers.items u.0 u.1 c.gather-sent.ensures.actors;
      all_sources = c.gather-read.ensures.actors.all ∙ (c.take_turns-taken.ensures.read.all ∙ c.deal.ensures.workers.all);
      all_dests = c.gather-sent.ensures.actors.all ∙ (c.take_turns-taken.ensures.sent.all ∙ c.deal-2.ensures.workers.all);
    }
