use Rattle.std.proofs.Common.{arith, ◌≡◌, ◌<◌, length, take, slice_get, refl, sym, ap, ◌∙◌, subst, inl, inr}
use Rattle.std.specs.Prelude.{not, is_some, ◌||◌}
use Rattle.sg_list.proofs.ListLemmas.{slice_get-below, some-same}
use Rattle.sg_crew.specs.Crews.{any, HasGathered}
use Rattle.sg_crew.specs.Workers.{seat_of, turn_of, seats_of, turns_of, busy_of_worker, busy_sum, HasStayed}
use Rattle.sg_crew.proofs.ListLemmas.{any-push, changed-none, changed-more, changed-all, next-is, part-more, take-whole, total-more}
use Rattle.sg_crew.proofs.SeatLemmas.{gathered-none, gathered-more}
use Rattle.sg_turns.proofs.PartLemmas.{last-or}
use Rattle.sg_crew.proofs.gather.gather.Goals as goal

pub loop-i-init : goal.loop-i-init
loop-i-init g c = record {
  gathered = gathered-none c.args.first.now;
  workers = changed-none HasStayed c.args.workers.now.items;
  even = λ e j w below. absurd (omega (arith, below));
  busy = refl;
  few = omega arith;
  starved = refl;
}

pub gather_one-part-requires-clause-first : goal.gather_one-part-requires-clause-first
gather_one-part-requires-clause-first g c = let h = c.loop-i.invariant.gathered in (h.booth ∙ c.requires.first.0, h.made ∙ c.requires.first.1)

pub gather_one-part-requires-clause-left : goal.gather_one-part-requires-clause-left
gather_one-part-requires-clause-left g c = let h = c.loop-i.invariant.gathered.left in omega (arith, h, c.requires.left)

pub gather_one-part-requires-clause-seat : goal.gather_one-part-requires-clause-seat
gather_one-part-requires-clause-seat g c =
    let i = c.loop-i.invariant in
    let all = i.workers.all in
    let below : c.loop-i.i < length c.loop-i.workers.items = omega (arith, all) in
    (c.requires.seats c.loop-i.i c.index_mut.result.now (next-is HasStayed c.args.workers.now.items c.loop-i.workers.items c.loop-i.i c.index_mut.result.now i.workers below c.index_mut.ensures.value)).0

pub gather_one-part-requires-clause-busy : goal.gather_one-part-requires-clause-busy
gather_one-part-requires-clause-busy g c =
    let i = c.loop-i.invariant in
    let all = i.workers.all in
    let below : c.loop-i.i < length c.loop-i.workers.items = omega (arith, all) in
    let few = i.few in
    let one = (c.requires.seats c.loop-i.i c.index_mut.result.now (next-is HasStayed c.args.workers.now.items c.loop-i.workers.items c.loop-i.i c.index_mut.result.now i.workers below c.index_mut.ensures.value)).2 in
    omega (arith, few, one, all, below, c.requires.few)

pub loop-i-preserved : goal.loop-i-preserved
loop-i-preserved g c =
    let i = c.loop-i.invariant in
    let all = i.workers.all in
    let below : c.loop-i.i < length c.loop-i.workers.items = omega (arith, all) in
    let x = c.index_mut.result.now in
    let there = next-is HasStayed c.args.workers.now.items c.loop-i.workers.items c.loop-i.i c.index_mut.result.now i.workers below c.index_mut.ensures.value in
    let join = c.requires.seats c.loop-i.i c.index_mut.result.now there in
    let one = join.2 in
    let few = i.few in
    let e = c.gather_one-part.ensures in
    let busy = e.busy in
    record {
      gathered = subst (λ seats. HasGathered c.args.first.now seats c.gather_one-part.new.first) (sym (part-more seat_of c.args.workers.now.items c.loop-i.i x there))
          (gathered-more c.args.first.now c.loop-i.first c.gather_one-part.new.first (seats_of (take c.loop-i.i c.args.workers.now.items)) x.seat i.gathered e.joined join.1);
      workers = changed-more HasStayed c.args.workers.now.items c.loop-i.workers.items c.loop-i.i x c.gather_one-part.new.worker i.workers below c.index_mut.ensures.value e.actor;
      even = (λ is j w under get. elim (last-or j c.loop-i.i under) [
        | inl same ↦ subst (λ v. v.turns ≡ c.args.rounds) (some-same x w (sym there ∙ (ap (λ k. slice_get c.args.workers.now.items k) (sym same) ∙ get))) (e.even is).1
        | inr p ↦ i.even (e.even is).0 j w p.0 get
      ]);
      busy = (let sum = total-more busy_of_worker c.args.workers.now.items c.loop-i.i x there in let before = i.busy in omega (arith, busy, sum, before));
      few = omega (arith, busy, few, one);
      starved = e.starved ∙ (ap (λ b. b || not (is_some x.turn)) i.starved
          ∙ (sym (any-push (λ a. not (is_some a)) (turns_of (take c.loop-i.i c.args.workers.now.items)) x.turn) ∙ ap (any (λ a. not (is_some a))) (sym (part-more turn_of c.args.workers.now.items c.loop-i.i x there))));
    }

pub returns-clause-gathered : goal.returns-clause-gathered
returns-clause-gathered g c =
    let i = c.loop-i.invariant in
    let all = i.workers.all in
    let is : c.loop-i.i ≡ length c.args.workers.now.items = omega (arith, all) in
    subst (λ ws. HasGathered c.args.first.now (seats_of ws) c.loop-i.first) (take-whole c.args.workers.now.items c.loop-i.i is) i.gathered

pub returns-clause-actors : goal.returns-clause-actors
returns-clause-actors g c =
    let i = c.loop-i.invariant in
    let all = i.workers.all in
    let is : c.loop-i.i ≡ length c.args.workers.now.items = omega (arith, all) in
    changed-all HasStayed c.args.workers.now.items c.loop-i.workers.items c.loop-i.i i.workers is

pub returns-clause-even : goal.returns-clause-even
returns-clause-even g c =
    let i = c.loop-i.invariant in
    let all = i.workers.all in
    let is : c.loop-i.i ≡ length c.args.workers.now.items = omega (arith, all) in
    λ even j w get. i.even even j w (let below = slice_get-below c.args.workers.now.items j w get in omega (arith, below, is)) get

pub returns-clause-busy : goal.returns-clause-busy
returns-clause-busy g c =
    let i = c.loop-i.invariant in
    let all = i.workers.all in
    let is : c.loop-i.i ≡ length c.args.workers.now.items = omega (arith, all) in
    i.busy ∙ ap busy_sum (take-whole c.args.workers.now.items c.loop-i.i is)

pub returns-clause-few : goal.returns-clause-few
returns-clause-few g c =
    let i = c.loop-i.invariant in
    let all = i.workers.all in
    let few = i.few in
    omega (arith, all, few)

pub returns-clause-starved : goal.returns-clause-starved
returns-clause-starved g c =
    let i = c.loop-i.invariant in
    let all = i.workers.all in
    let is : c.loop-i.i ≡ length c.args.workers.now.items = omega (arith, all) in
    i.starved ∙ ap (λ ws. any (λ a. not (is_some a)) (turns_of ws)) (take-whole c.args.workers.now.items c.loop-i.i is)
