use Rattle.std.proofs.Common.{◌∙◌, ◌+◌, ap, refl, sym, min, take, false, true}
use Rattle.sg_machine.specs.declared.event.Act.TheVariants.{Settle}
use Rattle.sg_offers.specs.Rooms.{seen_in}
use Rattle.sg_sinks.specs.Fitting.{space}
use Rattle.sg_sinks.specs.States.{with_broken}
use Rattle.sg_list.specs.Lists.{change}
use Rattle.sg_standing.specs.States.{CoreState}
use Rattle.sg_core.proofs.AtSteps.{quiet-look}
use Rattle.sg_core.proofs.SettleParts.{can-at, can-left, left-at, lengths-is, can-ack, can-take, still-there}
use Rattle.sg_core.proofs.Whole.{whole-still}
use Rattle.sg_core.proofs.SettleTurn.{SettleTurn, turn-does, turn-can, turn-fails, turn-works, turn-buffer}
use Rattle.sg_offers.proofs.ItemLemmas.{seen-there}
use Rattle.sg_core.proofs.flow.Core.settle.Goals as goal

pub returns-then-not-is_front-clause-does : goal.returns-then-not-is_front-clause-does
returns-then-not-is_front-clause-does g c = rw (← c.self.view_is) (quiet-look _ _ refl refl refl refl)

pub returns-then-not-is_front-clause-answer : goal.returns-then-not-is_front-clause-answer
returns-then-not-is_front-clause-answer g c =
    let there = seen-there c.self.inside.sinks c.args.d c.at-sink.result.now c.at-sink.ensures in
    rw (← c.self.view_is) (can-at (seen_in c.self.inside.sinks) c.args.d c.args.place c.args.n c.at-sink.result.now.seen there ∙ sym c.is_front.ensures ∙ c.if-not-is_front.true)

pub settle_first-size-requires-clause-waits : goal.settle_first-size-requires-clause-waits
settle_first-size-requires-clause-waits g c =
    let there = seen-there c.self.inside.sinks c.args.d c.at-sink.result.now c.at-sink.ensures in
    let left = can-left c.at-sink.result.now.seen c.args.place c.args.n (sym c.is_front.ensures ∙ c.if-not-is_front.false) in
    left-at (seen_in c.self.inside.sinks) c.args.d c.args.n c.at-sink.result.now.seen there left

pub settle_first-size-requires-clause-acks : goal.settle_first-size-requires-clause-acks
settle_first-size-requires-clause-acks g c =
    let there = seen-there c.self.inside.sinks c.args.d c.at-sink.result.now c.at-sink.ensures in
    let left = can-left c.at-sink.result.now.seen c.args.place c.args.n (sym c.is_front.ensures ∙ c.if-not-is_front.false) in
    can-ack _ c.self.invariant.state c.args.d c.args.n c.at-sink.result.now.seen c.self.invariant.at there left

pub take_off-requires : goal.take_off-requires
take_off-requires g c =
    let there = seen-there c.self.inside.sinks c.args.d c.at-sink.result.now c.at-sink.ensures in
    let least = c.min-spooled.ensures ∙ ap (λ m. min m c.args.n) c.spooled.ensures in
    let sized = c.settle_first-size.ensures.size ∙ ap (λ ns. space (take c.args.n ns)) (lengths-is (seen_in c.self.inside.sinks) c.args.d c.at-sink.result.now.seen there) in
    rw (c.setup-buffer.ensures, c.is_broken-broken.ensures) (can-take _ c.self.invariant.state c.args.d c.args.n c.min-spooled.result c.settle_first-size.result c.at-sink.result.now.seen c.self.invariant.at there least sized)

pub break_at-requires : goal.break_at-requires
break_at-requires g c =
    let there = seen-there c.self.inside.sinks c.args.d c.at-sink.result.now c.at-sink.ensures in
    still-there (seen_in c.self.inside.sinks) c.settle_first-size.new.sinks c.args.d _ c.at-sink.result.now.seen there c.settle_first-size.ensures.sinks

pub invariant_of-self-then-not-take_off : goal.invariant_of-self-then-not-take_off
invariant_of-self-then-not-take_off g c =
    whole-still _ _ (Settle c.args.d c.args.n) c.self.invariant (turn-does _ _ c.args.d c.args.place c.args.n false c.self.invariant (record {
      sink = c.at-sink.result.now.seen;
      k = c.min-spooled.result;
      size = c.settle_first-size.result;
      there = seen-there c.self.inside.sinks c.args.d c.at-sink.result.now c.at-sink.ensures;
      some = c.requires.some;
      can = sym c.is_front.ensures ∙ c.if-not-is_front.false;
      least = c.min-spooled.ensures ∙ ap (λ m. min m c.args.n) c.spooled.ensures;
      sized = c.settle_first-size.ensures.size;
      sources = c.settle_first-size.ensures.sources;
      calls = refl;
      taken = (let off = rw (c.setup-buffer.ensures, c.is_broken-broken.ensures) at c.take_off.ensures in rw c.if-not-take_off.true at off);
      sinks = c.break_at.ensures ∙ ap (λ ks. change ks c.args.d with_broken) c.settle_first-size.ensures.sinks;
    }))

pub returns-then-not-take_off-clause-does : goal.returns-then-not-take_off-clause-does
returns-then-not-take_off-clause-does g c = rw (← c.self.view_is) (turn-does _ _ c.args.d c.args.place c.args.n false c.self.invariant (record {
  sink = c.at-sink.result.now.seen;
  k = c.min-spooled.result;
  size = c.settle_first-size.result;
  there = seen-there c.self.inside.sinks c.args.d c.at-sink.result.now c.at-sink.ensures;
  some = c.requires.some;
  can = sym c.is_front.ensures ∙ c.if-not-is_front.false;
  least = c.min-spooled.ensures ∙ ap (λ m. min m c.args.n) c.spooled.ensures;
  sized = c.settle_first-size.ensures.size;
  sources = c.settle_first-size.ensures.sources;
  calls = refl;
  taken = (let off = rw (c.setup-buffer.ensures, c.is_broken-broken.ensures) at c.take_off.ensures in rw c.if-not-take_off.true at off);
  sinks = c.break_at.ensures ∙ ap (λ ks. change ks c.args.d with_broken) c.settle_first-size.ensures.sinks;
}))

pub returns-then-not-take_off-clause-answer : goal.returns-then-not-take_off-clause-answer
returns-then-not-take_off-clause-answer g c =
    let old : CoreState = record { sources = c.self.inside.sources; sinks = seen_in c.self.inside.sinks; stores = c.self.inside.stores; calls = c.self.inside.calls } in
    let new : CoreState = record { sources = c.settle_first-size.new.sources; sinks = seen_in c.break_at.new.sinks; stores = c.take_off.new.stores; calls = c.self.inside.calls + 1 } in
    let t : SettleTurn old new c.args.d c.args.place c.args.n false = record {
      sink = c.at-sink.result.now.seen;
      k = c.min-spooled.result;
      size = c.settle_first-size.result;
      there = seen-there c.self.inside.sinks c.args.d c.at-sink.result.now c.at-sink.ensures;
      some = c.requires.some;
      can = sym c.is_front.ensures ∙ c.if-not-is_front.false;
      least = c.min-spooled.ensures ∙ ap (λ m. min m c.args.n) c.spooled.ensures;
      sized = c.settle_first-size.ensures.size;
      sources = c.settle_first-size.ensures.sources;
      calls = refl;
      taken = (let off = rw (c.setup-buffer.ensures, c.is_broken-broken.ensures) at c.take_off.ensures in rw c.if-not-take_off.true at off);
      sinks = c.break_at.ensures ∙ ap (λ ks. change ks c.args.d with_broken) c.settle_first-size.ensures.sinks;
    } in
    rw (← c.self.view_is) (turn-can old new c.args.d c.args.place c.args.n false t, turn-fails old new c.args.d c.args.place c.args.n t)

pub returns-then-not-take_off-clause-queue : goal.returns-then-not-take_off-clause-queue
returns-then-not-take_off-clause-queue g c =
    let old : CoreState = record { sources = c.self.inside.sources; sinks = seen_in c.self.inside.sinks; stores = c.self.inside.stores; calls = c.self.inside.calls } in
    let new : CoreState = record { sources = c.settle_first-size.new.sources; sinks = seen_in c.break_at.new.sinks; stores = c.take_off.new.stores; calls = c.self.inside.calls + 1 } in
    let t : SettleTurn old new c.args.d c.args.place c.args.n false = record {
      sink = c.at-sink.result.now.seen;
      k = c.min-spooled.result;
      size = c.settle_first-size.result;
      there = seen-there c.self.inside.sinks c.args.d c.at-sink.result.now c.at-sink.ensures;
      some = c.requires.some;
      can = sym c.is_front.ensures ∙ c.if-not-is_front.false;
      least = c.min-spooled.ensures ∙ ap (λ m. min m c.args.n) c.spooled.ensures;
      sized = c.settle_first-size.ensures.size;
      sources = c.settle_first-size.ensures.sources;
      calls = refl;
      taken = (let off = rw (c.setup-buffer.ensures, c.is_broken-broken.ensures) at c.take_off.ensures in rw c.if-not-take_off.true at off);
      sinks = c.break_at.ensures ∙ ap (λ ks. change ks c.args.d with_broken) c.settle_first-size.ensures.sinks;
    } in
    rw (← c.self.view_is) (λ none failed. turn-buffer old new c.args.d c.args.place c.args.n t none)

pub invariant_of-self-else-not-take_off : goal.invariant_of-self-else-not-take_off
invariant_of-self-else-not-take_off g c =
    whole-still _ _ (Settle c.args.d c.args.n) c.self.invariant (turn-does _ _ c.args.d c.args.place c.args.n true c.self.invariant (record {
      sink = c.at-sink.result.now.seen;
      k = c.min-spooled.result;
      size = c.settle_first-size.result;
      there = seen-there c.self.inside.sinks c.args.d c.at-sink.result.now c.at-sink.ensures;
      some = c.requires.some;
      can = sym c.is_front.ensures ∙ c.if-not-is_front.false;
      least = c.min-spooled.ensures ∙ ap (λ m. min m c.args.n) c.spooled.ensures;
      sized = c.settle_first-size.ensures.size;
      sources = c.settle_first-size.ensures.sources;
      calls = refl;
      taken = (let off = rw (c.setup-buffer.ensures, c.is_broken-broken.ensures) at c.take_off.ensures in rw c.if-not-take_off.false at off);
      sinks = c.settle_first-size.ensures.sinks;
    }))

pub returns-clause-does : goal.returns-clause-does
returns-clause-does g c = rw (← c.self.view_is) (turn-does _ _ c.args.d c.args.place c.args.n true c.self.invariant (record {
  sink = c.at-sink.result.now.seen;
  k = c.min-spooled.result;
  size = c.settle_first-size.result;
  there = seen-there c.self.inside.sinks c.args.d c.at-sink.result.now c.at-sink.ensures;
  some = c.requires.some;
  can = sym c.is_front.ensures ∙ c.if-not-is_front.false;
  least = c.min-spooled.ensures ∙ ap (λ m. min m c.args.n) c.spooled.ensures;
  sized = c.settle_first-size.ensures.size;
  sources = c.settle_first-size.ensures.sources;
  calls = refl;
  taken = (let off = rw (c.setup-buffer.ensures, c.is_broken-broken.ensures) at c.take_off.ensures in rw c.if-not-take_off.false at off);
  sinks = c.settle_first-size.ensures.sinks;
}))

pub returns-clause-answer : goal.returns-clause-answer
returns-clause-answer g c =
    let old : CoreState = record { sources = c.self.inside.sources; sinks = seen_in c.self.inside.sinks; stores = c.self.inside.stores; calls = c.self.inside.calls } in
    let new : CoreState = record { sources = c.settle_first-size.new.sources; sinks = seen_in c.settle_first-size.new.sinks; stores = c.take_off.new.stores; calls = c.self.inside.calls + 1 } in
    let t : SettleTurn old new c.args.d c.args.place c.args.n true = record {
      sink = c.at-sink.result.now.seen;
      k = c.min-spooled.result;
      size = c.settle_first-size.result;
      there = seen-there c.self.inside.sinks c.args.d c.at-sink.result.now c.at-sink.ensures;
      some = c.requires.some;
      can = sym c.is_front.ensures ∙ c.if-not-is_front.false;
      least = c.min-spooled.ensures ∙ ap (λ m. min m c.args.n) c.spooled.ensures;
      sized = c.settle_first-size.ensures.size;
      sources = c.settle_first-size.ensures.sources;
      calls = refl;
      taken = (let off = rw (c.setup-buffer.ensures, c.is_broken-broken.ensures) at c.take_off.ensures in rw c.if-not-take_off.false at off);
      sinks = c.settle_first-size.ensures.sinks;
    } in
    rw (← c.self.view_is) (turn-can old new c.args.d c.args.place c.args.n true t, turn-works old new c.args.d c.args.place c.args.n c.self.invariant t)
