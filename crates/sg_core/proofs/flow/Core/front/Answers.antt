use Rattle.std.proofs.Common.{◌∙◌, ◌+◌, ap, refl, sym, false, true, length, Err}
use Rattle.sg_machine.specs.declared.event.Act.TheVariants.{Look}
use Rattle.sg_machine.specs.declared.setup.DestSetup.{DestSetup}
use Rattle.sg_offers.specs.Rooms.{seen_in}
use Rattle.sg_standing.specs.States.{CoreState}
use Rattle.sg_core.proofs.AtSteps.{quiet-look}
use Rattle.sg_core.proofs.FrontCalls.{can-read-first}
use Rattle.sg_core.proofs.FrontLemmas.{shows-waiting-all, at-both-all, broken-same, at-both, nil-lengths, not-zero, none-broken-at, no-buffer-lengths}
use Rattle.sg_core.proofs.FrontTurn.{FrontTurn, ok-does, memory-does, fault-does, ok-front, ok-shows, fault-front, no-queue}
use Rattle.sg_core.proofs.Whole.{whole-still}
use Rattle.sg_offers.proofs.ItemLemmas.{seen-there}
use Rattle.sg_core.proofs.flow.Core.front.Goals as goal

pub returns-then-is_broken-clause-does : goal.returns-then-is_broken-clause-does
returns-then-is_broken-clause-does g c =
    rw (← c.self.view_is) (quiet-look _ _ refl refl refl refl)

pub returns-then-is_broken-clause-front : goal.returns-then-is_broken-clause-front
returns-then-is_broken-clause-front g c =
    let there = seen-there c.self.inside.sinks c.args.d c.at-sink.result.now c.at-sink.ensures in
    rw (← c.self.view_is) (at-both (seen_in c.self.inside.sinks) (seen_in c.self.inside.sinks) c.args.d c.args.most c.at-sink.result.now.seen c.at-sink.result.now.seen _ there there (broken-same c.at-sink.result.now.seen (sym c.is_broken.ensures ∙ c.if-is_broken.true)))

pub returns-then-is_broken-clause-unbroken : goal.returns-then-is_broken-clause-unbroken
returns-then-is_broken-clause-unbroken g c =
    let there = seen-there c.self.inside.sinks c.args.d c.at-sink.result.now c.at-sink.ensures in
    rw (← c.self.view_is) (λ none. absurd (none-broken-at _ c.self.invariant.state c.args.d c.at-sink.result.now.seen c.self.invariant.at there none (sym c.is_broken.ensures ∙ c.if-is_broken.true)))

pub returns-then-spooled-eq0-clause-does : goal.returns-then-spooled-eq0-clause-does
returns-then-spooled-eq0-clause-does g c =
    rw (← c.self.view_is) (quiet-look _ _ refl refl refl refl)

pub returns-then-spooled-eq0-clause-front : goal.returns-then-spooled-eq0-clause-front
returns-then-spooled-eq0-clause-front g c =
    let there = seen-there c.self.inside.sinks c.args.d c.at-sink.result.now c.at-sink.ensures in
    rw (← c.self.view_is) (at-both-all (seen_in c.self.inside.sinks) c.args.d c.args.most c.at-sink.result.now.seen c.waiting_front.result there c.waiting_front.ensures)

pub returns-then-spooled-eq0-clause-shows : goal.returns-then-spooled-eq0-clause-shows
returns-then-spooled-eq0-clause-shows g c =
    let there = seen-there c.self.inside.sinks c.args.d c.at-sink.result.now c.at-sink.ensures in
    let none = nil-lengths c.at-sink.result.now.seen.lengths (sym c.spooled.ensures ∙ c.if-spooled-eq0.true) in
    rw (← c.self.view_is) (shows-waiting-all _ c.args.d c.args.most c.at-sink.result.now.seen c.waiting_front.result there none c.waiting_front.ensures)

pub unreachable-requires : goal.unreachable-requires
unreachable-requires g c =
    let there = seen-there c.self.inside.sinks c.args.d c.at-sink.result.now c.at-sink.ensures in
    let none = sym (ap (λ (x : DestSetup). x.buffer) c.setup.ensures) ∙ c.in_default.is in
    no-buffer-lengths _ c.self.invariant.state c.args.d c.spooled.result c.at-sink.result.now.seen c.self.invariant.at there none c.spooled.ensures c.if-spooled-eq0.false

pub messages-requires : goal.messages-requires
messages-requires g c =
    let there = seen-there c.self.inside.sinks c.args.d c.at-sink.result.now c.at-sink.ensures in
    can-read-first _ c.self.invariant.state c.args.d c.run-n.result c.at-sink.result.now.seen c.in-Some.buffer c.self.invariant.at there (sym (ap (λ (x : DestSetup). x.buffer) c.setup.ensures) ∙ c.in-Some.is) (sym c.is_broken.ensures ∙ c.if-is_broken.false) c.run-n.ensures.within

pub invariant_of-self-in-Ok : goal.invariant_of-self-in-Ok
invariant_of-self-in-Ok g c =
    let old : CoreState = record { sources = c.self.inside.sources; sinks = seen_in c.self.inside.sinks; stores = c.self.inside.stores; calls = c.self.inside.calls } in
    let new : CoreState = record { sources = c.self.inside.sources; sinks = seen_in c.self.inside.sinks; stores = c.messages.new.self; calls = c.self.inside.calls + 1 } in
    let t : FrontTurn old c.messages.new.self c.args.d c.run-n.result c.args.most c.messages.result = record {
      sink = c.at-sink.result.now.seen;
      buffer = c.in-Some.buffer;
      there = seen-there c.self.inside.sinks c.args.d c.at-sink.result.now c.at-sink.ensures;
      has = sym (ap (λ (x : DestSetup). x.buffer) c.setup.ensures) ∙ c.in-Some.is;
      works = sym c.is_broken.ensures ∙ c.if-is_broken.false;
      some = not-zero c.spooled.result (length c.at-sink.result.now.seen.lengths) c.spooled.ensures c.if-spooled-eq0.false;
      run = c.run-n.ensures.value;
      few = c.run-n.ensures.within;
      reads = c.messages.ensures;
    } in
    whole-still old new Look c.self.invariant (ok-does old new c.args.d c.run-n.result c.args.most c.messages.result c.in-Ok.messages c.in-Ok.is t refl refl refl)

pub invariant_of-self-in-Err-NoMemory : goal.invariant_of-self-in-Err-NoMemory
invariant_of-self-in-Err-NoMemory g c =
    let old : CoreState = record { sources = c.self.inside.sources; sinks = seen_in c.self.inside.sinks; stores = c.self.inside.stores; calls = c.self.inside.calls } in
    let new : CoreState = record { sources = c.self.inside.sources; sinks = seen_in c.self.inside.sinks; stores = c.messages.new.self; calls = c.self.inside.calls + 1 } in
    let t : FrontTurn old c.messages.new.self c.args.d c.run-n.result c.args.most c.messages.result = record {
      sink = c.at-sink.result.now.seen;
      buffer = c.in-Some.buffer;
      there = seen-there c.self.inside.sinks c.args.d c.at-sink.result.now c.at-sink.ensures;
      has = sym (ap (λ (x : DestSetup). x.buffer) c.setup.ensures) ∙ c.in-Some.is;
      works = sym c.is_broken.ensures ∙ c.if-is_broken.false;
      some = not-zero c.spooled.result (length c.at-sink.result.now.seen.lengths) c.spooled.ensures c.if-spooled-eq0.false;
      run = c.run-n.ensures.value;
      few = c.run-n.ensures.within;
      reads = c.messages.ensures;
    } in
    whole-still old new Look c.self.invariant (memory-does old new c.args.d c.run-n.result c.args.most c.messages.result (c.in-Err-NoMemory.is ∙ ap Err c.in-Err-NoMemory.field-0-is) t refl refl refl)

pub invariant_of-self-in-Err-DiskFault : goal.invariant_of-self-in-Err-DiskFault
invariant_of-self-in-Err-DiskFault g c =
    let old : CoreState = record { sources = c.self.inside.sources; sinks = seen_in c.self.inside.sinks; stores = c.self.inside.stores; calls = c.self.inside.calls } in
    let new : CoreState = record { sources = c.self.inside.sources; sinks = seen_in c.break_at.new.sinks; stores = c.messages.new.self; calls = c.self.inside.calls + 1 } in
    let t : FrontTurn old c.messages.new.self c.args.d c.run-n.result c.args.most c.messages.result = record {
      sink = c.at-sink.result.now.seen;
      buffer = c.in-Some.buffer;
      there = seen-there c.self.inside.sinks c.args.d c.at-sink.result.now c.at-sink.ensures;
      has = sym (ap (λ (x : DestSetup). x.buffer) c.setup.ensures) ∙ c.in-Some.is;
      works = sym c.is_broken.ensures ∙ c.if-is_broken.false;
      some = not-zero c.spooled.result (length c.at-sink.result.now.seen.lengths) c.spooled.ensures c.if-spooled-eq0.false;
      run = c.run-n.ensures.value;
      few = c.run-n.ensures.within;
      reads = c.messages.ensures;
    } in
    whole-still old new Look c.self.invariant (fault-does old new c.args.d c.run-n.result c.args.most c.messages.result c.self.invariant (c.in-Err-DiskFault.is ∙ ap Err c.in-Err-DiskFault.field-0-is) t refl c.break_at.ensures refl)

pub returns-in-Ok-clause-does : goal.returns-in-Ok-clause-does
returns-in-Ok-clause-does g c =
    let old : CoreState = record { sources = c.self.inside.sources; sinks = seen_in c.self.inside.sinks; stores = c.self.inside.stores; calls = c.self.inside.calls } in
    let new : CoreState = record { sources = c.self.inside.sources; sinks = seen_in c.self.inside.sinks; stores = c.messages.new.self; calls = c.self.inside.calls + 1 } in
    let t : FrontTurn old c.messages.new.self c.args.d c.run-n.result c.args.most c.messages.result = record {
      sink = c.at-sink.result.now.seen;
      buffer = c.in-Some.buffer;
      there = seen-there c.self.inside.sinks c.args.d c.at-sink.result.now c.at-sink.ensures;
      has = sym (ap (λ (x : DestSetup). x.buffer) c.setup.ensures) ∙ c.in-Some.is;
      works = sym c.is_broken.ensures ∙ c.if-is_broken.false;
      some = not-zero c.spooled.result (length c.at-sink.result.now.seen.lengths) c.spooled.ensures c.if-spooled-eq0.false;
      run = c.run-n.ensures.value;
      few = c.run-n.ensures.within;
      reads = c.messages.ensures;
    } in
    rw (← c.self.view_is) (ok-does old new c.args.d c.run-n.result c.args.most c.messages.result c.in-Ok.messages c.in-Ok.is t refl refl refl)

pub returns-in-Ok-clause-front : goal.returns-in-Ok-clause-front
returns-in-Ok-clause-front g c =
    let old : CoreState = record { sources = c.self.inside.sources; sinks = seen_in c.self.inside.sinks; stores = c.self.inside.stores; calls = c.self.inside.calls } in
    let t : FrontTurn old c.messages.new.self c.args.d c.run-n.result c.args.most c.messages.result = record {
      sink = c.at-sink.result.now.seen;
      buffer = c.in-Some.buffer;
      there = seen-there c.self.inside.sinks c.args.d c.at-sink.result.now c.at-sink.ensures;
      has = sym (ap (λ (x : DestSetup). x.buffer) c.setup.ensures) ∙ c.in-Some.is;
      works = sym c.is_broken.ensures ∙ c.if-is_broken.false;
      some = not-zero c.spooled.result (length c.at-sink.result.now.seen.lengths) c.spooled.ensures c.if-spooled-eq0.false;
      run = c.run-n.ensures.value;
      few = c.run-n.ensures.within;
      reads = c.messages.ensures;
    } in
    rw (← c.self.view_is) (ok-front old c.messages.new.self c.args.d c.run-n.result c.args.most c.taken-place.result c.messages.result c.in-Ok.messages c.in-Ok.is t c.taken-place.ensures)

pub returns-in-Ok-clause-shows : goal.returns-in-Ok-clause-shows
returns-in-Ok-clause-shows g c =
    let old : CoreState = record { sources = c.self.inside.sources; sinks = seen_in c.self.inside.sinks; stores = c.self.inside.stores; calls = c.self.inside.calls } in
    let t : FrontTurn old c.messages.new.self c.args.d c.run-n.result c.args.most c.messages.result = record {
      sink = c.at-sink.result.now.seen;
      buffer = c.in-Some.buffer;
      there = seen-there c.self.inside.sinks c.args.d c.at-sink.result.now c.at-sink.ensures;
      has = sym (ap (λ (x : DestSetup). x.buffer) c.setup.ensures) ∙ c.in-Some.is;
      works = sym c.is_broken.ensures ∙ c.if-is_broken.false;
      some = not-zero c.spooled.result (length c.at-sink.result.now.seen.lengths) c.spooled.ensures c.if-spooled-eq0.false;
      run = c.run-n.ensures.value;
      few = c.run-n.ensures.within;
      reads = c.messages.ensures;
    } in
    rw (← c.self.view_is) (ok-shows old c.messages.new.self c.args.d c.run-n.result c.args.most c.taken-place.result c.messages.result c.in-Ok.messages c.in-Ok.is t)

pub returns-in-Ok-clause-queue : goal.returns-in-Ok-clause-queue
returns-in-Ok-clause-queue g c =
    let old : CoreState = record { sources = c.self.inside.sources; sinks = seen_in c.self.inside.sinks; stores = c.self.inside.stores; calls = c.self.inside.calls } in
    let t : FrontTurn old c.messages.new.self c.args.d c.run-n.result c.args.most c.messages.result = record {
      sink = c.at-sink.result.now.seen;
      buffer = c.in-Some.buffer;
      there = seen-there c.self.inside.sinks c.args.d c.at-sink.result.now c.at-sink.ensures;
      has = sym (ap (λ (x : DestSetup). x.buffer) c.setup.ensures) ∙ c.in-Some.is;
      works = sym c.is_broken.ensures ∙ c.if-is_broken.false;
      some = not-zero c.spooled.result (length c.at-sink.result.now.seen.lengths) c.spooled.ensures c.if-spooled-eq0.false;
      run = c.run-n.ensures.value;
      few = c.run-n.ensures.within;
      reads = c.messages.ensures;
    } in
    rw (← c.self.view_is) (λ none. absurd (no-queue old c.messages.new.self c.args.d c.run-n.result c.args.most c.messages.result t none))

pub returns-in-Err-NoMemory-clause-queue : goal.returns-in-Err-NoMemory-clause-queue
returns-in-Err-NoMemory-clause-queue g c =
    let old : CoreState = record { sources = c.self.inside.sources; sinks = seen_in c.self.inside.sinks; stores = c.self.inside.stores; calls = c.self.inside.calls } in
    let t : FrontTurn old c.messages.new.self c.args.d c.run-n.result c.args.most c.messages.result = record {
      sink = c.at-sink.result.now.seen;
      buffer = c.in-Some.buffer;
      there = seen-there c.self.inside.sinks c.args.d c.at-sink.result.now c.at-sink.ensures;
      has = sym (ap (λ (x : DestSetup). x.buffer) c.setup.ensures) ∙ c.in-Some.is;
      works = sym c.is_broken.ensures ∙ c.if-is_broken.false;
      some = not-zero c.spooled.result (length c.at-sink.result.now.seen.lengths) c.spooled.ensures c.if-spooled-eq0.false;
      run = c.run-n.ensures.value;
      few = c.run-n.ensures.within;
      reads = c.messages.ensures;
    } in
    rw (← c.self.view_is) (λ none. absurd (no-queue old c.messages.new.self c.args.d c.run-n.result c.args.most c.messages.result t none))

pub returns-in-Err-DiskFault-clause-queue : goal.returns-in-Err-DiskFault-clause-queue
returns-in-Err-DiskFault-clause-queue g c =
    let old : CoreState = record { sources = c.self.inside.sources; sinks = seen_in c.self.inside.sinks; stores = c.self.inside.stores; calls = c.self.inside.calls } in
    let t : FrontTurn old c.messages.new.self c.args.d c.run-n.result c.args.most c.messages.result = record {
      sink = c.at-sink.result.now.seen;
      buffer = c.in-Some.buffer;
      there = seen-there c.self.inside.sinks c.args.d c.at-sink.result.now c.at-sink.ensures;
      has = sym (ap (λ (x : DestSetup). x.buffer) c.setup.ensures) ∙ c.in-Some.is;
      works = sym c.is_broken.ensures ∙ c.if-is_broken.false;
      some = not-zero c.spooled.result (length c.at-sink.result.now.seen.lengths) c.spooled.ensures c.if-spooled-eq0.false;
      run = c.run-n.ensures.value;
      few = c.run-n.ensures.within;
      reads = c.messages.ensures;
    } in
    rw (← c.self.view_is) (λ none. absurd (no-queue old c.messages.new.self c.args.d c.run-n.result c.args.most c.messages.result t none))

pub returns-in-Err-NoMemory-clause-does : goal.returns-in-Err-NoMemory-clause-does
returns-in-Err-NoMemory-clause-does g c =
    let old : CoreState = record { sources = c.self.inside.sources; sinks = seen_in c.self.inside.sinks; stores = c.self.inside.stores; calls = c.self.inside.calls } in
    let new : CoreState = record { sources = c.self.inside.sources; sinks = seen_in c.self.inside.sinks; stores = c.messages.new.self; calls = c.self.inside.calls + 1 } in
    let t : FrontTurn old c.messages.new.self c.args.d c.run-n.result c.args.most c.messages.result = record {
      sink = c.at-sink.result.now.seen;
      buffer = c.in-Some.buffer;
      there = seen-there c.self.inside.sinks c.args.d c.at-sink.result.now c.at-sink.ensures;
      has = sym (ap (λ (x : DestSetup). x.buffer) c.setup.ensures) ∙ c.in-Some.is;
      works = sym c.is_broken.ensures ∙ c.if-is_broken.false;
      some = not-zero c.spooled.result (length c.at-sink.result.now.seen.lengths) c.spooled.ensures c.if-spooled-eq0.false;
      run = c.run-n.ensures.value;
      few = c.run-n.ensures.within;
      reads = c.messages.ensures;
    } in
    rw (← c.self.view_is) (memory-does old new c.args.d c.run-n.result c.args.most c.messages.result (c.in-Err-NoMemory.is ∙ ap Err c.in-Err-NoMemory.field-0-is) t refl refl refl)

pub returns-in-Err-DiskFault-clause-does : goal.returns-in-Err-DiskFault-clause-does
returns-in-Err-DiskFault-clause-does g c =
    let old : CoreState = record { sources = c.self.inside.sources; sinks = seen_in c.self.inside.sinks; stores = c.self.inside.stores; calls = c.self.inside.calls } in
    let new : CoreState = record { sources = c.self.inside.sources; sinks = seen_in c.break_at.new.sinks; stores = c.messages.new.self; calls = c.self.inside.calls + 1 } in
    let t : FrontTurn old c.messages.new.self c.args.d c.run-n.result c.args.most c.messages.result = record {
      sink = c.at-sink.result.now.seen;
      buffer = c.in-Some.buffer;
      there = seen-there c.self.inside.sinks c.args.d c.at-sink.result.now c.at-sink.ensures;
      has = sym (ap (λ (x : DestSetup). x.buffer) c.setup.ensures) ∙ c.in-Some.is;
      works = sym c.is_broken.ensures ∙ c.if-is_broken.false;
      some = not-zero c.spooled.result (length c.at-sink.result.now.seen.lengths) c.spooled.ensures c.if-spooled-eq0.false;
      run = c.run-n.ensures.value;
      few = c.run-n.ensures.within;
      reads = c.messages.ensures;
    } in
    rw (← c.self.view_is) (fault-does old new c.args.d c.run-n.result c.args.most c.messages.result c.self.invariant (c.in-Err-DiskFault.is ∙ ap Err c.in-Err-DiskFault.field-0-is) t refl c.break_at.ensures refl)

pub returns-in-Err-DiskFault-clause-front : goal.returns-in-Err-DiskFault-clause-front
returns-in-Err-DiskFault-clause-front g c =
    let old : CoreState = record { sources = c.self.inside.sources; sinks = seen_in c.self.inside.sinks; stores = c.self.inside.stores; calls = c.self.inside.calls } in
    let t : FrontTurn old c.messages.new.self c.args.d c.run-n.result c.args.most c.messages.result = record {
      sink = c.at-sink.result.now.seen;
      buffer = c.in-Some.buffer;
      there = seen-there c.self.inside.sinks c.args.d c.at-sink.result.now c.at-sink.ensures;
      has = sym (ap (λ (x : DestSetup). x.buffer) c.setup.ensures) ∙ c.in-Some.is;
      works = sym c.is_broken.ensures ∙ c.if-is_broken.false;
      some = not-zero c.spooled.result (length c.at-sink.result.now.seen.lengths) c.spooled.ensures c.if-spooled-eq0.false;
      run = c.run-n.ensures.value;
      few = c.run-n.ensures.within;
      reads = c.messages.ensures;
    } in
    rw (← c.self.view_is) (fault-front old c.messages.new.self (seen_in c.break_at.new.sinks) c.args.d c.run-n.result c.args.most c.messages.result t c.break_at.ensures)

pub returns-in-Err-DiskFault-clause-unbroken : goal.returns-in-Err-DiskFault-clause-unbroken
returns-in-Err-DiskFault-clause-unbroken g c =
    let old : CoreState = record { sources = c.self.inside.sources; sinks = seen_in c.self.inside.sinks; stores = c.self.inside.stores; calls = c.self.inside.calls } in
    let t : FrontTurn old c.messages.new.self c.args.d c.run-n.result c.args.most c.messages.result = record {
      sink = c.at-sink.result.now.seen;
      buffer = c.in-Some.buffer;
      there = seen-there c.self.inside.sinks c.args.d c.at-sink.result.now c.at-sink.ensures;
      has = sym (ap (λ (x : DestSetup). x.buffer) c.setup.ensures) ∙ c.in-Some.is;
      works = sym c.is_broken.ensures ∙ c.if-is_broken.false;
      some = not-zero c.spooled.result (length c.at-sink.result.now.seen.lengths) c.spooled.ensures c.if-spooled-eq0.false;
      run = c.run-n.ensures.value;
      few = c.run-n.ensures.within;
      reads = c.messages.ensures;
    } in
    rw (← c.self.view_is) (λ none. absurd (no-queue old c.messages.new.self c.args.d c.run-n.result c.args.most c.messages.result t none))
