use Rattle.std.proofs.Common.{◌∙◌, ◌+◌, ap, refl, sym, subst, false, true}
use Rattle.sg_machine.specs.declared.event.Act.TheVariants.{Look, Refill}
use Rattle.sg_machine.specs.declared.setup.DestSetup.{DestSetup}
use Rattle.sg_offers.specs.Rooms.{seen_in}
use Rattle.sg_sinks.specs.States.{with_broken}
use Rattle.sg_counter.specs.declared.answers.Refill.TheVariants.{Moved, NoneWaits, NoRoom, Broken}
use Rattle.sg_standing.specs.Sources.{acks_all}
use Rattle.sg_standing.specs.States.{CoreState}
use Rattle.sg_core.specs.Parts.{moved_some}
use Rattle.sg_core.specs.Steps.{AppendsAt}
use Rattle.sg_core.proofs.AtSteps.{quiet-look}
use Rattle.sg_core.proofs.RefillCalls.{RefillParts, refill-does, unfilled-does, refill-acks}
use Rattle.sg_core.proofs.RefillTurn.{refills-none, refills-some, no-buffer, none-entries, some-entries, fit-few, some-fit, store-there, small-there, can-move, entries-there, acks-there, changed-there}
use Rattle.sg_core.proofs.Whole.{whole-still}
use Rattle.sg_offers.proofs.ItemLemmas.{seen-there}
use Rattle.sg_core.proofs.flow.Core.refill.Goals as goal

pub returns-in_default-clause-does : goal.returns-in_default-clause-does
returns-in_default-clause-does g c =
    rw (← c.self.view_is) (quiet-look _ _ refl refl refl refl)

pub returns-then-is_broken-clause-does : goal.returns-then-is_broken-clause-does
returns-then-is_broken-clause-does g c =
    rw (← c.self.view_is) (quiet-look _ _ refl refl refl refl)

pub returns-then-waiting-eq0-clause-does : goal.returns-then-waiting-eq0-clause-does
returns-then-waiting-eq0-clause-does g c =
    rw (← c.self.view_is) (quiet-look _ _ refl refl refl refl)

pub returns-then-n-eq0-clause-does : goal.returns-then-n-eq0-clause-does
returns-then-n-eq0-clause-does g c =
    rw (← c.self.view_is) (quiet-look _ _ refl refl refl refl)

pub returns-in_default-clause-answer : goal.returns-in_default-clause-answer
returns-in_default-clause-answer g c =
    let there = seen-there c.self.inside.sinks c.args.d c.at-sink.result.now c.at-sink.ensures in
    let has = sym (ap (λ (x : DestSetup). x.buffer) c.setup.ensures) ∙ c.in_default.is in
    rw (← c.self.view_is) (refills-none (seen_in c.self.inside.sinks) c.args.d c.at-sink.result.now.seen there has)

pub returns-then-is_broken-clause-answer : goal.returns-then-is_broken-clause-answer
returns-then-is_broken-clause-answer g c =
    let there = seen-there c.self.inside.sinks c.args.d c.at-sink.result.now c.at-sink.ensures in
    let has = sym (ap (λ (x : DestSetup). x.buffer) c.setup.ensures) ∙ c.in-Some.is in
    rw (← c.self.view_is) (refills-some (seen_in c.self.inside.sinks) (seen_in c.self.inside.sinks) c.args.d c.at-sink.result.now.seen c.at-sink.result.now.seen c.in-Some.buffer Broken there there has (sym c.is_broken.ensures ∙ c.if-is_broken.true))

pub returns-then-waiting-eq0-clause-answer : goal.returns-then-waiting-eq0-clause-answer
returns-then-waiting-eq0-clause-answer g c =
    let there = seen-there c.self.inside.sinks c.args.d c.at-sink.result.now c.at-sink.ensures in
    let has = sym (ap (λ (x : DestSetup). x.buffer) c.setup.ensures) ∙ c.in-Some.is in
    rw (← c.self.view_is) (refills-some (seen_in c.self.inside.sinks) (seen_in c.self.inside.sinks) c.args.d c.at-sink.result.now.seen c.at-sink.result.now.seen c.in-Some.buffer NoneWaits there there has (sym c.is_broken.ensures ∙ c.if-is_broken.false, none-entries c.at-sink.result.now.seen.entries c.waiting.result c.waiting.ensures c.if-waiting-eq0.true, refl))

pub returns-then-n-eq0-clause-answer : goal.returns-then-n-eq0-clause-answer
returns-then-n-eq0-clause-answer g c =
    let there = seen-there c.self.inside.sinks c.args.d c.at-sink.result.now c.at-sink.ensures in
    let has = sym (ap (λ (x : DestSetup). x.buffer) c.setup.ensures) ∙ c.in-Some.is in
    rw (← c.self.view_is) (refills-some (seen_in c.self.inside.sinks) (seen_in c.self.inside.sinks) c.args.d c.at-sink.result.now.seen c.at-sink.result.now.seen c.in-Some.buffer NoRoom there there has (sym c.is_broken.ensures ∙ c.if-is_broken.false, some-entries c.at-sink.result.now.seen.entries c.waiting.result c.waiting.ensures c.if-waiting-eq0.false, sym c.fitting-n.ensures.value ∙ c.if-n-eq0.true, refl))

pub returns-then-is_broken-clause-none : goal.returns-then-is_broken-clause-none
returns-then-is_broken-clause-none g c =
    let there = seen-there c.self.inside.sinks c.args.d c.at-sink.result.now c.at-sink.ensures in
    let has = sym (ap (λ (x : DestSetup). x.buffer) c.setup.ensures) ∙ c.in-Some.is in
    rw (← c.self.view_is) (λ none. absurd (no-buffer (seen_in c.self.inside.sinks) c.args.d c.at-sink.result.now.seen c.in-Some.buffer there has none))

pub returns-then-n-eq0-clause-none : goal.returns-then-n-eq0-clause-none
returns-then-n-eq0-clause-none g c =
    let there = seen-there c.self.inside.sinks c.args.d c.at-sink.result.now c.at-sink.ensures in
    let has = sym (ap (λ (x : DestSetup). x.buffer) c.setup.ensures) ∙ c.in-Some.is in
    rw (← c.self.view_is) (λ none. absurd (no-buffer (seen_in c.self.inside.sinks) c.args.d c.at-sink.result.now.seen c.in-Some.buffer there has none))

pub returns-then-not-spool_waiting-clause-none : goal.returns-then-not-spool_waiting-clause-none
returns-then-not-spool_waiting-clause-none g c =
    let there = seen-there c.self.inside.sinks c.args.d c.at-sink.result.now c.at-sink.ensures in
    let has = sym (ap (λ (x : DestSetup). x.buffer) c.setup.ensures) ∙ c.in-Some.is in
    rw (← c.self.view_is) (λ none. absurd (no-buffer (seen_in c.self.inside.sinks) c.args.d c.at-sink.result.now.seen c.in-Some.buffer there has none))

pub returns-then-not-spool_waiting-clause-queue : goal.returns-then-not-spool_waiting-clause-queue
returns-then-not-spool_waiting-clause-queue g c =
    let there = seen-there c.self.inside.sinks c.args.d c.at-sink.result.now c.at-sink.ensures in
    let has = sym (ap (λ (x : DestSetup). x.buffer) c.setup.ensures) ∙ c.in-Some.is in
    rw (← c.self.view_is) (λ none. absurd (no-buffer (seen_in c.self.inside.sinks) c.args.d c.at-sink.result.now.seen c.in-Some.buffer there has none))

pub returns-clause-none : goal.returns-clause-none
returns-clause-none g c =
    let there = seen-there c.self.inside.sinks c.args.d c.at-sink.result.now c.at-sink.ensures in
    let has = sym (ap (λ (x : DestSetup). x.buffer) c.setup.ensures) ∙ c.in-Some.is in
    rw (← c.self.view_is) (λ none. absurd (no-buffer (seen_in c.self.inside.sinks) c.args.d c.at-sink.result.now.seen c.in-Some.buffer there has none))

pub returns-clause-queue : goal.returns-clause-queue
returns-clause-queue g c =
    let there = seen-there c.self.inside.sinks c.args.d c.at-sink.result.now c.at-sink.ensures in
    let has = sym (ap (λ (x : DestSetup). x.buffer) c.setup.ensures) ∙ c.in-Some.is in
    rw (← c.self.view_is) (λ none. absurd (no-buffer (seen_in c.self.inside.sinks) c.args.d c.at-sink.result.now.seen c.in-Some.buffer there has none))

pub spool_waiting-requires : goal.spool_waiting-requires
spool_waiting-requires g c =
    let there = seen-there c.self.inside.sinks c.args.d c.at-sink.result.now c.at-sink.ensures in
    let has = sym (ap (λ (x : DestSetup). x.buffer) c.setup.ensures) ∙ c.in-Some.is in
    store-there _ c.self.invariant.state c.args.d c.at-sink.result.now.seen c.in-Some.buffer c.self.invariant.at there has

pub invariant_of-self-then-not-spool_waiting : goal.invariant_of-self-then-not-spool_waiting
invariant_of-self-then-not-spool_waiting g c =
    let old : CoreState = record { sources = c.self.inside.sources; sinks = seen_in c.self.inside.sinks; stores = c.self.inside.stores; calls = c.self.inside.calls } in
    let new : CoreState = record { sources = c.self.inside.sources; sinks = seen_in c.break_at.new.sinks; stores = c.spool_waiting.new.stores; calls = c.self.inside.calls + 1 } in
    let there = seen-there c.self.inside.sinks c.args.d c.at-sink.result.now c.at-sink.ensures in
    let has = sym (ap (λ (x : DestSetup). x.buffer) c.setup.ensures) ∙ c.in-Some.is in
    let t : RefillParts old c.spool_waiting.new.stores c.args.d c.fitting-n.result false = record {
      sink = c.at-sink.result.now.seen;
      buffer = c.in-Some.buffer;
      there = there;
      has = has;
      works = sym c.is_broken.ensures ∙ c.if-is_broken.false;
      small = small-there old c.self.invariant c.args.d c.at-sink.result.now.seen c.in-Some.buffer there has;
      some = some-fit c.fitting-n.result c.if-n-eq0.false;
      most = c.fitting-n.ensures.few;
      few = fit-few c.fitting-n.result _ _ c.at-sink.result.now.seen.entries c.fitting-n.ensures.fits;
      fits = c.fitting-n.ensures.fits;
      appends = subst (λ w. AppendsAt c.self.inside.stores c.spool_waiting.new.stores c.in-Some.buffer.store c.at-sink.result.now.seen.blocks c.fitting-n.result w) c.if-not-spool_waiting.true c.spool_waiting.ensures;
    } in
    whole-still old new Look c.self.invariant (unfilled-does old new c.args.d c.fitting-n.result c.self.invariant t refl c.break_at.ensures refl)

pub returns-then-not-spool_waiting-clause-does : goal.returns-then-not-spool_waiting-clause-does
returns-then-not-spool_waiting-clause-does g c =
    let old : CoreState = record { sources = c.self.inside.sources; sinks = seen_in c.self.inside.sinks; stores = c.self.inside.stores; calls = c.self.inside.calls } in
    let new : CoreState = record { sources = c.self.inside.sources; sinks = seen_in c.break_at.new.sinks; stores = c.spool_waiting.new.stores; calls = c.self.inside.calls + 1 } in
    let there = seen-there c.self.inside.sinks c.args.d c.at-sink.result.now c.at-sink.ensures in
    let has = sym (ap (λ (x : DestSetup). x.buffer) c.setup.ensures) ∙ c.in-Some.is in
    let t : RefillParts old c.spool_waiting.new.stores c.args.d c.fitting-n.result false = record {
      sink = c.at-sink.result.now.seen;
      buffer = c.in-Some.buffer;
      there = there;
      has = has;
      works = sym c.is_broken.ensures ∙ c.if-is_broken.false;
      small = small-there old c.self.invariant c.args.d c.at-sink.result.now.seen c.in-Some.buffer there has;
      some = some-fit c.fitting-n.result c.if-n-eq0.false;
      most = c.fitting-n.ensures.few;
      few = fit-few c.fitting-n.result _ _ c.at-sink.result.now.seen.entries c.fitting-n.ensures.fits;
      fits = c.fitting-n.ensures.fits;
      appends = subst (λ w. AppendsAt c.self.inside.stores c.spool_waiting.new.stores c.in-Some.buffer.store c.at-sink.result.now.seen.blocks c.fitting-n.result w) c.if-not-spool_waiting.true c.spool_waiting.ensures;
    } in
    rw (← c.self.view_is) (unfilled-does old new c.args.d c.fitting-n.result c.self.invariant t refl c.break_at.ensures refl)

pub returns-then-not-spool_waiting-clause-answer : goal.returns-then-not-spool_waiting-clause-answer
returns-then-not-spool_waiting-clause-answer g c =
    let there = seen-there c.self.inside.sinks c.args.d c.at-sink.result.now c.at-sink.ensures in
    let has = sym (ap (λ (x : DestSetup). x.buffer) c.setup.ensures) ∙ c.in-Some.is in
    let get = changed-there (seen_in c.self.inside.sinks) (seen_in c.break_at.new.sinks) c.args.d with_broken c.at-sink.result.now.seen there c.break_at.ensures in
    rw (← c.self.view_is) (refills-some (seen_in c.self.inside.sinks) (seen_in c.break_at.new.sinks) c.args.d c.at-sink.result.now.seen (with_broken c.at-sink.result.now.seen) c.in-Some.buffer Broken there get has refl)

pub move_waiting-requires-clause-moves : goal.move_waiting-requires-clause-moves
move_waiting-requires-clause-moves g c =
    let there = seen-there c.self.inside.sinks c.args.d c.at-sink.result.now c.at-sink.ensures in
    let has = sym (ap (λ (x : DestSetup). x.buffer) c.setup.ensures) ∙ c.in-Some.is in
    can-move (seen_in c.self.inside.sinks) c.args.d c.fitting-n.result c.at-sink.result.now.seen c.in-Some.buffer there has c.fitting-n.ensures.fits

pub move_waiting-requires-clause-acks : goal.move_waiting-requires-clause-acks
move_waiting-requires-clause-acks g c =
    let old : CoreState = record { sources = c.self.inside.sources; sinks = seen_in c.self.inside.sinks; stores = c.self.inside.stores; calls = c.self.inside.calls } in
    let there = seen-there c.self.inside.sinks c.args.d c.at-sink.result.now c.at-sink.ensures in
    let has = sym (ap (λ (x : DestSetup). x.buffer) c.setup.ensures) ∙ c.in-Some.is in
    let t : RefillParts old c.spool_waiting.new.stores c.args.d c.fitting-n.result true = record {
      sink = c.at-sink.result.now.seen;
      buffer = c.in-Some.buffer;
      there = there;
      has = has;
      works = sym c.is_broken.ensures ∙ c.if-is_broken.false;
      small = small-there old c.self.invariant c.args.d c.at-sink.result.now.seen c.in-Some.buffer there has;
      some = some-fit c.fitting-n.result c.if-n-eq0.false;
      most = c.fitting-n.ensures.few;
      few = fit-few c.fitting-n.result _ _ c.at-sink.result.now.seen.entries c.fitting-n.ensures.fits;
      fits = c.fitting-n.ensures.fits;
      appends = subst (λ w. AppendsAt c.self.inside.stores c.spool_waiting.new.stores c.in-Some.buffer.store c.at-sink.result.now.seen.blocks c.fitting-n.result w) c.if-not-spool_waiting.false c.spool_waiting.ensures;
    } in
    acks-there c.self.inside.sources (seen_in c.self.inside.sinks) c.args.d c.fitting-n.result c.at-sink.result.now.seen there (refill-acks old c.spool_waiting.new.stores c.self.invariant.state c.args.d c.fitting-n.result true t c.self.invariant.at)

pub invariant_of-self-2 : goal.invariant_of-self-2
invariant_of-self-2 g c =
    let old : CoreState = record { sources = c.self.inside.sources; sinks = seen_in c.self.inside.sinks; stores = c.self.inside.stores; calls = c.self.inside.calls } in
    let new : CoreState = record { sources = c.move_waiting.new.sources; sinks = seen_in c.move_waiting.new.sinks; stores = c.spool_waiting.new.stores; calls = c.self.inside.calls + 1 } in
    let there = seen-there c.self.inside.sinks c.args.d c.at-sink.result.now c.at-sink.ensures in
    let has = sym (ap (λ (x : DestSetup). x.buffer) c.setup.ensures) ∙ c.in-Some.is in
    let t : RefillParts old c.spool_waiting.new.stores c.args.d c.fitting-n.result true = record {
      sink = c.at-sink.result.now.seen;
      buffer = c.in-Some.buffer;
      there = there;
      has = has;
      works = sym c.is_broken.ensures ∙ c.if-is_broken.false;
      small = small-there old c.self.invariant c.args.d c.at-sink.result.now.seen c.in-Some.buffer there has;
      some = some-fit c.fitting-n.result c.if-n-eq0.false;
      most = c.fitting-n.ensures.few;
      few = fit-few c.fitting-n.result _ _ c.at-sink.result.now.seen.entries c.fitting-n.ensures.fits;
      fits = c.fitting-n.ensures.fits;
      appends = subst (λ w. AppendsAt c.self.inside.stores c.spool_waiting.new.stores c.in-Some.buffer.store c.at-sink.result.now.seen.blocks c.fitting-n.result w) c.if-not-spool_waiting.false c.spool_waiting.ensures;
    } in
    whole-still old new (Refill c.args.d c.fitting-n.result) c.self.invariant (refill-does old new c.args.d c.fitting-n.result t (c.move_waiting.ensures.sources ∙ ap (acks_all c.self.inside.sources) (entries-there (seen_in c.self.inside.sinks) c.args.d c.fitting-n.result c.at-sink.result.now.seen there)) c.move_waiting.ensures.sinks refl)

pub returns-clause-does : goal.returns-clause-does
returns-clause-does g c =
    let old : CoreState = record { sources = c.self.inside.sources; sinks = seen_in c.self.inside.sinks; stores = c.self.inside.stores; calls = c.self.inside.calls } in
    let new : CoreState = record { sources = c.move_waiting.new.sources; sinks = seen_in c.move_waiting.new.sinks; stores = c.spool_waiting.new.stores; calls = c.self.inside.calls + 1 } in
    let there = seen-there c.self.inside.sinks c.args.d c.at-sink.result.now c.at-sink.ensures in
    let has = sym (ap (λ (x : DestSetup). x.buffer) c.setup.ensures) ∙ c.in-Some.is in
    let t : RefillParts old c.spool_waiting.new.stores c.args.d c.fitting-n.result true = record {
      sink = c.at-sink.result.now.seen;
      buffer = c.in-Some.buffer;
      there = there;
      has = has;
      works = sym c.is_broken.ensures ∙ c.if-is_broken.false;
      small = small-there old c.self.invariant c.args.d c.at-sink.result.now.seen c.in-Some.buffer there has;
      some = some-fit c.fitting-n.result c.if-n-eq0.false;
      most = c.fitting-n.ensures.few;
      few = fit-few c.fitting-n.result _ _ c.at-sink.result.now.seen.entries c.fitting-n.ensures.fits;
      fits = c.fitting-n.ensures.fits;
      appends = subst (λ w. AppendsAt c.self.inside.stores c.spool_waiting.new.stores c.in-Some.buffer.store c.at-sink.result.now.seen.blocks c.fitting-n.result w) c.if-not-spool_waiting.false c.spool_waiting.ensures;
    } in
    rw (← c.self.view_is) (refill-does old new c.args.d c.fitting-n.result t (c.move_waiting.ensures.sources ∙ ap (acks_all c.self.inside.sources) (entries-there (seen_in c.self.inside.sinks) c.args.d c.fitting-n.result c.at-sink.result.now.seen there)) c.move_waiting.ensures.sinks refl)

pub returns-clause-answer : goal.returns-clause-answer
returns-clause-answer g c =
    let there = seen-there c.self.inside.sinks c.args.d c.at-sink.result.now c.at-sink.ensures in
    let has = sym (ap (λ (x : DestSetup). x.buffer) c.setup.ensures) ∙ c.in-Some.is in
    let get = changed-there (seen_in c.self.inside.sinks) (seen_in c.move_waiting.new.sinks) c.args.d (moved_some c.fitting-n.result) c.at-sink.result.now.seen there c.move_waiting.ensures.sinks in
    let works = sym c.is_broken.ensures ∙ c.if-is_broken.false in
    let some = some-fit c.fitting-n.result c.if-n-eq0.false in
    rw (← c.self.view_is) (refills-some (seen_in c.self.inside.sinks) (seen_in c.move_waiting.new.sinks) c.args.d c.at-sink.result.now.seen (moved_some c.fitting-n.result c.at-sink.result.now.seen) c.in-Some.buffer (Moved c.fitting-n.result) there get has (works, some, c.fitting-n.ensures.value))
