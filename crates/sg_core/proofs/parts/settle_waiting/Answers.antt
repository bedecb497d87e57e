use Rattle.std.proofs.Common.{◌≡◌, ◌∙◌, sym, ap, slice_get, subst, true}
use Rattle.sg_list.proofs.ListLemmas.{some-same}
use Rattle.sg_machine.proofs.MoveLemmas.{change-self}
use Rattle.sg_offers.specs.Rooms.{seen_in}
use Rattle.sg_sinks.specs.Settling.{settled_waiting}
use Rattle.sg_standing.specs.Sources.{CanAck, acks}
use Rattle.sg_core.specs.Parts.{settled_waiting_some}
use Rattle.sg_core.proofs.PartLemmas.{turn, turn-seen, turn-after, first-dropped, waiting-more, waiting-zero, some-is, none-taken, sink-there}
use Rattle.sg_core.proofs.parts.settle_waiting.Goals as goal

pub loop-k-init : goal.loop-k-init
loop-k-init c =
    let s = sink-there (seen_in c.args.sinks.now) c.args.d c.args.n c.requires.waits in
    (sym (change-self (seen_in c.args.sinks.now) c.args.d (settled_waiting_some 0) s.0 s.1 (waiting-zero s.0)), none-taken (seen_in c.args.sinks.now) c.args.d c.args.sources.now)

pub at_mut-requires : goal.at_mut-requires
at_mut-requires c = (turn c.args.sinks.now c.loop-k.sinks c.args.sources.now c.loop-k.sources c.args.d c.args.n c.loop-k.k settled_waiting_some c.requires.waits c.requires.acks c.loop-k-test.true c.loop-k.invariant.0 c.loop-k.invariant.1).below

pub settle_waiting-entry-requires : goal.settle_waiting-entry-requires
settle_waiting-entry-requires c =
    let t = turn c.args.sinks.now c.loop-k.sinks c.args.sources.now c.loop-k.sources c.args.d c.args.n c.loop-k.k settled_waiting_some c.requires.waits c.requires.acks c.loop-k-test.true c.loop-k.invariant.0 c.loop-k.invariant.1 in
    let seen = turn-seen c.args.sinks.now c.loop-k.sinks c.args.d c.loop-k.k settled_waiting_some t.sink c.at_mut.result.now t.there c.loop-k.invariant.0 c.at_mut.ensures.value in
    record { waits = some-is (slice_get c.at_mut.result.now.seen.entries 0) t.e (ap (λ k. slice_get k.entries 0) seen ∙ first-dropped c.loop-k.k t.sink.entries t.e t.next) }

pub acknowledge-requires : goal.acknowledge-requires
acknowledge-requires c =
    let t = turn c.args.sinks.now c.loop-k.sinks c.args.sources.now c.loop-k.sources c.args.d c.args.n c.loop-k.k settled_waiting_some c.requires.waits c.requires.acks c.loop-k-test.true c.loop-k.invariant.0 c.loop-k.invariant.1 in
    let seen = turn-seen c.args.sinks.now c.loop-k.sinks c.args.d c.loop-k.k settled_waiting_some t.sink c.at_mut.result.now t.there c.loop-k.invariant.0 c.at_mut.ensures.value in
    let same = some-same t.e c.settle_waiting-entry.result (sym (first-dropped c.loop-k.k t.sink.entries t.e t.next) ∙ ap (λ k. slice_get k.entries 0) (sym seen) ∙ c.settle_waiting-entry.ensures.entry) in
    subst (λ e. e.flow ≡ true → CanAck (slice_get c.loop-k.sources e.inlet) e.number) same t.can

pub loop-k-preserved : goal.loop-k-preserved
loop-k-preserved c =
    let t = turn c.args.sinks.now c.loop-k.sinks c.args.sources.now c.loop-k.sources c.args.d c.args.n c.loop-k.k settled_waiting_some c.requires.waits c.requires.acks c.loop-k-test.true c.loop-k.invariant.0 c.loop-k.invariant.1 in
    let seen = turn-seen c.args.sinks.now c.loop-k.sinks c.args.d c.loop-k.k settled_waiting_some t.sink c.at_mut.result.now t.there c.loop-k.invariant.0 c.at_mut.ensures.value in
    let same = some-same t.e c.settle_waiting-entry.result (sym (first-dropped c.loop-k.k t.sink.entries t.e t.next) ∙ ap (λ k. slice_get k.entries 0) (sym seen) ∙ c.settle_waiting-entry.ensures.entry) in (
      turn-after c.args.sinks.now c.loop-k.sinks c.args.d c.loop-k.k settled_waiting_some settled_waiting t.sink c.at_mut.result.now c.settle_waiting-entry.new.self t.there c.loop-k.invariant.0 c.at_mut.ensures.value c.settle_waiting-entry.ensures.seen (waiting-more c.loop-k.k t.sink),
      c.acknowledge.ensures ∙ ap (λ e. acks c.loop-k.sources e) (sym same) ∙ sym t.after,
    )
