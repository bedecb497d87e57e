use Rattle.std.proofs.Common.{◌≡◌, ◌∙◌, sym, ap, slice_get, subst, true}
use Rattle.sg_list.proofs.ListLemmas.{some-same}
use Rattle.sg_machine.proofs.MoveLemmas.{change-self}
use Rattle.sg_offers.specs.Rooms.{seen_in}
use Rattle.sg_sinks.specs.Moving.{moved_first}
use Rattle.sg_standing.specs.Sources.{CanAck, acks}
use Rattle.sg_core.specs.Parts.{moved_some}
use Rattle.sg_core.proofs.PartLemmas.{turn, turn-seen, turn-after, first-dropped, moved-more, moved-zero, some-is, none-taken, sink-there, moves-wait, move-turn}
use Rattle.sg_core.proofs.parts.move_waiting.Goals as goal

pub loop-k-init : goal.loop-k-init
loop-k-init c =
    let s = sink-there (seen_in c.args.sinks.now) c.args.d c.args.n (moves-wait c.args.buffer (slice_get (seen_in c.args.sinks.now) c.args.d) c.args.n c.requires.moves) in
    (sym (change-self (seen_in c.args.sinks.now) c.args.d (moved_some 0) s.0 s.1 (moved-zero s.0)), none-taken (seen_in c.args.sinks.now) c.args.d c.args.sources.now)

pub at_mut-requires : goal.at_mut-requires
at_mut-requires c = (turn c.args.sinks.now c.loop-k.sinks c.args.sources.now c.loop-k.sources c.args.d c.args.n c.loop-k.k moved_some (moves-wait c.args.buffer (slice_get (seen_in c.args.sinks.now) c.args.d) c.args.n c.requires.moves) c.requires.acks c.loop-k-test.true c.loop-k.invariant.0 c.loop-k.invariant.1).below

pub move_waiting-entry-requires : goal.move_waiting-entry-requires
move_waiting-entry-requires c =
    let t = turn c.args.sinks.now c.loop-k.sinks c.args.sources.now c.loop-k.sources c.args.d c.args.n c.loop-k.k moved_some (moves-wait c.args.buffer (slice_get (seen_in c.args.sinks.now) c.args.d) c.args.n c.requires.moves) c.requires.acks c.loop-k-test.true c.loop-k.invariant.0 c.loop-k.invariant.1 in
    let seen = turn-seen c.args.sinks.now c.loop-k.sinks c.args.d c.loop-k.k moved_some t.sink c.at_mut.result.now t.there c.loop-k.invariant.0 c.at_mut.ensures.value in
    let m = move-turn c.args.buffer (seen_in c.args.sinks.now) c.args.d c.args.n c.loop-k.k t.sink c.at_mut.result.now.seen t.e c.requires.moves t.there t.next c.loop-k-test.true seen in
    record {
      buffer = m.has;
      waits = some-is (slice_get c.at_mut.result.now.seen.entries 0) t.e (ap (λ k. slice_get k.entries 0) seen ∙ first-dropped c.loop-k.k t.sink.entries t.e t.next);
      fits = m.fits;
    }

pub acknowledge-requires : goal.acknowledge-requires
acknowledge-requires c =
    let t = turn c.args.sinks.now c.loop-k.sinks c.args.sources.now c.loop-k.sources c.args.d c.args.n c.loop-k.k moved_some (moves-wait c.args.buffer (slice_get (seen_in c.args.sinks.now) c.args.d) c.args.n c.requires.moves) c.requires.acks c.loop-k-test.true c.loop-k.invariant.0 c.loop-k.invariant.1 in
    let seen = turn-seen c.args.sinks.now c.loop-k.sinks c.args.d c.loop-k.k moved_some t.sink c.at_mut.result.now t.there c.loop-k.invariant.0 c.at_mut.ensures.value in
    let same = some-same t.e c.move_waiting-entry.result (sym (first-dropped c.loop-k.k t.sink.entries t.e t.next) ∙ ap (λ k. slice_get k.entries 0) (sym seen) ∙ c.move_waiting-entry.ensures.entry) in
    subst (λ e. e.flow ≡ true → CanAck (slice_get c.loop-k.sources e.inlet) e.number) same t.can

pub loop-k-preserved : goal.loop-k-preserved
loop-k-preserved c =
    let t = turn c.args.sinks.now c.loop-k.sinks c.args.sources.now c.loop-k.sources c.args.d c.args.n c.loop-k.k moved_some (moves-wait c.args.buffer (slice_get (seen_in c.args.sinks.now) c.args.d) c.args.n c.requires.moves) c.requires.acks c.loop-k-test.true c.loop-k.invariant.0 c.loop-k.invariant.1 in
    let seen = turn-seen c.args.sinks.now c.loop-k.sinks c.args.d c.loop-k.k moved_some t.sink c.at_mut.result.now t.there c.loop-k.invariant.0 c.at_mut.ensures.value in
    let same = some-same t.e c.move_waiting-entry.result (sym (first-dropped c.loop-k.k t.sink.entries t.e t.next) ∙ ap (λ k. slice_get k.entries 0) (sym seen) ∙ c.move_waiting-entry.ensures.entry) in (
      turn-after c.args.sinks.now c.loop-k.sinks c.args.d c.loop-k.k moved_some moved_first t.sink c.at_mut.result.now c.move_waiting-entry.new.self t.there c.loop-k.invariant.0 c.at_mut.ensures.value c.move_waiting-entry.ensures.seen (moved-more c.loop-k.k t.sink t.e t.next),
      c.acknowledge.ensures ∙ ap (λ e. acks c.loop-k.sources e) (sym same) ∙ sym t.after,
    )
