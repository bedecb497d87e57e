use Rattle.std.proofs.Common.{ap, ◌∙◌, subst, List, sym, min}
use Rattle.sg_queue.specs.declared.entry.Entry.{Entry}
use Rattle.sg_standing.specs.Sources.{acks_all}
use Rattle.sg_core.specs.Parts.{CanAckAll}
use Rattle.sg_core.proofs.SettleParts.{waits-then, entries-then, first-then, size-then}
use Rattle.sg_core.proofs.settles.settle_first.Goals as goal

pub settle_waiting-requires-clause-waits : goal.settle_waiting-requires-clause-waits
settle_waiting-requires-clause-waits c =
    waits-then c.args.sinks.now c.args.d c.args.n c.min-spooled.result c.at_mut-sink.result.now c.settle_spooled-size.new.self c.at_mut-sink.ensures.value c.settle_spooled-size.ensures.seen (c.min-spooled.ensures ∙ ap (λ m. min m c.args.n) c.spooled.ensures) c.requires.waits

pub settle_waiting-requires-clause-acks : goal.settle_waiting-requires-clause-acks
settle_waiting-requires-clause-acks c =
    let same = entries-then c.args.sinks.now c.args.d c.args.n c.min-spooled.result c.at_mut-sink.result.now c.settle_spooled-size.new.self c.at_mut-sink.ensures.value c.settle_spooled-size.ensures.seen (c.min-spooled.ensures ∙ ap (λ m. min m c.args.n) c.spooled.ensures) in
    subst (λ (es : List Entry). CanAckAll c.args.sources.now es) (sym same) c.requires.acks

pub returns-clause-sinks : goal.returns-clause-sinks
returns-clause-sinks c =
    first-then c.args.sinks.now _ c.args.d c.args.n c.min-spooled.result c.at_mut-sink.result.now c.settle_spooled-size.new.self c.at_mut-sink.ensures.value c.settle_spooled-size.ensures.seen (c.min-spooled.ensures ∙ ap (λ m. min m c.args.n) c.spooled.ensures) c.settle_waiting.ensures.sinks

pub returns-clause-sources : goal.returns-clause-sources
returns-clause-sources c =
    let same = entries-then c.args.sinks.now c.args.d c.args.n c.min-spooled.result c.at_mut-sink.result.now c.settle_spooled-size.new.self c.at_mut-sink.ensures.value c.settle_spooled-size.ensures.seen (c.min-spooled.ensures ∙ ap (λ m. min m c.args.n) c.spooled.ensures) in
    c.settle_waiting.ensures.sources ∙ ap (acks_all c.args.sources.now) same

pub returns-clause-size : goal.returns-clause-size
returns-clause-size c =
    size-then c.args.sinks.now c.args.d c.args.n c.min-spooled.result c.settle_spooled-size.result c.at_mut-sink.result.now c.settle_spooled-size.new.self c.at_mut-sink.ensures.value c.settle_spooled-size.ensures.seen (c.min-spooled.ensures ∙ ap (λ m. min m c.args.n) c.spooled.ensures) c.settle_spooled-size.ensures.size
