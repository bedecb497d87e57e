use Rattle.std.proofs.Common.{◌∙◌, ◌+◌, ap, drop}
use Rattle.sg_sinks.specs.Fitting.{space}
use Rattle.sg_sinks.specs.States.{SinkState}
use Rattle.sg_core.specs.Opening.{recovers, lengths_in}
use Rattle.sg_core.proofs.OpenParts.{recovers-more, space-more}
use Rattle.sg_core.proofs.opening.recover_all.Goals as goal

pub loop-head-preserved : goal.loop-head-preserved
loop-head-preserved c =
    let inv = c.loop-head.invariant in
    let k = c.loop-head.head-index in
    let seen = c.in_ok-recover.ensures.ok in
    record {
      room = c.recover.ensures.room;
      sum = ap (λ (s : SinkState). space s.lengths + space (lengths_in (drop (k + 1) c.args.heads.now))) seen ∙ space-more c.args.heads.now k _ c.loop-head.sink.seen c.loop-head-test.true ∙ inv.sum;
      seen = ap (λ (s : SinkState). recovers s (drop (k + 1) c.args.heads.now)) seen ∙ recovers-more c.args.heads.now k _ c.loop-head.sink.seen c.loop-head-test.true ∙ inv.seen;
    }
