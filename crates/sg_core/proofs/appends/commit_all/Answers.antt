use Rattle.std.proofs.Common.{◌≡◌, ◌∙◌, ap, refl, arith, length, true, false}
use Rattle.std.proofs.Math.ListN.{length-set}
use Rattle.sg_offers.specs.Answering.{fails_at}
use Rattle.sg_offers.specs.Payloads.{buffers_of, buffer_at}
use Rattle.sg_offers.specs.Rooms.{seen_in}
use Rattle.sg_core.proofs.AppendSteps.{length-buffers}
use Rattle.sg_core.proofs.CommitSteps.{committing-skip, committing-by, committed-all, fails-item}
use Rattle.sg_core.proofs.appends.commit_all.Goals as goal
use Rattle.sg_core.proofs.appends.commit_all.Goals.{then-staged-d, else-staged-d}

pub loop-d-preserved : goal.loop-d-preserved
loop-d-preserved g c =
    let buffers = buffers_of (seen_in c.args.sinks.now) in
    let d = c.loop-d.d in
    let m = c.loop-d.invariant.len in
    elim c.if-staged-d.branch [
      | then-staged-d w ↦ (
          let mark : fails_at c.loop-d.staged d ≡ true = fails-item c.loop-d.staged d true w.if-staged-d.true in
          record {
            len = ap length w.staged-is ∙ length-set c.loop-d.staged d w.commit_one.result ∙ m;
            committing = rw (w.stores-is, w.staged-is) (committing-by c.args.stores.now c.loop-d.stores w.commit_one.new.stores buffers c.args.staged.now c.loop-d.staged d w.commit_one.result (buffer_at buffers d) c.loop-d.invariant.committing (omega arith) mark c.requires.apart refl w.commit_one.ensures);
          })
      | else-staged-d w ↦ (
          let mark : fails_at c.loop-d.staged d ≡ false = fails-item c.loop-d.staged d false w.if-staged-d.false in
          record {
            len = ap length w.staged-is ∙ m;
            committing = rw (w.stores-is, w.staged-is) (committing-skip c.args.stores.now c.loop-d.stores buffers c.args.staged.now c.loop-d.staged d c.loop-d.invariant.committing mark);
          })
    ]

pub returns : goal.returns
returns g c =
    let n = length-buffers c.args.sinks.now in
    let m = c.loop-d.invariant.len in
    committed-all c.args.stores.now c.loop-d.stores (buffers_of (seen_in c.args.sinks.now)) c.args.staged.now c.loop-d.staged c.loop-d.d c.loop-d.invariant.committing (omega arith) (omega arith)
