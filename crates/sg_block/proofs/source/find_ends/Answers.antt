use Rattle.std.proofs.Common.{◌-◌, arith}
use Rattle.sg_block.proofs.Closing.{ends-more}
use Rattle.sg_block.proofs.source.find_ends.Goals as goal

pub loop-place-preserved : goal.loop-place-preserved
loop-place-preserved c =
    let place = c.loop-place.place - 1 in
    record {
      within = omega arith;
      ends = ends-more c.args.tokens.now c.loop-place.ends.items place c.loop-place.place c.end_at.result (omega arith) (omega arith) c.loop-place.invariant.ends c.end_at.ensures;
    }
