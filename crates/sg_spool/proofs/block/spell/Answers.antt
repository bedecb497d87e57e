use Rattle.std.proofs.Common.{arith}
use Rattle.sg_spool.specs.Ring.{block_of}
use Rattle.sg_spool.proofs.block.spell.Goals as goal

pub returns : goal.returns
unfolding block_of
returns c = grind (arith, c.in_ok-bytes.ensures.items, c.in_ok-push.ensures.items, c.in_ok-extend_from_slice.ensures.items, c.to_be_bytes-size.ensures)
