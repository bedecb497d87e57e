use Rattle.std.proofs.Common.{arith}
use Rattle.sg_buffer.proofs.Stored.{stored_short}
use Rattle.sg_buffer.proofs.looking.add.Goals as goal

pub of-head-requires : goal.of-head-requires
of-head-requires c =
    let short = stored_short c.in-Ok.kept c.args.payload.now c.in-Ok.ensures.found c.in-Ok.ensures.exact in
    omega (arith, short, c.requires.limit)
