use Rattle.sg_spool.proofs.Rewriting.{without_last}
use Rattle.sg_spool.proofs.rewrite.written.Goals as goal

pub returns-clause-bytes : goal.returns-clause-bytes
returns-clause-bytes c = without_last c.args.last c.bytes-bytes.result.now c.args.block.now c.if-last.false c.bytes-bytes.ensures.bytes
