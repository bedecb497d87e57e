use Rattle.std.proofs.Common.{subst}
use Rattle.sg_rewrite.specs.Changes.{HasPattern}
use Rattle.sg_table.proofs.Patterned.{op-valid, refused-op}
use Rattle.sg_table.proofs.making.make_rewrite.Goals as goal

pub returns-in-Err-clause-makes : goal.returns-in-Err-clause-makes
returns-in-Err-clause-makes g c =
    refused-op (g.B.Machine.state c.args.builder.now) (g.B.Machine.state c.new.new.builder) c.args.op.now c.in-Err.refusal c.from.result c.from.ensures c.in-Err.ensures.refused

pub returns-in-Ok-clause-makes : goal.returns-in-Ok-clause-makes
returns-in-Ok-clause-makes g c = (op-valid c.args.op.now (subst HasPattern c.in-Ok.ensures.ok c.in-Ok.ensures.valid), c.in-Ok.ensures.stays)
