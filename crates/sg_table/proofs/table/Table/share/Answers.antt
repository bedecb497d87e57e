use Rattle.std.proofs.Common.{sym, subst}
use Rattle.sg_table.specs.Table.{IsPipeTable}
use Rattle.sg_table.proofs.Sharing.{same-table}
use Rattle.sg_table.proofs.table.Table.share.Goals as goal

pub invariant_of-result : goal.invariant_of-result
invariant_of-result c = record {
  in_order = same-table c.deref-4.result.now c.in_ok-shared_pipes.field-0.items c.in_ok-shared_pipes.ensures (subst IsPipeTable (sym c.deref-4.ensures.value) c.args.self.now.in_order);
}
