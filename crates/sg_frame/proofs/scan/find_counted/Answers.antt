use Rattle.std.proofs.Common.{◌+◌, refl, arith}
use Rattle.sg_frame.proofs.CountLemmas.{counted_item, counted_open}
use Rattle.sg_frame.proofs.ScanLemmas.{not_scanned}
use Rattle.sg_frame.proofs.scan.find_counted.Goals as goal

-- src/scan.rt:116:17
pub returns-then-bytes-from : goal.returns-then-bytes-from
returns-then-bytes-from c =
    (counted_open c.args.limit c.args.bytes.now c.in-Read.count c.in-Read.from c.in-Read.ensures c.if-bytes-from.true, not_scanned c.args.limit c.args.bytes.now)

-- src/scan.rt:108:1
pub returns-else-bytes-from : goal.returns-else-bytes-from
returns-else-bytes-from c =
    let some = c.in-Read.ensures.some in
    counted_item c.args.limit c.args.bytes.now c.in-Read.count c.in-Read.from (c.in-Read.from + c.in-Read.count) _ c.in-Read.ensures c.if-bytes-from.false refl (omega arith)
