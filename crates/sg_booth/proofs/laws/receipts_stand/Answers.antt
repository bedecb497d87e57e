use Rattle.sg_booth.proofs.Receipts.{receipts}
use Rattle.sg_booth.proofs.laws.receipts_stand.Goals as goal

pub returns : goal.returns
returns g c = receipts g.V.Office.step
