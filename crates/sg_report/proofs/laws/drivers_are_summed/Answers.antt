use Rattle.sg_report.proofs.SumLemmas.{sums-up}
use Rattle.sg_report.proofs.laws.drivers_are_summed.Goals as goal

pub returns : goal.returns
returns c = sums-up
