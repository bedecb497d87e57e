use Rattle.sg_filter.proofs.Truths.{filters-hold}
use Rattle.sg_filter.proofs.laws.filters_hold.Goals as goal

pub returns : goal.returns
returns c = filters-hold
