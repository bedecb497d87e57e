use Rattle.sg_laws.proofs.FreshLemmas.{new-covered}
use Rattle.sg_laws.proofs.covering.new_stores_are_covered.Goals as goal

pub returns : goal.returns
returns g c = new-covered g.R.Router.offers c.lists_are_one.ensures
