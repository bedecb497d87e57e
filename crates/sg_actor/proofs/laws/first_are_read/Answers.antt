use Rattle.sg_actor.proofs.LawLemmas.{reads-first}
use Rattle.sg_actor.proofs.laws.first_are_read.Goals as goal

pub returns : goal.returns
returns g c = λ dests spec s. reads-first (g.R.Router.offers c.args.router.now) dests spec s
