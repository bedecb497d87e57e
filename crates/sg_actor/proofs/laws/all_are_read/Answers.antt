use Rattle.sg_actor.proofs.LawLemmas.{reads-all}
use Rattle.sg_actor.proofs.laws.all_are_read.Goals as goal

pub returns : goal.returns
returns g c = λ dests spec s. reads-all (g.R.Router.offers c.args.router.now) dests spec s
