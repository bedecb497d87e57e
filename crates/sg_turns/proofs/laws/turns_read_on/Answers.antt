use Rattle.sg_turns.proofs.LawLemmas.{read-on}
use Rattle.sg_turns.proofs.laws.turns_read_on.Goals as goal

pub returns : goal.returns
returns g c = λ dests spec old new turns. read-on (g.R.Router.offers c.args.router.now) dests spec old new turns
