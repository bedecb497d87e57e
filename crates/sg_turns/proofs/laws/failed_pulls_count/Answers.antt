use Rattle.sg_turns.proofs.FailingLemmas.{source-fails}
use Rattle.sg_turns.proofs.laws.failed_pulls_count.Goals as goal

pub returns : goal.returns
returns g c = λ dests spec old new turns. source-fails (g.R.Router.offers c.args.router.now) dests spec old new turns
