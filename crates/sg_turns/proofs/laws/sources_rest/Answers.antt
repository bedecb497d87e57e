use Rattle.sg_turns.proofs.LawLemmas.{source-rests}
use Rattle.sg_turns.proofs.laws.sources_rest.Goals as goal

pub returns : goal.returns
returns g c = λ dests spec old new turns before last. source-rests (g.R.Router.offers c.args.router.now) dests spec old new turns before last
