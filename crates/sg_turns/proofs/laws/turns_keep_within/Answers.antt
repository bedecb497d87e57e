use Rattle.sg_turns.proofs.CreditLemmas.{keep-within}
use Rattle.sg_turns.proofs.laws.turns_keep_within.Goals as goal

pub returns : goal.returns
returns g c = λ dests spec old new turns took fed none. keep-within (g.R.Router.offers c.args.router.now) dests spec 0 old new turns took fed none
