use Rattle.sg_expand.proofs.Sizes.{few-expanded}
use Rattle.sg_hint.proofs.spot.expand_again.Goals as goal

pub returns-in-Ok-clause-few : goal.returns-in-Ok-clause-few
returns-in-Ok-clause-few g c = few-expanded c.expansions_stay_within.ensures (g.F.Machine.state c.args.files.now)
    (g.F.Machine.state c.expand.new.files) c.in-Ok.name c.args.main.now c.expand.result c.expand.ensures.exact
