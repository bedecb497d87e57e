use Rattle.sg_hub.proofs.Tellings.{setups-stay}
use Rattle.sg_hub.proofs.laws.histories_keep_setup.Goals as goal

pub returns : goal.returns
returns c = setups-stay
