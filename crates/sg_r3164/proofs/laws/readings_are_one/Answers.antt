use Rattle.sg_r3164.specs.Options.{received_at}
use Rattle.sg_r3164.proofs.Readings.{reading_once}
use Rattle.sg_r3164.proofs.laws.readings_are_one.Goals as goal

pub returns : goal.returns
returns c = λ item at peer opts a b p q. reading_once opts.parse opts (received_at at opts) peer item a b p q
