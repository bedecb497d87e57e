use Rattle.sg_r3164.specs.Options.{received_at}
use Rattle.sg_r5424.specs.Is5424.{without_end}
use Rattle.sg_r5424.proofs.ReadingLemmas.{reads_once}
use Rattle.sg_r5424.proofs.laws.records_say_one_message.Goals as goal

pub returns : goal.returns
returns c = λ item at peer opts a b p q. reads_once (received_at at opts) peer opts (without_end item) a b p q
