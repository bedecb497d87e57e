use Rattle.sg_r3164.specs.Options.{received_at}
use Rattle.sg_r5424.specs.Is5424.{without_end}
use Rattle.sg_r5424.proofs.OwnData.{keeps_data}
use Rattle.sg_r5424.proofs.WrittenLine.{line_read, said_by}
use Rattle.sg_r5424.proofs.SaidAgain.{says_again}
use Rattle.sg_r5424.proofs.laws.data_is_said_again.Goals as goal

pub returns-clause-keeps : goal.returns-clause-keeps
returns-clause-keeps c = λ item at peer opts message own. keeps_data (received_at at opts) peer opts (without_end item) message own.0 own.1

pub returns-clause-again : goal.returns-clause-again
returns-clause-again c = λ item at peer opts message env own is year later next options.
    let read = line_read message env is year (received_at later options) next options in
    let again = says_again message is (received_at later options) next options read.0 in
    (said_by (received_at later options) next options read.0 message, (read.1, again.structured (keeps_data (received_at at opts) peer opts (without_end item) message own.0 own.1)))
