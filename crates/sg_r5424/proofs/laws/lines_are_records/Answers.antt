use Rattle.sg_r3164.specs.Options.{received_at}
use Rattle.sg_r5424.proofs.WrittenLine.{line_read, said_by}
use Rattle.sg_r5424.proofs.SaidAgain.{says_again}
use Rattle.sg_r5424.proofs.laws.lines_are_records.Goals as goal

pub returns : goal.returns
returns c = λ message env is year at peer opts.
    let read = line_read message env is year (received_at at opts) peer opts in
    (said_by (received_at at opts) peer opts read.0 message, (read.1, says_again message is (received_at at opts) peer opts read.0))
