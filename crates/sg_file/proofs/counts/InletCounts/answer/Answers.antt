use Rattle.sg_file.proofs.counts.InletCounts.answer.Goals as goal

pub returns-then-self : goal.returns-then-self
returns-then-self c = c.fail.ensures _

pub returns-in-Err : goal.returns-in-Err
returns-in-Err c = c.fail-in-Err.ensures _
