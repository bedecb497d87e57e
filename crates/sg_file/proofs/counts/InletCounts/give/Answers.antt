use Rattle.sg_file.proofs.counts.InletCounts.give.Goals as goal

pub returns-then-self : goal.returns-then-self
returns-then-self c = c.fail.ensures _
