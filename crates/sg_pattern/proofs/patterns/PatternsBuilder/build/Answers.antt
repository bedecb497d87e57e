use Rattle.std.proofs.Common.{refl, arith}
use Rattle.sg_pattern.proofs.patterns.PatternsBuilder.build.Goals as goal

pub returns-in-Some-clause-means : goal.returns-in-Some-clause-means
returns-in-Some-clause-means c = ((refl, omega arith), c.in-Some.ensures.matches, refl)

pub returns-in-Some-clause-step : goal.returns-in-Some-clause-step
returns-in-Some-clause-step c = returns-in-Some-clause-means c

pub returns-in-Ok-clause-means : goal.returns-in-Ok-clause-means
returns-in-Ok-clause-means c = ((refl, omega arith), c.in-Ok.ensures.matches, refl)

pub returns-in-Ok-clause-step : goal.returns-in-Ok-clause-step
returns-in-Ok-clause-step c = returns-in-Ok-clause-means c
