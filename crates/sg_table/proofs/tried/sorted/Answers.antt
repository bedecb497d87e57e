use Rattle.std.proofs.Common.{map, subst}
use Rattle.sg_table.specs.Patterns.{PatternTexts}
use Rattle.sg_table.specs.Tried.{IsTextOrder}
use Rattle.sg_table.proofs.tried.sorted.Goals as goal

pub returns : goal.returns
returns c = subst (λ (ps : PatternTexts). IsTextOrder ps (map (λ pattern. pattern.now) c.sort.new.patterns.items)) c.in_ok-patterns.ensures c.in_ok-sort.ensures
