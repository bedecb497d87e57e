use Rattle.std.proofs.Common.{Bor, rules}
use Rattle.std.proofs.lemmas.List.Sorted.{IsNonDecreasingBy-from_sort_by_key, IsPermutation-map}
use Rattle.sg_pattern.specs.declared.text.PatternText.{PatternText}
use Rattle.sg_table.proofs.Tries.{rises-sorted}
use Rattle.sg_table.proofs.tried.sort.Goals as goal

pub returns : goal.returns
returns c = record {
  same = IsPermutation-map (λ (x : Bor PatternText). x.now) _ _ c.sort_by_key.ensures.permutation;
  rises = rises-sorted _ (IsNonDecreasingBy-from_sort_by_key (λ (x : Bor PatternText). x.now.line.at) _ c.in_ok-sort_by_key.ensures.sorted (λ a r q k. search rules));
}
