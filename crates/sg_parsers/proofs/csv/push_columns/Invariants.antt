use Rattle.std.proofs.Common.{◌≡◌, ◌≤◌, ◌++◌, length, drop, Some}
use Rattle.sg_parsers.specs.Csv.{column_pairs}
use Rattle.sg_parsers.proofs.csv.push_columns.Given as goal

-- the columns that are left get of the rest what they get of the whole text
abbrev pub invariant-loop-place : goal.invariant-loop-place
invariant-loop-place l = record {
  got : l.pairs ++ column_pairs l.csv.delimiters l.csv.greedy (drop l.place l.csv.names) (Some (drop l.at l.text))
      ≡ l.fn.pairs ++ column_pairs l.csv.delimiters l.csv.greedy l.csv.names (Some l.text);
  within : l.at ≤ length l.text;
}
