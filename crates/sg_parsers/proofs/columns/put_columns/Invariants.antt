use Rattle.std.proofs.Common.{◌≡◌, ◌≤◌, List, ℕ, length, drop, Some}
use Rattle.sg_msg.specs.Message.{with_all}
use Rattle.sg_msg.specs.Drafts.{Drafted}
use Rattle.sg_parsers.specs.Csv.{column_pairs}
use Rattle.sg_parsers.proofs.columns.put_columns.Given as goal

-- the columns that are left make of the message what all of them make of the first one
abbrev pub invariant-loop-place : goal.invariant-loop-place
invariant-loop-place l = record {
  made : record l.draft { message = record l.draft.message { pairs = with_all (column_pairs l.csv.delimiters l.csv.greedy (drop l.place l.csv.names) (Some (drop l.at l.text))) l.draft.message.pairs } }
      ≡ record l.fn.draft { message = record l.fn.draft.message { pairs = with_all (column_pairs l.csv.delimiters l.csv.greedy l.csv.names (Some l.text)) l.fn.draft.message.pairs } };
  within : l.at ≤ length l.text;
  text : l.draft.text ≡ l.text;
}
