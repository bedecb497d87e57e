use Rattle.std.proofs.Common.{◌≡◌, ◌+◌, ◌-◌, ◌≤◌, length, drop}
use Rattle.sg_parsers.specs.declared.fields.FieldPosition.TheVariants.{Quoted}
use Rattle.sg_parsers.specs.Fields.{len_from, field_len}
use Rattle.sg_parsers.proofs.fields.quoted_len.Given as goal

abbrev pub invariant-quotes : goal.invariant-quotes
invariant-quotes l = record {
  passed : l.len + len_from l.delimiters Quoted (drop l.len l.text) ≡ field_len l.delimiters l.text;
  within : l.len ≤ length l.text;
}

abbrev pub decreases-quotes : goal.decreases-quotes
decreases-quotes l = length l.text - l.len
