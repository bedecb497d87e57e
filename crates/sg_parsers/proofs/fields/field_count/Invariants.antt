use Rattle.std.proofs.Common.{◌≡◌, ◌≤◌, ◌+◌, length}
use Rattle.sg_parsers.specs.declared.fields.FieldPosition.TheVariants.{Front}
use Rattle.sg_parsers.specs.Fields.{fields_from, field_len, field_count}
use Rattle.sg_parsers.proofs.fields.field_count.Given as goal

abbrev pub invariant-fields : goal.invariant-fields
invariant-fields l = record {
  counted : l.count + fields_from l.delimiters Front l.rest ≡ 1 + field_count l.delimiters l.text;
  first : l.len ≡ field_len l.delimiters l.rest;
  within : l.len ≤ length l.rest;
  most : l.count + length l.rest ≤ 1 + length l.text;
}

abbrev pub decreases-fields : goal.decreases-fields
decreases-fields l = length l.rest
