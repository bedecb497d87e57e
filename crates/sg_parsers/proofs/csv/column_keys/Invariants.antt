use Rattle.std.proofs.Common.{◌≡◌, take, drop}
use Rattle.std.specs.List.{list_all}
use Rattle.sg_parsers.specs.Names.{may_name}
use Rattle.sg_parsers.specs.Csv.{prefixed}
use Rattle.sg_parsers.proofs.csv.column_keys.Given as goal

abbrev pub invariant-loop-column : goal.invariant-loop-column
invariant-loop-column l = record {
  keys : l.keys ≡ prefixed l.prefix (take l.column-index l.columns);
  rest : list_all may_name (prefixed l.prefix (drop l.column-index l.columns)) ≡ list_all may_name (prefixed l.prefix l.columns);
}
