use Rattle.std.proofs.Common.{◌≡◌, ◌≤◌, length, take}
use Rattle.std.specs.List.{fold}
use Rattle.sg_names.specs.Filters.{with_statement, no_filters}
use Rattle.sg_names.proofs.filters.filters_of.Given as goal

abbrev pub invariant-loop-statement : goal.invariant-loop-statement
invariant-loop-statement l = record {
  each : l.filters ≡ fold (with_statement l.names) no_filters (take l.statement-index l.statements);
  count : length l.filters.links ≤ l.statement-index;
  own : length l.filters.own ≡ length l.filters.links;
}
