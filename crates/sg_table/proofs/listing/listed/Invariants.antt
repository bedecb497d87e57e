use Rattle.std.proofs.Common.{◌≡◌}
use Rattle.sg_table.specs.Listing.{all_patterns}
use Rattle.sg_table.specs.Patterns.{patterns_in}
use Rattle.sg_table.proofs.listing.listed.Given as goal

abbrev pub invariant-turns : goal.invariant-turns
invariant-turns l = all_patterns l.forest.filters.items l.listing ≡ patterns_in l.forest
