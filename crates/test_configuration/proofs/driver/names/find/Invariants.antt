use Rattle.std.proofs.Common.{◌≡◌, drop}
use Rattle.test_configuration.specs.Names.{text_of}
use Rattle.test_configuration.proofs.driver.names.find.Given as goal

abbrev pub invariant-loop-row : goal.invariant-loop-row
invariant-loop-row l = text_of l.rows l.name ≡ text_of (drop l.row-index l.rows) l.name
