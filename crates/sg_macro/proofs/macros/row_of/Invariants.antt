use Rattle.std.proofs.Common.{◌≡◌, map, drop}
use Rattle.sg_macro.specs.Macros.{row_of}
use Rattle.sg_macro.proofs.macros.row_of.Given as goal

abbrev pub invariant-loop-row : goal.invariant-loop-row
invariant-loop-row l = row_of l.name (map (λ row. (row.0.now, row.1)) l.rows) ≡ row_of l.name (map (λ row. (row.0.now, row.1)) (drop l.row-index l.rows))
