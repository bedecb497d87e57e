-- The log paths that a table is read back as.
use Rattle.std.specs.Prelude.{map, length}
use Rattle.sg_tree.specs.Offers.{TopStatement as Statement, Woods}
use Rattle.sg_tree.specs.Readings.{inlet_of}
use Rattle.sg_table.specs.declared.pipe.Top.{Top}
use Rattle.sg_table.specs.declared.table.Table.{Table}
use Rattle.sg_table.specs.Table.{StepsByPlace, marks, steps_at}

abbrev pub statement_at : StepsByPlace → Top → Statement
statement_at at top = record {
  sources = top.sources.items;
  catchall = top.catchall;
  marks = marks top.branch;
  steps = at top.branch.start;
}

abbrev pub forest_of : Table → Woods
forest_of table = record {
  inlets = map inlet_of table.inlets.items;
  dests = length table.dests.items;
  tops = map (statement_at (steps_at table.pipes.items)) table.tops.items;
}
