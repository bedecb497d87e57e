use Rattle.std.proofs.Common.{◌≡◌, map, replicate}
use Rattle.sg_table.specs.Forest.{forest_of}
use Rattle.sg_run.specs.Meaning.{paths_of}
use Rattle.sg_run.proofs.planning.routers_of.Given as goal

abbrev pub invariant-loop-router : goal.invariant-loop-router
invariant-loop-router l = map paths_of l.routers.items ≡ replicate l._router (forest_of l.fn.table)
