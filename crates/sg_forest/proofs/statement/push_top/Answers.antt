use Rattle.std.proofs.Common.{map, sym, subst}
use Rattle.sg_parse_text.specs.declared.statement.Statement.{Statement}
use Rattle.sg_forest.specs.Statements.{logs_at}
use Rattle.sg_forest.specs.Adds.{AddsTops}
use Rattle.sg_forest.proofs.Whole.{tops-one}
use Rattle.sg_forest.proofs.statement.push_top.Goals as goal

pub returns-in_ok-append-in-Log : goal.returns-in_ok-append-in-Log
returns-in_ok-append-in-Log c =
    subst (λ (s : Statement). AddsTops c.args.names.now c.args.ends.now (map (λ calls. calls.now) c.args.rewrites.now) (logs_at s) c.args.found.now.items c.append.new.items.items) (sym c.in-Log.is)
    (tops-one c.args.names.now c.args.ends.now (map (λ calls. calls.now) c.args.rewrites.now) c.in-Log.log c.args.found.now.items c.append.new.items.items c.in_ok-path-in-Log.path c.in_ok-path-in-Log.ensures c.in_ok-append-in-Log.ensures)
