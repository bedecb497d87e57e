use Rattle.sg_visit.specs.Leaves.{leaves_of}
use Rattle.sg_names.specs.Paths.{leaf_parts, parts_of}
use Rattle.sg_names.proofs.Collecting.{collected}
use Rattle.sg_names.proofs.paths.parts_of.Goals as goal

pub returns : goal.returns
unfolding parts_of
returns c = collected (leaf_parts c.args.names.now) (leaves_of c.args.statements.now) _ _ c.new-found.ensures c.in_ok-visit_statements.ensures
