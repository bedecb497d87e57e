use Rattle.sg_template.specs.Names.{severity_names}
use Rattle.sg_template.proofs.names.severity_name.Goals as goal

-- the table is the definition's
pub returns : goal.returns
unfolding severity_names
returns c = c.name_at.ensures
