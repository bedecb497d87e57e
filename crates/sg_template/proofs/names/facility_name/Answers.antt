use Rattle.sg_template.specs.Names.{facility_names}
use Rattle.sg_template.proofs.names.facility_name.Goals as goal

-- the table is the definition's
pub returns : goal.returns
unfolding facility_names
returns c = c.name_at.ensures
