use Rattle.sg_resolve.proofs.Looked.{source-checked, listener-checked, destination-checked, sender-checked, writer-checked, disk-checked, global-checked}
use Rattle.sg_resolve.proofs.laws.options_are_checked.Goals as goal

pub returns-clause-source : goal.returns-clause-source
returns-clause-source c = source-checked

pub returns-clause-listener : goal.returns-clause-listener
returns-clause-listener c = listener-checked

pub returns-clause-destination : goal.returns-clause-destination
returns-clause-destination c = destination-checked

pub returns-clause-hosts : goal.returns-clause-hosts
returns-clause-hosts c = sender-checked

pub returns-clause-files : goal.returns-clause-files
returns-clause-files c = writer-checked

pub returns-clause-others : goal.returns-clause-others
returns-clause-others c = (disk-checked, global-checked)
