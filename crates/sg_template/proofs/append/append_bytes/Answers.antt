use Rattle.sg_template.proofs.Appending.{err_appended}
use Rattle.sg_template.proofs.append.append_bytes.Goals as goal

pub returns-clause-err : goal.returns-clause-err
returns-clause-err c = err_appended c.extend_from_slice.result c.args.out.now.items c.extend_from_slice.new.self.items c.args.text.now c.extend_from_slice.ensures.items
