use Rattle.sg_template.proofs.Appending.{err_equal}
use Rattle.sg_template.proofs.date.append_iso.Goals as goal

pub returns-clause-err : goal.returns-clause-err
returns-clause-err c = err_equal c.iso_text.result c.args.out.now.items c.iso_text.new.out.items c.iso_text.ensures.err
