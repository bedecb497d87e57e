use Rattle.sg_template.proofs.Appending.{err_equal}
use Rattle.sg_template.proofs.date.append_bsd.Goals as goal

pub returns-clause-err : goal.returns-clause-err
returns-clause-err c = err_equal c.bsd_text.result c.args.out.now.items c.bsd_text.new.out.items c.bsd_text.ensures.err
