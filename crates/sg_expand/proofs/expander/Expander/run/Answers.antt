use Rattle.std.proofs.Common.{Ok, Err}
use Rattle.std.proofs.lemmas.Result.{err_from_is_err_and}
use Rattle.sg_expand.proofs.Beginning.{whole-stops, whole-done}
use Rattle.sg_expand.proofs.Turns.{begun-bounded}
use Rattle.sg_expand.proofs.expander.Expander.run.Goals as goal

pub returns-in_err-begin-clause-does : goal.returns-in_err-begin-clause-does
returns-in_err-begin-clause-does g c =
    let p = err_from_is_err_and c.from_residual.result c.from_residual.ensures.1 in
    rw (p.1, p.2) (whole-stops c.args.text.now c.args.self.now c.begin.new.self (g.F.Machine.state c.args.files.now) c.in_err-begin.field-0.0 c.in_err-begin.ensures)

pub returns-in_err-work-clause-does : goal.returns-in_err-work-clause-does
returns-in_err-work-clause-does g c =
    let p = err_from_is_err_and c.from_residual-in_err-work.result c.from_residual-in_err-work.ensures.1 in
    rw (p.1, p.2)
    (whole-done c.args.text.now c.args.self.now c.begin.new.self c.work.new.self (g.F.Machine.state c.args.files.now) (g.F.Machine.state c.work.new.files) (Err c.in_err-work.field-0.0) c.in_ok-begin.ensures c.in_err-work.ensures.does)

pub returns-clause-does : goal.returns-clause-does
returns-clause-does g c =
    whole-done c.args.text.now c.args.self.now c.begin.new.self c.work.new.self (g.F.Machine.state c.args.files.now) (g.F.Machine.state c.work.new.files) (Ok tt) c.in_ok-begin.ensures c.in_ok-work.ensures.does

pub work-requires : goal.work-requires
work-requires g c = record { bounded = begun-bounded c.args.text.now c.args.self.now c.begin.new.self c.in_ok-begin.ensures c.requires.bounded }
