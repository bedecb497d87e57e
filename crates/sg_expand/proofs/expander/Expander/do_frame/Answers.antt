use Rattle.sg_expand.proofs.Turning.{expands-does, binds-does}
use Rattle.sg_expand.proofs.Turns.{expands-bounded, binds-bounded}
use Rattle.sg_expand.proofs.expander.Expander.do_frame.Goals as goal

pub returns-in-Expands-clause-does : goal.returns-in-Expands-clause-does
returns-in-Expands-clause-does g c =
    expands-does c.args.frame c.in-Expands.rest c.args.self.now (g.F.Machine.state c.args.files.now) c.step.new.self (g.F.Machine.state c.step.new.files) c.step.result c.in-Expands.is c.step.ensures.does

pub returns-in-Binds-clause-does : goal.returns-in-Binds-clause-does
returns-in-Binds-clause-does g c = binds-does c.args.frame c.in-Binds.wait c.args.self.now (g.F.Machine.state c.args.files.now) c.bind.new.self c.bind.result c.in-Binds.is c.bind.ensures

pub returns-in-Expands-clause-bounded : goal.returns-in-Expands-clause-bounded
returns-in-Expands-clause-bounded g c =
    expands-bounded c.args.frame c.in-Expands.rest c.args.self.now c.step.new.self (g.F.Machine.state c.args.files.now) (g.F.Machine.state c.step.new.files) c.step.result c.in-Expands.is c.requires.bounded c.step.ensures.does

pub returns-in-Binds-clause-bounded : goal.returns-in-Binds-clause-bounded
returns-in-Binds-clause-bounded g c = binds-bounded c.args.frame c.in-Binds.wait c.args.self.now c.bind.new.self c.bind.result c.in-Binds.is c.requires.bounded c.bind.ensures
