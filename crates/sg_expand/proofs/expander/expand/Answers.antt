use Rattle.std.proofs.Common.{Ok, Err}
use Rattle.sg_expand.specs.declared.fault.ExpandRefusal.TheVariants.{Bad}
use Rattle.sg_expand.proofs.Beginning.{expanded-is, refused-is, unread-is}
use Rattle.sg_expand.proofs.PlacesRun.{expanded-placed}
use Rattle.sg_expand.proofs.Turns.{new-bounded}
use Rattle.sg_expand.proofs.expander.expand.Goals as goal

pub returns-in-Ok-run-clause-exact : goal.returns-in-Ok-run-clause-exact
returns-in-Ok-run-clause-exact g c =
    expanded-is c.args.name c.args.main.now c.in-Ok.expander c.run.new.self (g.F.Machine.state c.args.files.now) (g.F.Machine.state c.run.new.files) c.in-Ok.ensures c.in-Ok-run.ensures.does

pub returns-in-Err-Fault-clause-exact : goal.returns-in-Err-Fault-clause-exact
returns-in-Err-Fault-clause-exact g c =
    refused-is c.args.name c.args.main.now c.in-Ok.expander c.run.new.self (g.F.Machine.state c.args.files.now) (g.F.Machine.state c.run.new.files) c.in-Err-Fault.fault c.in-Ok.ensures (rw c.in-Err-Fault.field-0-is at c.in-Err-Fault.ensures.does)

pub returns-in-Err-ReadFault-clause-exact : goal.returns-in-Err-ReadFault-clause-exact
returns-in-Err-ReadFault-clause-exact g c =
    unread-is c.args.name c.args.main.now c.in-Ok.expander c.run.new.self (g.F.Machine.state c.args.files.now) (g.F.Machine.state c.run.new.files) c.in-Err-ReadFault.name c.in-Ok.ensures (rw c.in-Err-ReadFault.field-0-is at c.in-Err-ReadFault.ensures.does)

pub returns-in-Ok-run-clause-place : goal.returns-in-Ok-run-clause-place
returns-in-Ok-run-clause-place g c =
    expanded-placed (g.F.Machine.state c.args.files.now) (g.F.Machine.state c.run.new.files) c.args.name c.args.main.now (Ok (record { tokens = c.run.new.self.out; names = c.run.new.self.names })) (returns-in-Ok-run-clause-exact g c)

pub returns-in-Err-Fault-clause-place : goal.returns-in-Err-Fault-clause-place
returns-in-Err-Fault-clause-place g c =
    expanded-placed (g.F.Machine.state c.args.files.now) (g.F.Machine.state c.run.new.files) c.args.name c.args.main.now (Err (Bad c.in-Err-Fault.fault c.run.new.self.names)) (returns-in-Err-Fault-clause-exact g c)

pub run-requires-clause-bounded : goal.run-requires-clause-bounded
run-requires-clause-bounded g c = new-bounded c.args.name c.in-Ok.expander c.in-Ok.ensures
