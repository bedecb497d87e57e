use Rattle.sg_daemon.specs.declared.unchecked.Unchecked.TheVariants.{Bad, Unread}
use Rattle.sg_loaded.specs.declared.loaded.Unloaded.TheVariants as unloaded
use Rattle.sg_daemon.proofs.CheckLemmas.{checks-ok, checks-unsaid, checks-starved, checks-refused}
use Rattle.sg_daemon.proofs.SaidLemmas.{tells-of}
use Rattle.sg_daemon.proofs.check.check.Goals as goal

pub returns-in-Ok : goal.returns-in-Ok
returns-in-Ok g c = checks-ok (g.W.Machine.state c.args.world.now) (g.W.Machine.state c.check_file.new.world) c.args.file.now c.in-Ok.ensures.only c.in-Ok.ensures.checks

pub returns-in-Err-SayFault : goal.returns-in-Err-SayFault
returns-in-Err-SayFault g c =
    checks-unsaid (g.W.Machine.state c.args.world.now) (g.W.Machine.state c.check_file.new.world) c.args.file.now c.in-Err-SayFault.ensures.only
    (rw c.in-Err-SayFault.field-0-is at c.in-Err-SayFault.ensures.checks) (rw c.in-Err-SayFault.field-0-is at c.in-Err-SayFault.ensures.complete)

pub returns-in-Err-NoMemory : goal.returns-in-Err-NoMemory
returns-in-Err-NoMemory g c = checks-starved (g.W.Machine.state c.args.world.now) (g.W.Machine.state c.check_file.new.world) c.args.file.now c.in-Err-NoMemory.ensures.only

pub returns-in-Err-Bad : goal.returns-in-Err-Bad
returns-in-Err-Bad g c =
    checks-refused (g.W.Machine.state c.args.world.now) (g.W.Machine.state c.check_file.new.world) (g.W.Machine.state c.tell_unloaded.new.world) c.args.file.now (Bad c.in-Err-Bad.fault c.in-Err-Bad.names) c.tell_unloaded.result
    c.in-Err-Bad.ensures.only (rw c.in-Err-Bad.field-0-is at c.in-Err-Bad.ensures.checks) (rw c.in-Err-Bad.field-0-is at c.in-Err-Bad.ensures.complete)
    (tells-of (g.W.Machine.state c.check_file.new.world) (g.W.Machine.state c.tell_unloaded.new.world) (unloaded.Bad c.in-Err-Bad.fault c.in-Err-Bad.names) c.tell_unloaded.result c.tell_unloaded.ensures) c.tell_unloaded.ensures

pub returns-in-Err-Unread : goal.returns-in-Err-Unread
returns-in-Err-Unread g c =
    checks-refused (g.W.Machine.state c.args.world.now) (g.W.Machine.state c.check_file.new.world) (g.W.Machine.state c.tell_unloaded-in-Err-Unread.new.world) c.args.file.now (Unread c.in-Err-Unread.name) c.tell_unloaded-in-Err-Unread.result
    c.in-Err-Unread.ensures.only (rw c.in-Err-Unread.field-0-is at c.in-Err-Unread.ensures.checks) (rw c.in-Err-Unread.field-0-is at c.in-Err-Unread.ensures.complete)
    (tells-of (g.W.Machine.state c.check_file.new.world) (g.W.Machine.state c.tell_unloaded-in-Err-Unread.new.world) (unloaded.Unread c.in-Err-Unread.name) c.tell_unloaded-in-Err-Unread.result c.tell_unloaded-in-Err-Unread.ensures)
    c.tell_unloaded-in-Err-Unread.ensures
