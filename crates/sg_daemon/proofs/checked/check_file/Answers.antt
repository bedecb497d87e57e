use Rattle.sg_daemon.proofs.CheckedLemmas.{said-read, ok-checks, ok-only, ok-complete, loads-only, bad-checks, unread-checks, calm-load}
use Rattle.sg_daemon.proofs.checked.check_file.Goals as goal

pub returns-in-Ok-clause-checks : goal.returns-in-Ok-clause-checks
returns-in-Ok-clause-checks g c =
    let said = g.W.Machine.state c.say_ok-said.new.world in
    let new = g.W.Machine.state c.tell_warnings.new.world in
    let has = said-read (g.W.Machine.state c.load_file.new.world) said new c.args.file.now c.say_ok-said.result c.say_ok-said.ensures.has c.tell_warnings.ensures in
    ok-checks (g.W.Machine.state c.args.world.now) (g.W.Machine.state c.load_file.new.world) new c.args.file.now c.in-Ok.loaded c.say_ok-said.result c.in-Ok.ensures.loads c.in-Ok.ensures.only has

pub returns-in-Ok-clause-only : goal.returns-in-Ok-clause-only
returns-in-Ok-clause-only g c =
    ok-only (g.W.Machine.state c.args.world.now) (g.W.Machine.state c.load_file.new.world) (g.W.Machine.state c.say_ok-said.new.world) (g.W.Machine.state c.tell_warnings.new.world) c.in-Ok.ensures.only
    c.say_ok-said.ensures.says c.tell_warnings.ensures

pub returns-in-Ok-clause-complete : goal.returns-in-Ok-clause-complete
returns-in-Ok-clause-complete g c = λ files config told is can calm.
    let said = g.W.Machine.state c.say_ok-said.new.world in
    let new = g.W.Machine.state c.tell_warnings.new.world in
    let has = said-read (g.W.Machine.state c.load_file.new.world) said new c.args.file.now c.say_ok-said.result c.say_ok-said.ensures.has c.tell_warnings.ensures in
    ok-complete (g.W.Machine.state c.args.world.now) (g.W.Machine.state c.load_file.new.world) new c.args.file.now c.say_ok-said.result c.in-Ok.ensures.only has calm

pub returns-in-Err-Bad-clause-checks : goal.returns-in-Err-Bad-clause-checks
returns-in-Err-Bad-clause-checks g c =
    let loads = rw c.in-Err-Bad.field-0-is at c.in-Err-Bad.ensures.loads in
    rw c.in-Err-Bad.field-0-is (bad-checks (g.W.Machine.state c.args.world.now) (g.W.Machine.state c.load_file.new.world) c.args.file.now c.in-Err-Bad.fault c.in-Err-Bad.names loads c.in-Err-Bad.ensures.only)

pub returns-in-Err-Bad-clause-only : goal.returns-in-Err-Bad-clause-only
returns-in-Err-Bad-clause-only g c = loads-only (g.W.Machine.state c.args.world.now) (g.W.Machine.state c.load_file.new.world) c.in-Err-Bad.ensures.only

pub returns-in-Err-Bad-clause-complete : goal.returns-in-Err-Bad-clause-complete
returns-in-Err-Bad-clause-complete g c = λ files config told is can calm.
    let complete = rw c.in-Err-Bad.field-0-is at c.in-Err-Bad.ensures.complete in
    complete files config told is can (calm-load (g.W.Machine.state c.args.world.now) (g.W.Machine.state c.load_file.new.world) calm)

pub returns-in-Err-Unread-clause-checks : goal.returns-in-Err-Unread-clause-checks
returns-in-Err-Unread-clause-checks g c =
    let loads = rw c.in-Err-Unread.field-0-is at c.in-Err-Unread.ensures.loads in
    rw c.in-Err-Unread.field-0-is (unread-checks (g.W.Machine.state c.args.world.now) (g.W.Machine.state c.load_file.new.world) c.args.file.now c.in-Err-Unread.name loads c.in-Err-Unread.ensures.only)

pub returns-in-Err-Unread-clause-only : goal.returns-in-Err-Unread-clause-only
returns-in-Err-Unread-clause-only g c = loads-only (g.W.Machine.state c.args.world.now) (g.W.Machine.state c.load_file.new.world) c.in-Err-Unread.ensures.only

pub returns-in-Err-Unread-clause-complete : goal.returns-in-Err-Unread-clause-complete
returns-in-Err-Unread-clause-complete g c = λ files config told is can calm.
    let complete = rw c.in-Err-Unread.field-0-is at c.in-Err-Unread.ensures.complete in
    complete files config told is can (calm-load (g.W.Machine.state c.args.world.now) (g.W.Machine.state c.load_file.new.world) calm)

pub returns-in-Err-NoMemory-clause-only : goal.returns-in-Err-NoMemory-clause-only
returns-in-Err-NoMemory-clause-only g c = loads-only (g.W.Machine.state c.args.world.now) (g.W.Machine.state c.load_file.new.world) c.in-Err-NoMemory.ensures.only
