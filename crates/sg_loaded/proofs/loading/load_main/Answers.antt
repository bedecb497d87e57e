use Rattle.sg_loaded.proofs.Loads.{loads-reading, loads-on, main-too-long, main-unread}
use Rattle.sg_loaded.proofs.loading.load_main.Goals as goal

pub returns-in-Ok-clause-loads : goal.returns-in-Ok-clause-loads
returns-in-Ok-clause-loads g c = c.load_text.ensures.loads (g.W.Machine.state c.args.world.now) c.in-Ok.ensures.0 (rw c.deref.ensures.value c.in-Ok.ensures.1)

pub returns-in-Ok-clause-only : goal.returns-in-Ok-clause-only
returns-in-Ok-clause-only g c = loads-on (g.W.Machine.state c.args.world.now) (g.W.Machine.state c.read.new.self) (g.W.Machine.state c.load_text.new.world) c.in-Ok.ensures.0 c.load_text.ensures.only

pub returns-in-Err-Failed-clause-loads : goal.returns-in-Err-Failed-clause-loads
returns-in-Err-Failed-clause-loads g c =
    let refused = rw c.in-Err-Failed.field-0-is at c.in-Err-Failed.ensures in
    main-unread (g.W.Machine.state c.args.world.now) (g.W.Machine.state c.read.new.self) c.args.file.now c.unread.result refused.1 refused.2 c.unread.ensures

pub returns-in-Err-Failed-clause-only : goal.returns-in-Err-Failed-clause-only
returns-in-Err-Failed-clause-only g c =
    let refused = rw c.in-Err-Failed.field-0-is at c.in-Err-Failed.ensures in
    loads-reading (g.W.Machine.state c.args.world.now) (g.W.Machine.state c.read.new.self) refused.0

pub returns-in-Err-TooLong-clause-loads : goal.returns-in-Err-TooLong-clause-loads
returns-in-Err-TooLong-clause-loads g c =
    let refused = rw c.in-Err-TooLong.field-0-is at c.in-Err-TooLong.ensures in
    main-too-long (g.W.Machine.state c.args.world.now) (g.W.Machine.state c.read.new.self) c.args.file.now c.too_long.result refused.1 c.too_long.ensures

pub returns-in-Err-TooLong-clause-only : goal.returns-in-Err-TooLong-clause-only
returns-in-Err-TooLong-clause-only g c =
    let refused = rw c.in-Err-TooLong.field-0-is at c.in-Err-TooLong.ensures in
    loads-reading (g.W.Machine.state c.args.world.now) (g.W.Machine.state c.read.new.self) refused.0

pub returns-in-Err-NoMemory-clause-only : goal.returns-in-Err-NoMemory-clause-only
returns-in-Err-NoMemory-clause-only g c =
    let refused = rw c.in-Err-NoMemory.field-0-is at c.in-Err-NoMemory.ensures in
    loads-reading (g.W.Machine.state c.args.world.now) (g.W.Machine.state c.read.new.self) refused.0
