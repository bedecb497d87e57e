use Rattle.sg_spool.proofs.Rooms.{stay_held, held_same, gathered_held}
use Rattle.sg_spool.proofs.room.make_room.Goals as goal

pub returns-in-None-clause-within : goal.returns-in-None-clause-within
returns-in-None-clause-within g c = λ list staged held. stay_held c.args.cell.now c.args.rows list staged (g.D.Disk.state c.args.disk.now) held

pub returns-in-None-clause-held : goal.returns-in-None-clause-held
returns-in-None-clause-held g c = λ list staged held. held_same c.args.cell.now c.args.rows list staged (g.D.Disk.state c.args.disk.now) held

pub returns-then-rows-size-clause-within : goal.returns-then-rows-size-clause-within
returns-then-rows-size-clause-within g c = λ list staged held. stay_held c.args.cell.now c.args.rows list staged (g.D.Disk.state c.args.disk.now) held

pub returns-then-rows-size-clause-held : goal.returns-then-rows-size-clause-held
returns-then-rows-size-clause-held g c = λ list staged held. held_same c.args.cell.now c.args.rows list staged (g.D.Disk.state c.args.disk.now) held

pub returns-in_ok-moved-in-Some-clause-held : goal.returns-in_ok-moved-in-Some-clause-held
returns-in_ok-moved-in-Some-clause-held g c = λ list staged held. gathered_held c.gather_rows.new.cell c.args.rows c.in_ok-moved-in-Some.moved list staged (g.D.Disk.state c.gather_rows.new.disk) c.in_ok-moved-in-Some.ensures.rows (c.in_ok-moved-in-Some.ensures.ring list staged held)
