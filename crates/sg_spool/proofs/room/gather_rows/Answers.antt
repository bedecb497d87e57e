use Rattle.std.proofs.Common.{◌∙◌, ◌++◌, ap, subst, sym, arith}
use Rattle.sg_device.specs.Disk.{EachNow}
use Rattle.sg_spool.specs.Places.{IsOrdered}
use Rattle.sg_spool.specs.View.{IsRing}
use Rattle.sg_spool.specs.declared.rows.Rows.{Rows}
use Rattle.sg_spool.proofs.Chains.{elapses_as}
use Rattle.sg_spool.proofs.Copying.{beyond_torn}
use Rattle.sg_spool.proofs.Gathering.{beyond_cells}
use Rattle.sg_spool.proofs.Rooms.{commits_one, gathers_one, stems_away}
use Rattle.sg_spool.proofs.Staging.{low_end}
use Rattle.sg_spool.proofs.room.gather_rows.Goals as goal

pub returns-in_err-whole-clause-within : goal.returns-in_err-whole-clause-within
returns-in_err-whole-clause-within g c = λ list staged held. commits_one c.args.cell.now c.args.rows list staged (g.D.Disk.state c.args.disk.now) (g.D.Disk.state c.commit_rows.new.disk) held (c.commit_rows.ensures.within c.args.cell.now list staged held.waits held.rings held.opens)

pub returns-in_err-moved-clause-within : goal.returns-in_err-moved-clause-within
returns-in_err-moved-clause-within g c = λ list staged held. gathers_one c.args.cell.now c.args.rows list staged (g.D.Disk.state c.args.disk.now) (g.D.Disk.state c.commit_rows.new.disk) held (g.D.Disk.state c.gather.new.disk) (c.commit_rows.ensures.within c.args.cell.now list staged held.waits held.rings held.opens) (c.gather.ensures.within (list ++ staged) (c.in_ok-whole.ensures.ring c.args.cell.now list staged held.waits held.rings held.opens))

pub returns-clause-within : goal.returns-clause-within
returns-clause-within g c = λ list staged held. gathers_one c.args.cell.now c.args.rows list staged (g.D.Disk.state c.args.disk.now) (g.D.Disk.state c.commit_rows.new.disk) held (g.D.Disk.state c.gather.new.disk) (c.commit_rows.ensures.within c.args.cell.now list staged held.waits held.rings held.opens) (c.gather.ensures.within (list ++ staged) (c.in_ok-whole.ensures.ring c.args.cell.now list staged held.waits held.rings held.opens))

pub gather-requires-clause-has_cell : goal.gather-requires-clause-has_cell
gather-requires-clause-has_cell g c = let low = low_end c.args.rows.list.jump c.args.rows.list.head c.args.rows.list.end c.requires.rows.list in beyond_cells c.args.cell.now.selector c.args.cell.now.value c.args.rows.list.end (g.D.Disk.state c.args.disk.now) (g.D.Disk.state c.commit_rows.new.disk) (omega (arith, low)) c.requires.has_cell (elapses_as (g.D.Disk.state c.args.disk.now) (g.D.Disk.state c.commit_rows.new.disk) (beyond_torn c.args.rows.list.end 1) c.commit_rows.ensures.images)

pub gather-requires-clause-jumps : goal.gather-requires-clause-jumps
gather-requires-clause-jumps g c = ap (λ (r : Rows). r.list.jump) c.in_ok-whole.ensures.committed ∙ c.requires.jumps

pub gather-requires-clause-ordered : goal.gather-requires-clause-ordered
gather-requires-clause-ordered g c = subst (λ (r : Rows). IsOrdered r.list) (sym c.in_ok-whole.ensures.committed) c.requires.rows.ahead

pub returns-clause-ring : goal.returns-clause-ring
returns-clause-ring g c = λ list staged held. subst (λ (r : Rows). EachNow (g.D.Disk.state c.gather.new.disk) (IsRing c.gather.new.cell r.list (list ++ staged))) (sym c.listed.ensures)
    (stems_away (g.D.Disk.state c.commit_rows.new.disk) (IsRing c.gather.new.cell c.in_ok-moved.moved (list ++ staged)) (g.D.Disk.state c.gather.new.disk) (c.in_ok-moved.ensures.ring (list ++ staged) (c.in_ok-whole.ensures.ring c.args.cell.now list staged held.waits held.rings held.opens)))
