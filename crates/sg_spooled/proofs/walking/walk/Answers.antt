use Rattle.std.proofs.Common.{arith}
use Rattle.sg_spooled.proofs.WalkLemmas.{counts-of, walk-first, walk-left, walk-next, walk-stopped, walk-whole}
use Rattle.sg_output.proofs.Sayings.{err-is}
use Rattle.sg_spooled.proofs.walking.walk.Goals as goal

pub loop-number-init : goal.loop-number-init
loop-number-init g c =
    walk-first g.W.Store.Disk.state c.args.spool.now (g.W.Machine.state c.args.world.now) c.args.text.now.items c.head-gate.result c.requires.opened c.requires.empty c.head-gate.ensures.head (c.head-gate.ensures.laid c.requires.opened)

pub list_entry-requires-clause-left : goal.list_entry-requires-clause-left
list_entry-requires-clause-left g c =
    walk-left g.W.Store.Disk.state c.args.spool.now c.loop-number.spool (g.W.Machine.state c.args.world.now) (g.W.Machine.state c.loop-number.world) c.loop-number.text.items c.loop-number.gate c.loop-number.number c.loop-number.invariant

pub returns-in_err-gate : goal.returns-in_err-gate
returns-in_err-gate g c =
    rw (err-is _ c.in_err-gate.field-0.0 c.from_residual.ensures.1)
    (walk-stopped g.W.Store.Disk.state c.args.spool.now c.loop-number.spool c.list_entry.new.spool (g.W.Machine.state c.args.world.now) (g.W.Machine.state c.loop-number.world) c.loop-number.text.items c.list_entry.new.text.items c.loop-number.gate c.loop-number.number
    c.count-count.result c.in_err-gate.field-0.0 (counts-of (g.W.Store.Disk.state c.args.spool.now.disk) c.count-count.result (c.count-count.ensures.list c.requires.opened)) c.loop-number-test.true c.loop-number.invariant c.in_err-gate.ensures.reads c.in_err-gate.ensures.lists)

pub loop-number-preserved : goal.loop-number-preserved
loop-number-preserved g c =
    walk-next g.W.Store.Disk.state c.args.spool.now c.loop-number.spool c.list_entry.new.spool (g.W.Machine.state c.args.world.now) (g.W.Machine.state c.loop-number.world) (g.W.Machine.state c.say_piece.new.world) c.loop-number.text.items c.list_entry.new.text.items
    c.say_piece.new.text.items c.loop-number.gate c.in_ok-gate.gate c.loop-number.number c.loop-number.invariant c.in_ok-gate.ensures.reads c.in_ok-gate.ensures.lists c.in_ok-say_piece.ensures.says c.in_ok-say_piece.ensures.some

pub returns : goal.returns
returns g c =
    walk-whole g.W.Store.Disk.state c.args.spool.now c.loop-number.spool (g.W.Machine.state c.args.world.now) (g.W.Machine.state c.loop-number.world) c.loop-number.text.items c.loop-number.gate c.loop-number.number c.count-count.result
    (counts-of (g.W.Store.Disk.state c.args.spool.now.disk) c.count-count.result (c.count-count.ensures.list c.requires.opened)) (omega (arith, c.loop-number-test.false, c.loop-number.auto.number-end)) c.loop-number.invariant
