use Rattle.std.proofs.Common.{◌+◌, ◌%◌}
use Rattle.sg_stable.proofs.Cells.{slot_next}
use Rattle.sg_stable.proofs.Putting.{within1, within2, now2, outside2}
use Rattle.sg_stable.proofs.cell.Pair.put.Goals as goal

pub returns-in_err-write_slot-clause-within : goal.returns-in_err-write_slot-clause-within
returns-in_err-write_slot-clause-within g c = λ _. within1 c.args.self.now.selector ((c.args.self.now.selector + 1) % 256) c.args.self.now.value c.args.value (slot_next c.args.self.now.selector) c.ranges.value.fits (g.D.Disk.state c.args.disk.now) (c.requires c.if-self.false) (g.D.Disk.state c.write_slot.new.disk) c.write_slot.ensures.images

pub returns-in_err-write_selector-clause-within : goal.returns-in_err-write_selector-clause-within
returns-in_err-write_selector-clause-within g c = λ _. within2 c.args.self.now.selector ((c.args.self.now.selector + 1) % 256) c.args.self.now.value c.args.value (slot_next c.args.self.now.selector) c.ranges.value.fits (g.D.Disk.state c.args.disk.now) (c.requires c.if-self.false) (g.D.Disk.state c.write_slot.new.disk) c.write_slot.ensures.images c.in_ok-write_slot.ensures.written c.in_ok-write_slot.ensures.durable (g.D.Disk.state c.write_selector.new.disk) c.write_selector.ensures.images

pub returns-clause-within : goal.returns-clause-within
returns-clause-within g c = λ _. within2 c.args.self.now.selector ((c.args.self.now.selector + 1) % 256) c.args.self.now.value c.args.value (slot_next c.args.self.now.selector) c.ranges.value.fits (g.D.Disk.state c.args.disk.now) (c.requires c.if-self.false) (g.D.Disk.state c.write_slot.new.disk) c.write_slot.ensures.images c.in_ok-write_slot.ensures.written c.in_ok-write_slot.ensures.durable (g.D.Disk.state c.write_selector.new.disk) c.write_selector.ensures.images

pub returns-clause-outside : goal.returns-clause-outside
returns-clause-outside g c = outside2 c.args.self.now.selector ((c.args.self.now.selector + 1) % 256) c.args.self.now.value c.args.value (slot_next c.args.self.now.selector) c.ranges.value.fits (g.D.Disk.state c.args.disk.now) (c.requires c.if-self.false) c.in_ok-write_slot.ensures.written c.in_ok-write_selector.ensures.written

pub returns-clause-cell : goal.returns-clause-cell
returns-clause-cell g c = λ _. now2 c.args.self.now.selector ((c.args.self.now.selector + 1) % 256) c.args.self.now.value c.args.value (slot_next c.args.self.now.selector) c.ranges.value.fits (g.D.Disk.state c.args.disk.now) (c.requires c.if-self.false) (g.D.Disk.state c.write_slot.new.disk) c.write_slot.ensures.images c.in_ok-write_slot.ensures.written c.in_ok-write_slot.ensures.durable (g.D.Disk.state c.write_selector.new.disk) c.write_selector.ensures.images c.in_ok-write_selector.ensures.written c.in_ok-write_selector.ensures.durable
