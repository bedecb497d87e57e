use Rattle.std.proofs.Common.{ℕ, length, ap, subst, sym, rules}
use Rattle.sg_device.specs.Disk.{DiskState, Elapses}
use Rattle.sg_spool.specs.Places.{HasRoom, AreCompact, bound}
use Rattle.sg_spool.specs.Steps.{FileGrows}
use Rattle.sg_spool.specs.declared.rows.Rows.{Rows}
use Rattle.sg_spool.proofs.Rooms.{after_stage, within_stage, staged_rows, compact_room}
use Rattle.sg_spool.proofs.room.stage_block.Goals as goal

pub returns-in_err-ahead-clause-within : goal.returns-in_err-ahead-clause-within
returns-in_err-ahead-clause-within g c = λ list staged held. within_stage c.make_room.new.cell c.args.rows c.in_ok-roomy.roomy list staged (g.D.Disk.state c.args.disk.now) (g.D.Disk.state c.make_room.new.disk) (g.D.Disk.state c.stage_entry.new.disk) c.stage_entry.ensures.images (c.make_room.ensures.within list staged held) (c.in_ok-roomy.ensures.held list staged held)

pub returns-clause-within : goal.returns-clause-within
returns-clause-within g c = λ list staged held. within_stage c.make_room.new.cell c.args.rows c.in_ok-roomy.roomy list staged (g.D.Disk.state c.args.disk.now) (g.D.Disk.state c.make_room.new.disk) (g.D.Disk.state c.stage_entry.new.disk) c.stage_entry.ensures.images (c.make_room.ensures.within list staged held) (c.in_ok-roomy.ensures.held list staged held)

pub returns-clause-staged : goal.returns-clause-staged
returns-clause-staged g c = λ list staged held. after_stage c.make_room.new.cell c.args.rows c.in_ok-roomy.roomy c.in_ok-ahead.ahead list staged c.args.block.now (g.D.Disk.state c.make_room.new.disk) (g.D.Disk.state c.stage_entry.new.disk) c.saturating_add.result c.in_ok-roomy.ensures.rows.rows c.stage_entry.ensures.images c.saturating_add.ensures
    (λ fs qs number told. c.in_ok-ahead.ensures.staged c.make_room.new.cell fs qs number told) (c.in_ok-roomy.ensures.held list staged held)

pub returns-clause-rows : goal.returns-clause-rows
returns-clause-rows g c = record {
  rows = staged_rows c.in_ok-roomy.roomy c.in_ok-ahead.ahead c.in_ok-roomy.roomy.count c.saturating_add.result (length c.args.block.now) c.in_ok-roomy.ensures.rows.rows c.saturating_add.ensures c.in_ok-ahead.ensures.places.ordered c.in_ok-ahead.ensures.places.head c.in_ok-ahead.ensures.places.past c.in_ok-ahead.ensures.places.live;
  total = search rules;
  live = search rules;
  compact = search rules;
}

pub returns-in_err-ahead-clause-short : goal.returns-in_err-ahead-clause-short
returns-in_err-ahead-clause-short g c = λ compact.
    let room = compact_room c.args.capacity c.args.rows.ahead.jump c.args.rows.ahead.head c.args.rows.ahead.end (length c.args.block.now) c.requires.rows.ahead c.requires.fits compact in
    let sized = subst (λ (k : ℕ). HasRoom c.args.rows.ahead.jump c.args.rows.ahead.head c.args.rows.ahead.end k) (sym c.size.ensures.size) room in
    subst (λ (d : DiskState). Elapses (FileGrows (bound c.args.capacity)) d (g.D.Disk.state c.stage_entry.new.disk)) (ap g.D.Disk.state (c.make_room.ensures.untouched sized))
    (c.stage_entry.ensures.short (subst (λ (r : Rows). AreCompact c.args.capacity r.ahead.jump r.ahead.head r.ahead.end) (sym (c.in_ok-roomy.ensures.stays sized)) compact))

pub returns-clause-short : goal.returns-clause-short
returns-clause-short g c = λ compact.
    let room = compact_room c.args.capacity c.args.rows.ahead.jump c.args.rows.ahead.head c.args.rows.ahead.end (length c.args.block.now) c.requires.rows.ahead c.requires.fits compact in
    let sized = subst (λ (k : ℕ). HasRoom c.args.rows.ahead.jump c.args.rows.ahead.head c.args.rows.ahead.end k) (sym c.size.ensures.size) room in
    subst (λ (d : DiskState). Elapses (FileGrows (bound c.args.capacity)) d (g.D.Disk.state c.stage_entry.new.disk)) (ap g.D.Disk.state (c.make_room.ensures.untouched sized))
    (c.stage_entry.ensures.short (subst (λ (r : Rows). AreCompact c.args.capacity r.ahead.jump r.ahead.head r.ahead.end) (sym (c.in_ok-roomy.ensures.stays sized)) compact))
