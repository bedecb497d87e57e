use Rattle.std.proofs.Common.{◌+◌, ℕ, ◌++◌, ◌∷◌, [], length, subst, sym, arith, Some}
use Rattle.sg_device.specs.Disk.{content, WhereTold}
use Rattle.sg_spool.specs.Places.{bound}
use Rattle.sg_spool.specs.Staging.{IsStaged}
use Rattle.sg_spool.proofs.Rooms.{front_room, row_none, compact_none, short_behind}
use Rattle.sg_spool.proofs.stage.stage_entry.Goals as goal

pub returns-in_err-stage_in_front-clause-short : goal.returns-in_err-stage_in_front-clause-short
returns-in_err-stage_in_front-clause-short g c = λ compact.
    let yes_ = c.wraps.ensures.yes c.if-wraps.true in
    let sized = c.size-size.ensures.size in
    let room = front_room c.args.capacity c.args.rows.ahead.jump c.args.rows.ahead.head c.args.rows.ahead.end (length c.args.block.now) yes_.0 c.requires.rows.ahead c.requires.fits (omega (arith, yes_.1, sized)) in
    let row = row_none c.args.rows.ahead.jump c.args.rows.ahead.head c.args.rows.ahead.end yes_.0 c.requires.rows.ahead in
    let low = compact_none c.args.capacity c.args.rows.ahead.jump c.args.rows.ahead.head c.args.rows.ahead.end yes_.0 compact in
    c.stage_in_front.ensures.short (bound c.args.capacity) (omega (arith, room.0, row.1, low)) (omega (arith, low))

pub returns-then-wraps-clause-short : goal.returns-then-wraps-clause-short
returns-then-wraps-clause-short g c = λ compact.
    let yes_ = c.wraps.ensures.yes c.if-wraps.true in
    let sized = c.size-size.ensures.size in
    let room = front_room c.args.capacity c.args.rows.ahead.jump c.args.rows.ahead.head c.args.rows.ahead.end (length c.args.block.now) yes_.0 c.requires.rows.ahead c.requires.fits (omega (arith, yes_.1, sized)) in
    let row = row_none c.args.rows.ahead.jump c.args.rows.ahead.head c.args.rows.ahead.end yes_.0 c.requires.rows.ahead in
    let low = compact_none c.args.capacity c.args.rows.ahead.jump c.args.rows.ahead.head c.args.rows.ahead.end yes_.0 compact in
    c.stage_in_front.ensures.short (bound c.args.capacity) (omega (arith, room.0, row.1, low)) (omega (arith, low))

pub returns-in_err-stage_behind-clause-short : goal.returns-in_err-stage_behind-clause-short
returns-in_err-stage_behind-clause-short g c = λ compact.
    let sized = c.size-size.ensures.size in
    let near = short_behind c.args.capacity c.args.rows.ahead.jump c.args.rows.ahead.head c.args.rows.ahead.end (length c.args.block.now) c.requires.rows.ahead c.requires.room (λ none. let le = c.wraps.ensures.no c.if-wraps.false none in omega (arith, le, sized)) compact in
    c.stage_behind.ensures.short (bound c.args.capacity) (omega (arith, near))

pub returns-clause-short : goal.returns-clause-short
returns-clause-short g c = λ compact.
    let sized = c.size-size.ensures.size in
    let near = short_behind c.args.capacity c.args.rows.ahead.jump c.args.rows.ahead.head c.args.rows.ahead.end (length c.args.block.now) c.requires.rows.ahead c.requires.room (λ none. let le = c.wraps.ensures.no c.if-wraps.false none in omega (arith, le, sized)) compact in
    c.stage_behind.ensures.short (bound c.args.capacity) (omega (arith, near))

pub returns-then-wraps-clause-staged : goal.returns-then-wraps-clause-staged
returns-then-wraps-clause-staged g c = λ cell list staged number told. subst (λ (k : ℕ). WhereTold (content (g.D.Disk.state c.stage_in_front.new.disk)) (IsStaged cell c.args.rows.list (record { jump = Some c.args.rows.ahead.end; head = c.args.rows.ahead.head; end = 69 + k }) list (staged ++ c.args.block.now ∷ []))) (sym c.size-size.ensures.size) (c.in_ok-stage_in_front.ensures.staged cell list staged number told)

pub returns-clause-staged : goal.returns-clause-staged
returns-clause-staged g c = λ cell list staged number told. subst (λ (k : ℕ). WhereTold (content (g.D.Disk.state c.stage_behind.new.disk)) (IsStaged cell c.args.rows.list (record { jump = c.args.rows.ahead.jump; head = c.args.rows.ahead.head; end = c.args.rows.ahead.end + 5 + k }) list (staged ++ c.args.block.now ∷ []))) (sym c.size-size.ensures.size) (c.in_ok-stage_behind.ensures.staged cell list staged number told)
