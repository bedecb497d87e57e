use Rattle.std.proofs.Common.{◌∙◌, ℕ, List, length, ap, subst, arith}
use Rattle.std.specs.Prelude.{◌==◌}
use Rattle.sg_device.specs.DiskBytes.{Torn, Written}
use Rattle.sg_device.proofs.DiskCalls.{write_elapses, write_written}
use Rattle.sg_spool.specs.Steps.{Spares, FileGrows}
use Rattle.sg_spool.proofs.Behind.{length_front}
use Rattle.sg_spool.proofs.Chains.{elapses_as, elapses_join}
use Rattle.sg_spool.proofs.Rings.{spares_refl, spares_trans}
use Rattle.sg_spool.proofs.Staging.{is_zero, is_more, front_list, jump_list, told_front, grows_torn, grows_lay, grows_refl, grows_trans}
use Rattle.sg_spool.proofs.stage.stage_in_front.Goals as goal

pub returns-in_err-write_at-clause-images : goal.returns-in_err-write_at-clause-images
returns-in_err-write_at-clause-images g c = (elapses_as (g.D.Disk.state c.args.disk.now) (g.D.Disk.state c.write_at.new.self) (λ d e torn. front_list c.args.rows.list c.args.rows.ahead c.args.rows.staged (length c.args.block.now) c.requires.rows.list c.requires.rows.ahead c.requires.rows.apart c.requires.row c.requires.room d e (subst (λ (k : ℕ). Torn 64 k d e) (ap length c.bytes.ensures.bytes ∙ length_front c.args.block.now) torn)) (write_elapses (g.D.Disk.state c.args.disk.now) (g.D.Disk.state c.write_at.new.self) 64 c.bytes.result.now c.write_at.result c.write_at.ensures.told))

pub returns-in_err-lay-clause-images : goal.returns-in_err-lay-clause-images
returns-in_err-lay-clause-images g c = elapses_join (Spares c.args.rows.list.jump c.args.rows.list.head c.args.rows.list.end) (g.D.Disk.state c.args.disk.now) (g.D.Disk.state c.write_at.new.self) (g.D.Disk.state c.lay.new.disk) (spares_refl c.args.rows.list.jump c.args.rows.list.head c.args.rows.list.end) (spares_trans c.args.rows.list.jump c.args.rows.list.head c.args.rows.list.end) (elapses_as (g.D.Disk.state c.args.disk.now) (g.D.Disk.state c.write_at.new.self) (λ d e torn. front_list c.args.rows.list c.args.rows.ahead c.args.rows.staged (length c.args.block.now) c.requires.rows.list c.requires.rows.ahead c.requires.rows.apart c.requires.row c.requires.room d e (subst (λ (k : ℕ). Torn 64 k d e) (ap length c.bytes.ensures.bytes ∙ length_front c.args.block.now) torn)) (write_elapses (g.D.Disk.state c.args.disk.now) (g.D.Disk.state c.write_at.new.self) 64 c.bytes.result.now c.write_at.result c.write_at.ensures.told)) (elapses_as (g.D.Disk.state c.write_at.new.self) (g.D.Disk.state c.lay.new.disk) (λ d e torn. jump_list c.args.rows.list c.args.rows.ahead c.args.rows.staged c.requires.rows.list c.requires.rows.ahead c.requires.rows.apart c.requires.row (c.args.rows.staged == 0) (is_zero c.args.rows.staged) (is_more c.args.rows.staged) d e torn) c.lay.ensures.images)

pub returns-clause-images : goal.returns-clause-images
returns-clause-images g c = elapses_join (Spares c.args.rows.list.jump c.args.rows.list.head c.args.rows.list.end) (g.D.Disk.state c.args.disk.now) (g.D.Disk.state c.write_at.new.self) (g.D.Disk.state c.lay.new.disk) (spares_refl c.args.rows.list.jump c.args.rows.list.head c.args.rows.list.end) (spares_trans c.args.rows.list.jump c.args.rows.list.head c.args.rows.list.end) (elapses_as (g.D.Disk.state c.args.disk.now) (g.D.Disk.state c.write_at.new.self) (λ d e torn. front_list c.args.rows.list c.args.rows.ahead c.args.rows.staged (length c.args.block.now) c.requires.rows.list c.requires.rows.ahead c.requires.rows.apart c.requires.row c.requires.room d e (subst (λ (k : ℕ). Torn 64 k d e) (ap length c.bytes.ensures.bytes ∙ length_front c.args.block.now) torn)) (write_elapses (g.D.Disk.state c.args.disk.now) (g.D.Disk.state c.write_at.new.self) 64 c.bytes.result.now c.write_at.result c.write_at.ensures.told)) (elapses_as (g.D.Disk.state c.write_at.new.self) (g.D.Disk.state c.lay.new.disk) (λ d e torn. jump_list c.args.rows.list c.args.rows.ahead c.args.rows.staged c.requires.rows.list c.requires.rows.ahead c.requires.rows.apart c.requires.row (c.args.rows.staged == 0) (is_zero c.args.rows.staged) (is_more c.args.rows.staged) d e torn) c.lay.ensures.images)

pub returns-in_err-write_at-clause-short : goal.returns-in_err-write_at-clause-short
returns-in_err-write_at-clause-short g c = λ most front back. (elapses_as (g.D.Disk.state c.args.disk.now) (g.D.Disk.state c.write_at.new.self) (λ d e torn. grows_torn most 64 (length c.bytes.result.now) d e (omega (arith, front, ap length c.bytes.ensures.bytes, length_front c.args.block.now)) torn) (write_elapses (g.D.Disk.state c.args.disk.now) (g.D.Disk.state c.write_at.new.self) 64 c.bytes.result.now c.write_at.result c.write_at.ensures.told))

pub returns-in_err-lay-clause-short : goal.returns-in_err-lay-clause-short
returns-in_err-lay-clause-short g c = λ most front back. elapses_join (FileGrows most) (g.D.Disk.state c.args.disk.now) (g.D.Disk.state c.write_at.new.self) (g.D.Disk.state c.lay.new.disk) (grows_refl most) (grows_trans most) (elapses_as (g.D.Disk.state c.args.disk.now) (g.D.Disk.state c.write_at.new.self) (λ d e torn. grows_torn most 64 (length c.bytes.result.now) d e (omega (arith, front, ap length c.bytes.ensures.bytes, length_front c.args.block.now)) torn) (write_elapses (g.D.Disk.state c.args.disk.now) (g.D.Disk.state c.write_at.new.self) 64 c.bytes.result.now c.write_at.result c.write_at.ensures.told)) (elapses_as (g.D.Disk.state c.write_at.new.self) (g.D.Disk.state c.lay.new.disk) (λ d e torn. grows_lay most c.args.rows.ahead.end 5 (c.args.rows.staged == 0) d e (omega arith) back torn) c.lay.ensures.images)

pub returns-clause-short : goal.returns-clause-short
returns-clause-short g c = λ most front back. elapses_join (FileGrows most) (g.D.Disk.state c.args.disk.now) (g.D.Disk.state c.write_at.new.self) (g.D.Disk.state c.lay.new.disk) (grows_refl most) (grows_trans most) (elapses_as (g.D.Disk.state c.args.disk.now) (g.D.Disk.state c.write_at.new.self) (λ d e torn. grows_torn most 64 (length c.bytes.result.now) d e (omega (arith, front, ap length c.bytes.ensures.bytes, length_front c.args.block.now)) torn) (write_elapses (g.D.Disk.state c.args.disk.now) (g.D.Disk.state c.write_at.new.self) 64 c.bytes.result.now c.write_at.result c.write_at.ensures.told)) (elapses_as (g.D.Disk.state c.write_at.new.self) (g.D.Disk.state c.lay.new.disk) (λ d e torn. grows_lay most c.args.rows.ahead.end 5 (c.args.rows.staged == 0) d e (omega arith) back torn) c.lay.ensures.images)

pub returns-clause-staged : goal.returns-clause-staged
returns-clause-staged g c = λ cell list staged number told b is.
    let mid = c.in_ok-lay.ensures.written.back b is in
    let from = (write_written (g.D.Disk.state c.args.disk.now) (g.D.Disk.state c.write_at.new.self) 64 c.bytes.result.now c.in_ok-write_at.ensures.told).back mid.0 mid.1 in
    told_front cell c.args.rows.list c.args.rows.ahead c.args.rows.staged list staged c.args.block.now c.bytes.ensures.payload c.requires.rows.list c.requires.rows.ahead c.requires.rows.apart c.requires.row c.requires.room number (c.args.rows.staged == 0) (is_zero c.args.rows.staged) (is_more c.args.rows.staged) from.0 mid.0 b (told from.0 from.1) (subst (λ (l : List ℕ). Written 64 l from.0 mid.0) c.bytes.ensures.bytes from.2) mid.2
