use Rattle.std.proofs.Common.{◌∙◌, ℕ, List, [], ◌∷◌, ◌++◌, length, ap, subst, arith}
use Rattle.std.specs.Prelude.{◌==◌}
use Rattle.sg_device.proofs.Disks.{told_on}
use Rattle.sg_spool.specs.Staging.{IsStaged, Lays, LaysTorn}
use Rattle.sg_spool.proofs.Behind.{length_front}
use Rattle.sg_spool.proofs.Chains.{elapses_as}
use Rattle.sg_spool.proofs.Staging.{is_zero, is_more, lay_spares, told_behind, grown, grows_lay}
use Rattle.sg_spool.proofs.stage.stage_behind.Goals as goal

pub returns-in_err-lay-clause-images : goal.returns-in_err-lay-clause-images
returns-in_err-lay-clause-images g c = elapses_as (g.D.Disk.state c.args.disk.now) (g.D.Disk.state c.lay.new.disk) (λ d e torn. lay_spares c.args.rows.list c.args.rows.ahead c.args.rows.staged (length c.args.block.now) c.requires.rows.list c.requires.rows.ahead c.requires.rows.apart c.requires.room (c.args.rows.staged == 0) (is_zero c.args.rows.staged) (is_more c.args.rows.staged) d e (subst (λ (k : ℕ). LaysTorn (c.args.rows.staged == 0) c.args.rows.ahead.end k d e) (ap length c.bytes.ensures.bytes ∙ length_front c.args.block.now) torn)) c.lay.ensures.images

pub returns-clause-images : goal.returns-clause-images
returns-clause-images g c = elapses_as (g.D.Disk.state c.args.disk.now) (g.D.Disk.state c.lay.new.disk) (λ d e torn. lay_spares c.args.rows.list c.args.rows.ahead c.args.rows.staged (length c.args.block.now) c.requires.rows.list c.requires.rows.ahead c.requires.rows.apart c.requires.room (c.args.rows.staged == 0) (is_zero c.args.rows.staged) (is_more c.args.rows.staged) d e (subst (λ (k : ℕ). LaysTorn (c.args.rows.staged == 0) c.args.rows.ahead.end k d e) (ap length c.bytes.ensures.bytes ∙ length_front c.args.block.now) torn)) c.lay.ensures.images

pub returns-in_err-lay-clause-short : goal.returns-in_err-lay-clause-short
returns-in_err-lay-clause-short g c = λ most near. elapses_as (g.D.Disk.state c.args.disk.now) (g.D.Disk.state c.lay.new.disk) (λ d e torn. grows_lay most c.args.rows.ahead.end (length c.bytes.result.now) (c.args.rows.staged == 0) d e (omega (arith, ap length c.bytes.ensures.bytes, length_front c.args.block.now)) (omega (arith, near, ap length c.bytes.ensures.bytes, length_front c.args.block.now)) torn) c.lay.ensures.images

pub returns-clause-short : goal.returns-clause-short
returns-clause-short g c = λ most near. elapses_as (g.D.Disk.state c.args.disk.now) (g.D.Disk.state c.lay.new.disk) (λ d e torn. grows_lay most c.args.rows.ahead.end (length c.bytes.result.now) (c.args.rows.staged == 0) d e (omega (arith, ap length c.bytes.ensures.bytes, length_front c.args.block.now)) (omega (arith, near, ap length c.bytes.ensures.bytes, length_front c.args.block.now)) torn) c.lay.ensures.images

pub returns-clause-staged : goal.returns-clause-staged
returns-clause-staged g c = λ cell list staged number told. told_on (IsStaged cell c.args.rows.list c.args.rows.ahead list staged) (IsStaged cell c.args.rows.list (grown c.args.rows.ahead (length c.args.block.now)) list (staged ++ c.args.block.now ∷ [])) c.in_ok-lay.ensures.written told
    (λ a b at put. told_behind cell c.args.rows.list c.args.rows.ahead c.args.rows.staged list staged c.args.block.now c.bytes.ensures.payload c.requires.rows.list c.requires.rows.ahead c.requires.rows.apart c.requires.room number (c.args.rows.staged == 0) (is_zero c.args.rows.staged) (is_more c.args.rows.staged) a b at (subst (λ (l : List ℕ). Lays (c.args.rows.staged == 0) c.args.rows.ahead.end l a b) c.bytes.ensures.bytes put))

pub returns-clause-inside : goal.returns-clause-inside
returns-clause-inside g c = omega (arith, c.in_ok-lay.ensures.inside, ap length c.bytes.ensures.bytes, length_front c.args.block.now)
