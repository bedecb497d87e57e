use Rattle.std.proofs.Common.{◌+◌, ℕ, List, length, subst, sym}
use Rattle.std.specs.Prelude.{Bool}
use Rattle.sg_device.specs.Disk.{content, Changes, Elapses}
use Rattle.sg_device.specs.DiskBytes.{Torn, Written}
use Rattle.sg_device.proofs.DiskCalls.{write_elapses, write_written}
use Rattle.sg_spool.specs.Staging.{Lays, LaysTorn}
use Rattle.sg_spool.proofs.Staging.{rest_is, rest_long}
use Rattle.sg_spool.proofs.stage.lay.Goals as goal

pub returns-in_err-write_at-clause-images : goal.returns-in_err-write_at-clause-images
returns-in_err-write_at-clause-images g c = subst (λ (b : Bool). Elapses (LaysTorn b c.args.gate (length c.args.bytes.now)) (g.D.Disk.state c.args.disk.now) (g.D.Disk.state c.write_at.new.self)) (sym c.if-first.true) (subst (λ (n : ℕ). Elapses (Torn (c.args.gate + 1) n) (g.D.Disk.state c.args.disk.now) (g.D.Disk.state c.write_at.new.self)) (rest_long c.args.bytes.now) (write_elapses (g.D.Disk.state c.args.disk.now) (g.D.Disk.state c.write_at.new.self) (c.args.gate + 1) _ c.write_at.result c.write_at.ensures.told))

pub returns-then-first-clause-images : goal.returns-then-first-clause-images
returns-then-first-clause-images g c = subst (λ (b : Bool). Elapses (LaysTorn b c.args.gate (length c.args.bytes.now)) (g.D.Disk.state c.args.disk.now) (g.D.Disk.state c.write_at.new.self)) (sym c.if-first.true) (subst (λ (n : ℕ). Elapses (Torn (c.args.gate + 1) n) (g.D.Disk.state c.args.disk.now) (g.D.Disk.state c.write_at.new.self)) (rest_long c.args.bytes.now) (write_elapses (g.D.Disk.state c.args.disk.now) (g.D.Disk.state c.write_at.new.self) (c.args.gate + 1) _ c.write_at.result c.write_at.ensures.told))

pub returns-in_err-write_at-2-clause-images : goal.returns-in_err-write_at-2-clause-images
returns-in_err-write_at-2-clause-images g c = subst (λ (b : Bool). Elapses (LaysTorn b c.args.gate (length c.args.bytes.now)) (g.D.Disk.state c.args.disk.now) (g.D.Disk.state c.write_at-2.new.self)) (sym c.if-first.false) (write_elapses (g.D.Disk.state c.args.disk.now) (g.D.Disk.state c.write_at-2.new.self) c.args.gate c.args.bytes.now c.write_at-2.result c.write_at-2.ensures.told)

pub returns-clause-images : goal.returns-clause-images
returns-clause-images g c = subst (λ (b : Bool). Elapses (LaysTorn b c.args.gate (length c.args.bytes.now)) (g.D.Disk.state c.args.disk.now) (g.D.Disk.state c.write_at-2.new.self)) (sym c.if-first.false) (write_elapses (g.D.Disk.state c.args.disk.now) (g.D.Disk.state c.write_at-2.new.self) c.args.gate c.args.bytes.now c.write_at-2.result c.write_at-2.ensures.told)

pub returns-then-first-clause-written : goal.returns-then-first-clause-written
returns-then-first-clause-written g c = subst (λ (b : Bool). Changes (Lays b c.args.gate c.args.bytes.now) (content (g.D.Disk.state c.args.disk.now)) (content (g.D.Disk.state c.write_at.new.self))) (sym c.if-first.true) (subst (λ (l : List ℕ). Changes (Written (c.args.gate + 1) l) (content (g.D.Disk.state c.args.disk.now)) (content (g.D.Disk.state c.write_at.new.self))) (rest_is c.args.bytes.now) (write_written (g.D.Disk.state c.args.disk.now) (g.D.Disk.state c.write_at.new.self) (c.args.gate + 1) _ c.in_ok-write_at.ensures.told))

pub returns-clause-written : goal.returns-clause-written
returns-clause-written g c = subst (λ (b : Bool). Changes (Lays b c.args.gate c.args.bytes.now) (content (g.D.Disk.state c.args.disk.now)) (content (g.D.Disk.state c.write_at-2.new.self))) (sym c.if-first.false) (write_written (g.D.Disk.state c.args.disk.now) (g.D.Disk.state c.write_at-2.new.self) c.args.gate c.args.bytes.now c.in_ok-write_at-2.ensures.told)
