use Rattle.std.proofs.lemmas.Bool.{cases_lt, false≢true}
use Rattle.sg_spool.proofs.Rewriting.{written_long}
use Rattle.std.proofs.Common.{◌+◌, ◌^◌, inl, inr, arith, List, ℕ, length, subst, ap}
use Rattle.sg_device.specs.DiskBytes.{Written}
use Rattle.sg_device.specs.Disk.{content, Changes}
use Rattle.sg_device.proofs.DiskCalls.{write_elapses, write_written}
use Rattle.sg_spool.proofs.Chains.{elapses_as}
use Rattle.sg_spool.proofs.Copying.{beyond_torn}
use Rattle.sg_spool.proofs.RewriteCalls.{added_changes}
use Rattle.sg_spool.proofs.rewrite.write_block.Goals as goal

pub returns-in_err-write_at-clause-images : goal.returns-in_err-write_at-clause-images
returns-in_err-write_at-clause-images g c = elapses_as (g.D.Disk.state c.args.disk.now) (g.D.Disk.state c.write_at.new.self) (beyond_torn c.args.at (length c.written.result.now)) (write_elapses (g.D.Disk.state c.args.disk.now) (g.D.Disk.state c.write_at.new.self) c.args.at c.written.result.now c.write_at.result c.write_at.ensures.told)

pub returns-clause-images : goal.returns-clause-images
returns-clause-images g c = elapses_as (g.D.Disk.state c.args.disk.now) (g.D.Disk.state c.write_at.new.self) (beyond_torn c.args.at (length c.written.result.now)) (write_elapses (g.D.Disk.state c.args.disk.now) (g.D.Disk.state c.write_at.new.self) c.args.at c.written.result.now c.write_at.result c.write_at.ensures.told)

pub returns-clause-added : goal.returns-clause-added
returns-clause-added g c = added_changes c.args.last c.args.at c.args.block.now (content (g.D.Disk.state c.args.disk.now)) (content (g.D.Disk.state c.write_at.new.self)) c.written.ensures.payload
    (subst (λ (l : List ℕ). Changes (Written c.args.at l) (content (g.D.Disk.state c.args.disk.now)) (content (g.D.Disk.state c.write_at.new.self))) c.written.ensures.bytes (write_written (g.D.Disk.state c.args.disk.now) (g.D.Disk.state c.write_at.new.self) c.args.at c.written.result.now c.in_ok-write_at.ensures.told))

pub returns-clause-inside : goal.returns-clause-inside
returns-clause-inside g c = elim (cases_lt (c.args.at + 5 + length c.args.block.now) (2 ^ 63)) [
  | inl inside ↦ inside
  | inr past ↦
      let long = ap length c.written.ensures.bytes in
      let most = written_long c.args.last c.args.block.now in
      absurd (let failed = c.in_ok-write_at.ensures.past_end (omega (arith, past, long, most)) in false≢true failed)
]
