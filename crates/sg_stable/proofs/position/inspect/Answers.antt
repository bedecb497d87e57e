use Rattle.std.proofs.Common.{◌≡◌, inl, inr, ◌∙◌, ℕ, length, subst, arith}
use Rattle.sg_stable.specs.Cell.{AreZero, IsFirstNonzero}
use Rattle.sg_device.proofs.Parts.{read_zeros, zeros_at}
use Rattle.sg_device.proofs.DiskCalls.{content_same}
use Rattle.sg_stable.proofs.Looking.{nonzero_there, zeros_there, position_there}
use Rattle.sg_stable.proofs.position.inspect.Goals as goal

pub returns-in-Some-clause-reason : goal.returns-in-Some-clause-reason
returns-in-Some-clause-reason g c = λ b told.
    let at_read = content_same (g.D.Disk.state c.args.disk.now) (g.D.Disk.state c.len.new.self) c.len.ensures.told ∙ told in
    inl (nonzero_there 128 b c.read_at.new.into (read_zeros c.in_ok-read_at.field-0 b _ c.read_at.new.into (c.in_ok-read_at.ensures.bytes b at_read) (zeros_at 128)) c.in-Some.at (subst (λ (n : ℕ). IsFirstNonzero n c.in-Some.at c.read_at.new.into) c.read_at.auto.into c.in-Some.ensures.found))

pub returns-then-len-ne128-clause-reason : goal.returns-then-len-ne128-clause-reason
returns-then-len-ne128-clause-reason g c = λ b told.
    let at_read = content_same (g.D.Disk.state c.args.disk.now) (g.D.Disk.state c.len.new.self) c.len.ensures.told ∙ told in
    let long : c.in_ok-len.len ≡ length b = c.in_ok-len.ensures.length b told in
    inr (
      zeros_there 128 b c.read_at.new.into (read_zeros c.in_ok-read_at.field-0 b _ c.read_at.new.into (c.in_ok-read_at.ensures.bytes b at_read) (zeros_at 128)) (subst (λ (n : ℕ). AreZero n c.read_at.new.into) c.read_at.auto.into c.in_default.ensures.none),
      λ is. c.if-len-ne128.true (long ∙ is),
      omega (arith, c.min.ensures, long),
    )

pub returns-clause-found : goal.returns-clause-found
returns-clause-found g c =
    let d0 = g.D.Disk.state c.args.disk.now in
    let d1 = g.D.Disk.state c.len.new.self in
    let d2 = g.D.Disk.state c.read_at.new.self in
    let cell = c.in_ok-cell.cell in
    record {
      position = λ b told.
          let at_read = content_same d0 d1 c.len.ensures.told ∙ told in
          let at_cell = content_same d1 d2 c.read_at.ensures.told ∙ at_read in
          position_there b c.read_at.new.into (read_zeros c.in_ok-read_at.field-0 b _ c.read_at.new.into (c.in_ok-read_at.ensures.bytes b at_read) (zeros_at 128))
          cell.selector cell.value c.in_ok-len.len (subst (λ (n : ℕ). AreZero n c.read_at.new.into) c.read_at.auto.into c.in_default.ensures.none) (c.in_ok-len.ensures.length b told) c.if-len-ne128.false (c.in_ok-cell.ensures.cell b at_cell);
      has_cell = λ b told. c.in_ok-cell.ensures.cell b (content_same d1 d2 c.read_at.ensures.told ∙ content_same d0 d1 c.len.ensures.told ∙ told);
      opened = c.in_ok-cell.ensures.opened;
    }

pub returns-clause-well : goal.returns-clause-well
returns-clause-well g c = c.in_ok-cell.ensures.cause.well ∙ c.in_ok-read_at.ensures.cause.well ∙ c.in_ok-len.ensures.cause.well
