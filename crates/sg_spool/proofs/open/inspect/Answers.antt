use Rattle.std.proofs.Common.{◌≡◌, inl, inr, ◌∙◌, ◌≤◌, subst, ℕ, length, arith}
use Rattle.std.proofs.lemmas.Result.{err_from_is_err_and}
use Rattle.sg_device.proofs.DiskCalls.{content_same}
use Rattle.sg_device.proofs.Parts.{read_zeros, zeros_at}
use Rattle.sg_spool.proofs.Looking.{held_at, head_out, reason_of, walk_bad, cell_there}
use Rattle.sg_stable.specs.Cell.{AreZero, IsFirstNonzero}
use Rattle.sg_stable.proofs.Looking.{nonzero_there, zeros_there}
use Rattle.sg_spool.proofs.open.inspect.Goals as goal

pub returns-in-Some-clause-reason : goal.returns-in-Some-clause-reason
returns-in-Some-clause-reason g c = λ b told.
    let at_read = content_same (g.D.Disk.state c.args.disk.now) (g.D.Disk.state c.len.new.self) c.len.ensures.told ∙ told in
    inl (nonzero_there 64 b c.read_at.new.into (read_zeros c.in_ok-read_at.field-0 b _ c.read_at.new.into (c.in_ok-read_at.ensures.bytes b at_read) (zeros_at 64)) c.in-Some.at (subst (λ (n : ℕ). IsFirstNonzero n c.in-Some.at c.read_at.new.into) c.read_at.auto.into c.in-Some.ensures.found))

pub returns-then-len-lt128-clause-reason : goal.returns-then-len-lt128-clause-reason
returns-then-len-lt128-clause-reason g c = λ b told.
    let at_read = content_same (g.D.Disk.state c.args.disk.now) (g.D.Disk.state c.len.new.self) c.len.ensures.told ∙ told in
    let long : c.in_ok-len.len ≡ length b = c.in_ok-len.ensures.length b told in
    let zeros = zeros_there 64 b c.read_at.new.into (read_zeros c.in_ok-read_at.field-0 b _ c.read_at.new.into (c.in_ok-read_at.ensures.bytes b at_read) (zeros_at 64)) (subst (λ (n : ℕ). AreZero n c.read_at.new.into) c.read_at.auto.into c.in_default.ensures.none) in
    inr (zeros, inl (omega (arith, long, c.if-len-lt128.true), long))

pub returns-then-head-len-clause-reason : goal.returns-then-head-len-clause-reason
returns-then-head-len-clause-reason g c = λ b told.
    let at_read = content_same (g.D.Disk.state c.args.disk.now) (g.D.Disk.state c.len.new.self) c.len.ensures.told ∙ told in
    let long : c.in_ok-len.len ≡ length b = c.in_ok-len.ensures.length b told in
    let same = read_zeros c.in_ok-read_at.field-0 b _ c.read_at.new.into (c.in_ok-read_at.ensures.bytes b at_read) (zeros_at 64) in
    let zeros = zeros_there 64 b c.read_at.new.into same (subst (λ (n : ℕ). AreZero n c.read_at.new.into) c.read_at.auto.into c.in_default.ensures.none) in
    let whole : 128 ≤ length b = omega (arith, long, c.if-len-lt128.false) in
    head_out b c.at_front-cell.result.selector c.at_front-cell.result.value c.saturating_add-head.result zeros whole (cell_there b c.read_at.new.into same c.read_at.auto.into whole c.at_front-cell.result c.at_front-cell.ensures.cell) (omega (arith, c.saturating_add-head.ensures)) (omega (arith, long, c.if-head-len.true))

pub returns-clause-found : goal.returns-clause-found
returns-clause-found g c = record {
  held = λ b told.
      let at_read = content_same (g.D.Disk.state c.args.disk.now) (g.D.Disk.state c.len.new.self) c.len.ensures.told ∙ told in
      let at_walk = content_same (g.D.Disk.state c.len.new.self) (g.D.Disk.state c.read_at.new.self) c.read_at.ensures.told ∙ at_read in
      let long : c.in_ok-len.len ≡ length b = c.in_ok-len.ensures.length b told in
      let same = read_zeros c.in_ok-read_at.field-0 b _ c.read_at.new.into (c.in_ok-read_at.ensures.bytes b at_read) (zeros_at 64) in
      let zeros = zeros_there 64 b c.read_at.new.into same (subst (λ (n : ℕ). AreZero n c.read_at.new.into) c.read_at.auto.into c.in_default.ensures.none) in
      let whole : 128 ≤ length b = omega (arith, long, c.if-len-lt128.false) in
      held_at b c.at_front-cell.result c.saturating_add-head.result c.in_ok-place.place zeros whole (cell_there b c.read_at.new.into same c.read_at.auto.into whole c.at_front-cell.result c.at_front-cell.ensures.cell) (omega (arith, c.saturating_add-head.ensures, c.if-head-len.false, c.in_ok-len.ensures.bound)) (omega (arith, long, c.if-head-len.false)) c.in_ok-place.ensures.ordered (c.in_ok-place.ensures.found b at_walk);
  ordered = c.in_ok-place.ensures.ordered;
  opened = c.at_front-cell.ensures.opened;
}

pub returns-in_err-place-clause-reason : goal.returns-in_err-place-clause-reason
returns-in_err-place-clause-reason g c =
    let p = err_from_is_err_and c.from_residual-in_err-place.result c.from_residual-in_err-place.ensures.1 in
    rw (p.1, p.2) (reason_of (g.D.Disk.state c.args.disk.now) (g.D.Disk.state c.read_at.new.self) (g.D.Disk.state c.walk_from.new.disk) c.saturating_add-head.result c.in_err-place.field-0.0
    (λ at bad b told.
    let at_read = content_same (g.D.Disk.state c.args.disk.now) (g.D.Disk.state c.len.new.self) c.len.ensures.told ∙ told in
    let at_walk = content_same (g.D.Disk.state c.len.new.self) (g.D.Disk.state c.read_at.new.self) c.read_at.ensures.told ∙ at_read in
    let long : c.in_ok-len.len ≡ length b = c.in_ok-len.ensures.length b told in
    let same = read_zeros c.in_ok-read_at.field-0 b _ c.read_at.new.into (c.in_ok-read_at.ensures.bytes b at_read) (zeros_at 64) in
    let zeros = zeros_there 64 b c.read_at.new.into same (subst (λ (n : ℕ). AreZero n c.read_at.new.into) c.read_at.auto.into c.in_default.ensures.none) in
    let whole : 128 ≤ length b = omega (arith, long, c.if-len-lt128.false) in
    walk_bad b c.at_front-cell.result.selector c.at_front-cell.result.value c.saturating_add-head.result at zeros whole (cell_there b c.read_at.new.into same c.read_at.auto.into whole c.at_front-cell.result c.at_front-cell.ensures.cell) (omega (arith, c.saturating_add-head.ensures, c.if-head-len.false, c.in_ok-len.ensures.bound)) (omega (arith, long, c.if-head-len.false)) (bad b at_walk))
    (omega (arith, c.len.ensures.cause.later, c.read_at.ensures.cause.later))
    c.in_err-place.ensures.reason)

pub returns-clause-well : goal.returns-clause-well
returns-clause-well g c = c.in_ok-place.ensures.well ∙ c.in_ok-read_at.ensures.cause.well ∙ c.in_ok-len.ensures.cause.well
