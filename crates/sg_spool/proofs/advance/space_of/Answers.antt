use Rattle.std.proofs.Common.{◌≡◌, ◌≤◌, ◌<◌, ◌-◌, ◌∙◌, ℕ, suc, length, ap, subst, sym, refl, arith, None}
use Rattle.sg_device.proofs.DiskCalls.{content_same}
use Rattle.sg_spool.specs.Places.{gate_past, Remains}
use Rattle.sg_spool.specs.Ring.{space}
use Rattle.sg_spool.proofs.Measuring.{IsBehindGate, behind_more}
use Rattle.sg_spool.proofs.Remaining.{remains_of}
use Rattle.sg_spool.proofs.Rings.{row_between}
use Rattle.sg_spool.proofs.advance.space_of.Goals as goal

pub loop-left-init : goal.loop-left-init
loop-left-init g c =
    let places = c.args.places in
    let none : c.args.n - c.args.n ≡ 0 = omega arith in
    record {
      range = omega arith;
      inside = omega arith;
      told = refl;
      later = omega arith;
      still = refl;
      behind = λ b told es enough first laid.
          subst (λ (k : ℕ). IsBehindGate b places.jump places.end k c.gate_past-gate.result 0 c.args.first es) (sym none) (record {
            remains = subst (λ (k : ℕ). Remains b places.jump k es places.end) (sym c.gate_past-gate.ensures) (remains_of places.jump places.head places.end es b laid);
            sized = refl;
            first = first;
          });
    }

pub loop-left-preserved : goal.loop-left-preserved
loop-left-preserved g c =
    let l = c.loop-left in
    let places = c.args.places in
    let more : suc (c.args.n - l.left) ≡ c.args.n - (l.left - 1) = omega (arith, l.invariant.range, c.loop-left-test.true) in
    record {
      range = omega (arith, l.invariant.range);
      inside = c.past-size.ensures.inside;
      told = c.first_size.ensures.told ∙ l.invariant.told;
      later = omega (arith, l.invariant.later, c.first_size.ensures.cause.later);
      still = c.in_ok-length.ensures.cause.well ∙ l.invariant.still;
      behind = λ b told es enough first laid.
          let told1 = content_same (g.D.Disk.state c.args.disk.now) (g.D.Disk.state l.disk) l.invariant.told ∙ told in
          let small = g.met.D.Disk.short c.args.disk.now b told in
          let lt : c.args.n - l.left < length es = omega (arith, enough, l.invariant.range, c.loop-left-test.true) in
          let all : space es ≤ c.live-most.result = omega (arith, c.live-most.ensures, row_between places.jump b places.head places.end es laid.row) in
          subst (λ (k : ℕ). IsBehindGate b places.jump places.end k c.gate_past-gate-in-loop-left.result c.past-size.result None es) more
          (behind_more b places.jump places.end (c.args.n - l.left) l.gate l.size c.in_ok-length.length c.gate_past-gate-in-loop-left.result c.past-size.result c.live-most.result l.known es lt all (l.invariant.behind b told es enough first laid)
          (λ p known entry. c.in_ok-length.ensures.size b told1 p known entry)
          (λ inside. c.gate_past-gate-in-loop-left.ensures ∙ ap (λ (k : ℕ). gate_past places.jump k) (omega (arith, inside, small, c.saturating_add.ensures, c.saturating_add-in-loop-left.ensures)))
          c.past-size.ensures.size);
    }
