use Rattle.std.proofs.Common.{◌≡◌, ◌<◌, ◌+◌, ℕ, get_or, ◌-◌, ◌*◌, refl, inl, inr, ◌⊎◌, arith}
use Rattle.sg_frame.proofs.CountLemmas.{digit_next, digit_bad, space_next, other_bad}
use Rattle.sg_frame.proofs.scan.read_count.Goals as goal
use Rattle.sg_frame.proofs.scan.read_count.Goals.{then-value-eq0-via-then-value-eq0, then-value-eq0-via-else-value-eq0+then-value-limit}

-- src/scan.rt:100:34
pub returns-in-32 : goal.returns-in-32
returns-in-32 c = space_next c.args.limit c.args.bytes.now c.loop-i.i c.loop-i.value c.loop-i.invariant.1 (omega arith) c.in-32.is c.if-value-gt0.true c.loop-i.invariant.0

-- src/scan.rt:97:21
pub returns-then-value-eq0 : goal.returns-then-value-eq0
returns-then-value-eq0 c =
    let value = c.loop-i.value * 10 + (get_or c.args.bytes.now c.loop-i.i 0 - 48) in
    let limit : ℕ = c.args.limit in
    let wrong : (value ≡ 0) ⊎ (limit < value) =
    elim c.then-value-eq0.branch [ then-value-eq0-via-then-value-eq0 w ↦ inl (omega arith) | then-value-eq0-via-else-value-eq0+then-value-limit w ↦ inr (omega arith) ] in
    digit_bad c.args.limit c.args.bytes.now c.loop-i.i c.loop-i.value value c.loop-i.invariant.1 (omega arith) (omega arith) (omega arith) refl wrong

-- src/scan.rt:101:18
pub returns-in_default : goal.returns-in_default
returns-in_default c =
    other_bad c.args.limit c.args.bytes.now c.loop-i.i c.loop-i.value c.loop-i.invariant.1 (omega arith) (inl (omega (arith, c.in-32.is))) (inr (omega arith))

-- src/scan.rt:101:18
pub returns-in_default-2 : goal.returns-in_default-2
returns-in_default-2 c =
    other_bad c.args.limit c.args.bytes.now c.loop-i.i c.loop-i.value c.loop-i.invariant.1 (omega arith) (inl (omega arith)) (inl (λ h. omega arith))

-- src/scan.rt:101:18
pub returns-in_default-3 : goal.returns-in_default-3
returns-in_default-3 c =
    other_bad c.args.limit c.args.bytes.now c.loop-i.i c.loop-i.value c.loop-i.invariant.1 (omega arith) (inr (omega arith)) (inl (λ h. omega arith))

-- src/scan.rt:92:5
pub loop-i-preserved : goal.loop-i-preserved
loop-i-preserved c =
    let value = c.loop-i.value * 10 + (get_or c.args.bytes.now c.loop-i.i 0 - 48) in
    (omega arith, digit_next c.args.limit c.args.bytes.now c.loop-i.i c.loop-i.value value c.loop-i.invariant.1 (omega arith) (omega arith) (omega arith) refl (omega arith) (omega arith))
