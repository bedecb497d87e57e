use Rattle.std.proofs.Common.{◌⊎◌, inl, inr, ◌∙◌, ◌<◌, ◌≤◌, ◌+◌, ◌^◌, sym, refl, arith, length}
use Rattle.sg_spool.proofs.Walking.{jump_there, entry_there, none_there}
use Rattle.sg_spool.proofs.walk.gate_at.Goals as goal
use Rattle.sg_spool.proofs.walk.gate_at.Goals.{then-size-via-then-size, then-size-via-else-size+then-gate-size}

pub returns-then-size-eq0-clause-found : goal.returns-then-size-eq0-clause-found
returns-then-size-eq0-clause-found g c = λ b told. jump_there c.args.gate c.in_ok-count.count b _ c.read_at.new.into (c.in_ok-count.ensures.bytes b told) refl c.read_at.auto.into c.if-count-lt5.false c.if-bytes-eq0.false (sym c.size_of-size.ensures ∙ c.if-size-eq0.true)

pub returns-then-size-clause-found : goal.returns-then-size-clause-found
returns-then-size-clause-found g c = λ b told.
    let long = c.requires.whole b told in
    let bad : (2 ^ 30 + 64 < c.size_of-size.result) ⊎ (length b ≤ c.args.gate + 5 + c.size_of-size.result) = elim c.then-size.branch [
      | then-size-via-then-size w ↦ inl (omega (arith, w.if-size.true))
      | then-size-via-else-size+then-gate-size w ↦ inr (omega (arith, w.if-gate-size.true, long))
    ] in
    none_there c.args.gate c.in_ok-count.count b _ c.read_at.new.into (c.in_ok-count.ensures.bytes b told) refl c.read_at.auto.into c.if-count-lt5.false c.size_of-size.result (sym c.size_of-size.ensures) (omega (arith, c.if-size-eq0.false)) bad c.if-bytes-eq0.false

pub returns-clause-found : goal.returns-clause-found
returns-clause-found g c = λ b told.
    let long = c.requires.whole b told in
    entry_there c.args.gate c.in_ok-count.count b _ c.read_at.new.into (c.in_ok-count.ensures.bytes b told) refl c.read_at.auto.into c.if-count-lt5.false c.size_of-size.result c.if-bytes-eq0.false (sym c.size_of-size.ensures) (omega (arith, c.if-size-eq0.false)) c.if-size.false (omega (arith, c.if-gate-size.false, long))
