use Rattle.std.proofs.Common.{inl, inr, ⊎_elim, ◌∙◌, ◌+◌, sym, subst, arith}
use Rattle.sg_spool.specs.Ring.{IsRow}
use Rattle.sg_spool.specs.Opening.{IsDamagedWalk}
use Rattle.sg_spool.specs.Walk.{IsGate}
use Rattle.sg_spool.proofs.Walking.{below_of, goes_past, jumps_to_head}
use Rattle.sg_spool.proofs.walk.next_step.Goals as goal

pub returns-then-head-eq64-clause-leads : goal.returns-then-head-eq64-clause-leads
returns-then-head-eq64-clause-leads c = λ b long at_place is.
    let jumps = subst (IsGate b c.args.place.gate) c.in-Jump.is is in
    let at_64 = c.if-head-eq64.true in
    subst (λ h. IsDamagedWalk h 64 b) (sym at_64)
    (jumps_to_head b c.args.place.jump c.args.place.gate at_place.entries (sym c.is_some-in-Jump.ensures ∙ c.if-is_some-2.false) (subst (λ h. IsRow c.args.place.jump b h c.args.place.gate at_place.entries) at_64 at_place.row) jumps)

pub returns-else-is_some-clause-leads : goal.returns-else-is_some-clause-leads
returns-else-is_some-clause-leads c = λ b long at_place is.
    let has = subst (IsGate b c.args.place.gate) c.in-Entry.is is in
    let below = below_of c.args.place.jump c.args.head (c.args.place.gate + 5 + c.in-Entry.size)
    (⊎_elim (λ some. inl (sym c.is_some.ensures ∙ some.0, some.1)) (λ none. inr (sym c.is_some.ensures ∙ none)) c.else-is_some.either) in
    goes_past b c.args.head c.in-Entry.size c.saturating_add.result c.args.place at_place has below (omega (arith, c.saturating_add.ensures))
