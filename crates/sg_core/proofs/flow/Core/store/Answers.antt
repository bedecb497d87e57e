use Rattle.std.proofs.Common.{ℕ, refl, subst}
use Rattle.sg_stores.specs.Positions.{WritesAt}
use Rattle.sg_core.specs.Answers.{store_act}
use Rattle.sg_core.proofs.Fits.{fit-at, is-position, mark-in-of, writes-at, answers-at}
use Rattle.sg_core.proofs.PositionCalls.{store-does}
use Rattle.sg_core.proofs.Whole.{whole-still}
use Rattle.sg_core.proofs.flow.Core.store.Goals as goal

pub mark-mark-requires : goal.mark-mark-requires
mark-mark-requires g c = (fit-at _ c.self.invariant.state c.args.i c.at-source.result.now c.self.invariant.at c.at-source.ensures).limit

pub write-requires : goal.write-requires
write-requires g c = is-position _ c.self.invariant.state c.args.i c.in-Some.s c.at-source.result.now c.self.invariant.at c.at-source.ensures c.in-Some.is

pub invariant_of-self : goal.invariant_of-self
invariant_of-self g c =
    let writes = subst (λ (w : ℕ). WritesAt c.self.inside.stores c.write.new.self c.in-Some.s w c.write.result) c.mark-mark.ensures c.write.ensures in
    whole-still _ _ (store_act c.args.i c.write.result) c.self.invariant
    (store-does _ _ c.args.i c.in-Some.s c.at-source.result.now c.write.result c.at-source.ensures c.in-Some.is writes refl refl refl)

pub returns-clause-does : goal.returns-clause-does
returns-clause-does g c =
    let writes = subst (λ (w : ℕ). WritesAt c.self.inside.stores c.write.new.self c.in-Some.s w c.write.result) c.mark-mark.ensures c.write.ensures in
    rw (← c.self.view_is) (store-does _ _ c.args.i c.in-Some.s c.at-source.result.now c.write.result c.at-source.ensures c.in-Some.is writes refl refl refl)

pub returns-clause-answer : goal.returns-clause-answer
returns-clause-answer g c =
    let writes = subst (λ (w : ℕ). WritesAt c.self.inside.stores c.write.new.self c.in-Some.s w c.write.result) c.mark-mark.ensures c.write.ensures in
    rw (← c.self.view_is) (λ s e.
    rw (mark-in-of c.self.inside.sources c.args.i c.at-source.result.now c.at-source.ensures)
    (answers-at c.self.inside.sources _ _ c.args.i c.in-Some.s s _ c.at-source.result.now c.write.result c.at-source.ensures c.in-Some.is writes e))

pub returns-clause-writes : goal.returns-clause-writes
returns-clause-writes g c =
    let writes = subst (λ (w : ℕ). WritesAt c.self.inside.stores c.write.new.self c.in-Some.s w c.write.result) c.mark-mark.ensures c.write.ensures in
    rw (← c.self.view_is) (λ s e.
    rw (mark-in-of c.self.inside.sources c.args.i c.at-source.result.now c.at-source.ensures)
    (writes-at c.self.inside.sources _ _ c.args.i c.in-Some.s s _ c.at-source.result.now c.write.result c.at-source.ensures c.in-Some.is writes e))
