use Rattle.std.proofs.Common.{◌∙◌, refl, sym}
use Rattle.sg_core.specs.Answers.{rewind_act}
use Rattle.sg_core.proofs.Fits.{is-position, begun-in-of, writes-at, answers-at}
use Rattle.sg_core.proofs.PositionCalls.{rewind-does}
use Rattle.sg_core.proofs.Whole.{whole-still}
use Rattle.sg_core.proofs.flow.Core.rewind.Goals as goal

pub write-answer-requires : goal.write-answer-requires
write-answer-requires g c = is-position _ c.self.invariant.state c.args.i c.in-Some.s c.at.result.now c.self.invariant.at c.at.ensures c.in-Some.is

pub invariant_of-self : goal.invariant_of-self
invariant_of-self g c =
    let none = sym (begun-in-of c.self.inside.sources c.args.i c.at.result.now c.at.ensures) ∙ (rw (← c.self.view_is) at c.requires.none) in
    whole-still _ _ (rewind_act c.args.i c.write-answer.result) c.self.invariant
    (rewind-does _ _ c.args.i c.in-Some.s c.at.result.now c.write-answer.result c.at.ensures c.in-Some.is none c.write-answer.ensures c.start_anew.ensures refl refl)

pub returns-clause-does : goal.returns-clause-does
returns-clause-does g c =
    let none = sym (begun-in-of c.self.inside.sources c.args.i c.at.result.now c.at.ensures) ∙ (rw (← c.self.view_is) at c.requires.none) in
    rw (← c.self.view_is) (rewind-does _ _ c.args.i c.in-Some.s c.at.result.now c.write-answer.result c.at.ensures c.in-Some.is none c.write-answer.ensures c.start_anew.ensures refl refl)

pub returns-clause-answer : goal.returns-clause-answer
returns-clause-answer g c =
    rw (← c.self.view_is) (λ s e. answers-at c.self.inside.sources _ _ c.args.i c.in-Some.s s 0 c.at.result.now c.write-answer.result c.at.ensures c.in-Some.is c.write-answer.ensures e)

pub returns-clause-writes : goal.returns-clause-writes
returns-clause-writes g c =
    rw (← c.self.view_is) (λ s e. writes-at c.self.inside.sources _ _ c.args.i c.in-Some.s s 0 c.at.result.now c.write-answer.result c.at.ensures c.in-Some.is c.write-answer.ensures e)
