use Rattle.std.proofs.Common.{◌≡◌, ◌+◌, [], ◌∷◌, ◌++◌, take, drop, map, Bor, Some, None, refl, sym, ap, ◌∙◌, subst, arith}
use Rattle.std.proofs.lemmas.List.{take_all, take_more}
use Rattle.sg_filter.proofs.Turning.{only-more, only-none}
use Rattle.sg_pattern.specs.Builds.{calls_by}
use Rattle.sg_pattern.specs.declared.text.PatternText.{PatternText}
use Rattle.sg_table.specs.Tried.{HasTried}
use Rattle.sg_table.proofs.Tries.{list-bad, map-split, tried-as}
use Rattle.sg_table.proofs.Parts.{map-last-at}
use Rattle.sg_table.proofs.tried.try_all.Goals as goal

pub loop-pattern-init : goal.loop-pattern-init
loop-pattern-init g c = record { only = only-none _; valid = tt; large = refl }

pub loop-pattern-preserved : goal.loop-pattern-preserved
loop-pattern-preserved g c =
    let all = c.args.patterns.now in
    let i = c.loop-pattern.pattern-index in
    let p = c.pattern-item.result in
    let next : take (i + 1) all ≡ take i all ++ p ∷ [] = take_more all i p (omega arith) ∙ ap (λ y. take i all ++ y ∷ []) (sym c.pattern-item.is) in
    let parts : map (λ (x : Bor PatternText). x.now) (take (i + 1) all) ≡ map (λ (x : Bor PatternText). x.now) (take i all) ++ p.now ∷ [] =
    map-last-at (λ (x : Bor PatternText). x.now) (take i all) (take (i + 1) all) p next in
    tried-as g.B.Machine.state g.B.Builder.build_step _ _ _ _ _ (sym parts) (c.in-Ok.ensures.tries _ _ c.loop-pattern.invariant)

pub returns-in-Err-clause-tries : goal.returns-in-Err-clause-tries
returns-in-Err-clause-tries g c =
    let all = c.args.patterns.now in
    let i = c.loop-pattern.pattern-index in
    let p = c.pattern-item.result in
    list-bad g.B.Machine.state g.B.Builder.build_step _ _ (map (λ (x : Bor PatternText). x.now) (take i all)) p.now (map (λ (x : Bor PatternText). x.now) (drop (i + 1) all)) _ c.in-Err.refusal
    (map-split (λ (x : Bor PatternText). x.now) all i p (omega arith) c.pattern-item.is) c.loop-pattern.invariant.valid c.in-Err.ensures.bad

pub returns-in-Err-clause-only : goal.returns-in-Err-clause-only
returns-in-Err-clause-only g c = only-more _ _ _ c.loop-pattern.invariant.only c.in-Err.ensures.only

pub returns-in-Some-clause-tries : goal.returns-in-Some-clause-tries
returns-in-Some-clause-tries g c =
    let all = c.args.patterns.now in
    tried-as g.B.Machine.state g.B.Builder.build_step _ _ _ _ (Some c.in-Some.line) (ap (map (λ (x : Bor PatternText). x.now)) (take_all c.loop-pattern.pattern-index all c.loop-pattern-test.false))
    (subst (HasTried g.B.Machine.state (calls_by g.B.Machine.state g.B.Builder.build_step) _ _ _) c.in-Some.is c.loop-pattern.invariant)

pub returns-in-None-clause-tries : goal.returns-in-None-clause-tries
returns-in-None-clause-tries g c =
    let all = c.args.patterns.now in
    tried-as g.B.Machine.state g.B.Builder.build_step _ _ _ _ None (ap (map (λ (x : Bor PatternText). x.now)) (take_all c.loop-pattern.pattern-index all c.loop-pattern-test.false))
    (subst (HasTried g.B.Machine.state (calls_by g.B.Machine.state g.B.Builder.build_step) _ _ _) c.in-None.is c.loop-pattern.invariant)

pub returns-in-Some-clause-only : goal.returns-in-Some-clause-only
returns-in-Some-clause-only g c = c.loop-pattern.invariant.only

pub returns-in-None-clause-only : goal.returns-in-None-clause-only
returns-in-None-clause-only g c = c.loop-pattern.invariant.only
