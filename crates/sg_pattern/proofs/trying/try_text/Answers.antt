use Rattle.std.proofs.Common.{refl, sym, subst}
use Rattle.sg_pattern.specs.Builds.{calls_by, makes_kind}
use Rattle.sg_pattern.specs.declared.pattern.Kind.{Kind}
use Rattle.sg_pattern.proofs.trying.try_text.Goals as goal

pub returns-in-Text-clause-tries : goal.returns-in-Text-clause-tries
returns-in-Text-clause-tries g c =
    let p = c.args.pattern.now in
    let old = c.args.builder.now in
    subst (λ (k : Kind). makes_kind (calls_by g.B.Machine.state g.B.Builder.build_step) k old p.text p.flags.ignore_case old) (sym c.in-Text.is) refl

pub returns-in-Glob-clause-tries : goal.returns-in-Glob-clause-tries
returns-in-Glob-clause-tries g c =
    let p = c.args.pattern.now in
    let old = c.args.builder.now in
    subst (λ (k : Kind). makes_kind (calls_by g.B.Machine.state g.B.Builder.build_step) k old p.text p.flags.ignore_case old) (sym c.in-Glob.is) refl
