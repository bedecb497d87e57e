use Rattle.std.proofs.Common.{◌≡◌, refl, sym, ◌∙◌, subst}
use Rattle.sg_pattern.specs.Builds.{calls_by, makes_kind}
use Rattle.sg_pattern.specs.declared.pattern.Kind.{Kind}
use Rattle.sg_pattern.proofs.Built.{not_text}
use Rattle.sg_pattern.proofs.trying.try_regex.Goals as goal

pub returns-in_default-clause-tries : goal.returns-in_default-clause-tries
returns-in_default-clause-tries g c =
    let p = c.args.pattern.now in
    (refl, (c.requires, not_text p.flags.ignore_case p.text (rw c.bytes.ensures at c.in_default.ensures.cases.0)))

pub returns-in-Ok-build-clause-tries : goal.returns-in-Ok-build-clause-tries
returns-in-Ok-build-clause-tries g c =
    let p = c.args.pattern.now in
    let old = c.args.builder.now in
    let new = c.build.new.self in
    let same : c.in-Ok.words.now ≡ p.text = c.in-Ok.ensures.cases.0 ∙ c.bytes.ensures in
    subst (λ (k : Kind). makes_kind (calls_by g.B.Machine.state g.B.Builder.build_step) k old p.text p.flags.ignore_case new) (sym c.requires)
    (c.in-Ok-build._regex.now, (rw same at c.in-Ok-build.ensures.step, rw same at c.in-Ok-build.ensures.means))
