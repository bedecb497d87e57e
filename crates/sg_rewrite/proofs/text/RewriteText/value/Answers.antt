use Rattle.std.proofs.Common.{◌≡◌, ℕ, List, Option, None, Some, sym, ap, subst, ◌∙◌}
use Rattle.sg_macro.specs.declared.part.TemplatePart.{TemplatePart}
use Rattle.sg_template.specs.Own.{own_env}
use Rattle.sg_rewrite.specs.Texts.{IsConstantText}
use Rattle.sg_rewrite.specs.Values.{cut, text_over}
use Rattle.sg_rewrite.proofs.Cuts.{cut_short}
use Rattle.sg_rewrite.proofs.text.RewriteText.value.Goals as goal

-- the text that is kept is the one over every message, and short enough
pub returns-in-Some : goal.returns-in-Some
returns-in-Some c =
    let message = c.args.message.now in
    let text = c.in-Some.constant in
    let kept : IsConstantText c.self.inside.template (Some text) = subst (λ (o : Option (List ℕ)). IsConstantText c.self.inside.template o) c.in-Some.is c.self.invariant in
    let over : text_over c.args.self.now None message ≡ text =
    ap (λ (parts : List TemplatePart). text_over parts None message) (sym c.self.view_is) ∙ kept.1 message (own_env None) in
    c.in_ok-value.ensures.cases ∙ sym (ap (λ (bytes : List ℕ). cut bytes) over ∙ cut_short text kept.0)
