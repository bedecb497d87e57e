use Rattle.std.proofs.Common.{◌≡◌, [], ◌∷◌, List, sym, ap, ◌∙◌}
use Rattle.sg_macro.specs.declared.part.TemplatePart.{TemplatePart}
use Rattle.sg_template.specs.Render.{constant_of}
use Rattle.sg_template.proofs.Constants.{constant-renders, no_part, one_part, renders-if}
use Rattle.sg_template.proofs.template.Template.constant.Goals as goal

pub returns-in-empty-clause-same : goal.returns-in-empty-clause-same
returns-in-empty-clause-same c content env =
    let none : c.args.self.now ≡ [] = (sym c.self.view_is ∙ sym c.as_slice.ensures) ∙ no_part c.as_slice.result.now c.in-empty.len_below in
    constant-renders c.args.self.now [] (ap (λ (parts : List TemplatePart). constant_of parts) none) content env

pub returns-in-len1-clause-same : goal.returns-in-len1-clause-same
returns-in-len1-clause-same c =
    let one : c.args.self.now ≡ c.part-item.result ∷ [] = (sym c.self.view_is ∙ sym c.as_slice.ensures) ∙ one_part c.as_slice.result.now c.part-item.result c.in-len1.len_at_least c.in-len1.len_below c.part-item.is in
    renders-if c.args.self.now c.literal.result (c.literal.ensures ∙ ap (λ (parts : List TemplatePart). constant_of parts) (sym one))
