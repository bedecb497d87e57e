use Rattle.std.proofs.Common.{None, [], ◌∷◌, ◌++◌, List, sym, ap, ◌∙◌}
use Rattle.sg_parse_obj.specs.declared.templates.TemplateItem.{TemplateItem}
use Rattle.sg_parse_obj.specs.Templates.{last_text}
use Rattle.sg_parse_obj.proofs.Texts.{last_is_text, last_is_none}
use Rattle.sg_parse_obj.proofs.templates.last_text.Goals as goal

pub returns-in-Text : goal.returns-in-Text
returns-in-Text c =
    sym (c.loop-item.invariant
    ∙ ap (λ (items : List TemplateItem). last_text None items) c.in-Some.ensures
    ∙ ap (λ (item : TemplateItem). last_text None (c.pop.new.self ++ item ∷ [])) c.in-Text.is
    ∙ last_is_text None c.pop.new.self c.in-Text.text)

pub loop-item-preserved : goal.loop-item-preserved
loop-item-preserved c =
    c.loop-item.invariant
    ∙ ap (λ (items : List TemplateItem). last_text None items) c.in-Some.ensures
    ∙ ap (λ (item : TemplateItem). last_text None (c.pop.new.self ++ item ∷ [])) c.in-Escape.is
    ∙ last_is_none None c.pop.new.self
