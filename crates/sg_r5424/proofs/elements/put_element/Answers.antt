use Rattle.std.proofs.Common.{ℕ, List, ap, sym, subst, ◌∙◌}
use Rattle.sg_msg.specs.Message.{IsPairName}
use Rattle.sg_r5424.specs.Data.{element_name}
use Rattle.sg_r5424.specs.Spans.{span_text}
use Rattle.sg_r5424.proofs.ParamLemmas.{element_fits}
use Rattle.sg_r5424.proofs.elements.put_element.Goals as goal

pub put-requires : goal.put-requires
put-requires c =
    let id = c.span_text.ensures ∙ ap (λ (item : List ℕ). span_text item c.args.id) c.item.ensures in
    let name = c.in_ok-name.ensures ∙ ap element_name id in
    subst IsPairName (sym name) (element_fits (span_text c.args.builder.now.item c.args.id) c.requires.short)
