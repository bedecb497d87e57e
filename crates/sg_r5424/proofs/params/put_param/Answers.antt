use Rattle.std.proofs.Common.{ℕ, List, ap, sym, subst, ◌∙◌}
use Rattle.sg_msg.specs.Message.{IsPairName}
use Rattle.sg_r5424.specs.Data.{param_name}
use Rattle.sg_r5424.specs.Spans.{span_text}
use Rattle.sg_r5424.proofs.ParamLemmas.{param_fits}
use Rattle.sg_r5424.proofs.params.put_param.Goals as goal

pub put_part-requires-clause-name : goal.put_part-requires-clause-name
put_part-requires-clause-name c =
    let item = c.args.builder.now.item in
    let id = c.span_text.ensures ∙ ap (λ (i : List ℕ). span_text i c.args.id) c.item-item.ensures in
    let name = c.span_text-2.ensures ∙ ap (λ (i : List ℕ). span_text i c.args.param.name) c.item-item.ensures in
    let said = c.in_ok-name.ensures ∙ ap (λ (x : List ℕ). param_name x c.span_text-2.result.now) id ∙ ap (λ (x : List ℕ). param_name (span_text item c.args.id) x) name in
    subst IsPairName (sym said) (param_fits (span_text item c.args.id) (span_text item c.args.param.name) c.requires.short c.requires.name)

pub put-requires : goal.put-requires
put-requires c =
    let item = c.args.builder.now.item in
    let id = c.span_text.ensures ∙ ap (λ (i : List ℕ). span_text i c.args.id) c.item-item.ensures in
    let name = c.span_text-2.ensures ∙ ap (λ (i : List ℕ). span_text i c.args.param.name) c.item-item.ensures in
    let said = c.in_ok-name.ensures ∙ ap (λ (x : List ℕ). param_name x c.span_text-2.result.now) id ∙ ap (λ (x : List ℕ). param_name (span_text item c.args.id) x) name in
    subst IsPairName (sym said) (param_fits (span_text item c.args.id) (span_text item c.args.param.name) c.requires.short c.requires.name)
