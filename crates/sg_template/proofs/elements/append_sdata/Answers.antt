use Rattle.std.proofs.Common.{◌+◌, ◌++◌, List, drop, option_copied, sym, ap, ◌∙◌}
use Rattle.sg_template.specs.Elements.{SdItem, elements_text}
use Rattle.sg_template.proofs.Appending.{begins_further}
use Rattle.sg_template.proofs.Steps.{items, items-step}
use Rattle.sg_template.proofs.elements.append_sdata.Goals as goal

pub loop-place-preserved : goal.loop-place-preserved
loop-place-preserved c =
    let pairs = c.args.message.now.pairs in
    let out = c.loop-place.out.items in
    let place = c.loop-place.place in
    record {
      text = c.in_ok-current.ensures.ok (items (drop (place + 1) pairs))
          ∙ (ap (λ (found : List SdItem). out ++ elements_text (option_copied c.loop-place.current) found) (sym (items-step pairs place c.in-Some.name.now c.in-Some.value.now c.in-Some.ensures))
          ∙ c.loop-place.invariant.text);
      begins = begins_further c.args.out.now.items out c.append_item.new.out.items c.loop-place.invariant.begins c.append_item.ensures.begins;
    }
