use Rattle.std.proofs.Common.{◌≡◌, Some, List, slice_get, set, get_or, ap, subst, ◌∙◌}
use Rattle.sg_msg.specs.Message.{NameValue}
use Rattle.sg_msg.specs.declared.pair.Pair.{Pair}
use Rattle.sg_msg.proofs.PartChanges.{replaced}
use Rattle.sg_msg.proofs.base.Base.replace.Goals as goal

pub returns-clause-ok : goal.returns-clause-ok
returns-clause-ok c = λ d.
    let pair = c.pair_at-pair.result in
    let is = subst (λ (ps : List Pair). slice_get ps c.args.place ≡ Some pair) c.as_slice.ensures.value c.pair_at-pair.ensures in
    replaced c.self.inside.texts.item c.self.inside.texts.own.items c.keep.new.own.items c.self.inside.pairs.items c.args.place c.in_ok-kept.kept c.args.value pair c.self.invariant c.in_ok-kept.ensures.ok is d
    ∙ ap (λ (ps : List NameValue). set ps c.args.place (record { name = (get_or ps c.args.place d).name; value = c.args.value })) c.self.view_is
