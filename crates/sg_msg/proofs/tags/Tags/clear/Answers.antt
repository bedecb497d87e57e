use Rattle.std.proofs.Common.{sym, ◌∙◌}
use Rattle.sg_msg.proofs.TagPlaces.{taken-at, not_taken}
use Rattle.sg_msg.proofs.tags.Tags.clear.Goals as goal

-- the tag stands in the list
pub remove-requires : goal.remove-requires
remove-requires c = (taken-at c.args.tag.now c.args.self.now c.in-Some.place (sym c.place.ensures ∙ c.in-Some.is)).in_range

pub returns-in_ok-remove-in-Some-clause-ok : goal.returns-in_ok-remove-in-Some-clause-ok
returns-in_ok-remove-in-Some-clause-ok c =
    let at = taken-at c.args.tag.now c.args.self.now c.in-Some.place (sym c.place.ensures ∙ c.in-Some.is) in
    c.in_ok-remove-in-Some.ensures.ok ∙ sym at.rest

-- the tag isn't set
pub returns-in-None-clause-ok : goal.returns-in-None-clause-ok
returns-in-None-clause-ok c = sym (not_taken _ _ (sym c.place.ensures ∙ c.in-None.is))
