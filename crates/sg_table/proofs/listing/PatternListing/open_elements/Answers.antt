use Rattle.std.proofs.Common.{ap}
use Rattle.sg_table.proofs.Listed.{pushes-more, pushes-none, pushes-one}
use Rattle.sg_table.specs.Patterns.{element_patterns, list_patterns}
use Rattle.sg_table.proofs.listing.PatternListing.open_elements.Goals as goal

pub returns-in-None : goal.returns-in-None
returns-in-None c =
    pushes-none c.args.named.now _ c.args.self.now (ap (list_patterns c.args.named.now) c.in-None.ensures)

pub returns-in_ok-push_element-in-Some : goal.returns-in_ok-push_element-in-Some
returns-in_ok-push_element-in-Some c =
    let done = c.in_ok-push-in-Some.ensures in
    pushes-more c.args.named.now (list_patterns c.args.named.now c.in-Some.elements.now) (element_patterns c.args.named.now c.in-Some.element.now) _ c.args.self.now c.push.new.self c.push_element.new.self
    (ap (list_patterns c.args.named.now) c.in-Some.ensures) (pushes-one c.args.named.now c.args.self.now c.push.new.self _ done.0 done.1)
    c.in_ok-push_element-in-Some.ensures
