use Rattle.std.proofs.Common.{ap, sym, ◌∙◌, ◌++◌}
use Rattle.sg_table.proofs.Listed.{pushes-as, pushes-none, pushes-one}
use Rattle.sg_table.proofs.Patterned.{patterns-Filter, patterns-Rewrite, patterns-Parse, patterns-Deliver, patterns-Junction, patterns-If}
use Rattle.sg_table.specs.Patterns.{choices_patterns, element_patterns, other_patterns, siblings_patterns}
use Rattle.sg_table.proofs.listing.PatternListing.push_element.Goals as goal

pub returns-in_ok-push-in-Filter : goal.returns-in_ok-push-in-Filter
returns-in_ok-push-in-Filter c =
    let named = c.args.named.now in
    let done = c.in_ok-push-in-Filter.ensures in
    pushes-as named _ _ c.args.self.now c.push.new.self (sym (ap (element_patterns named) c.in-Filter.is ∙ patterns-Filter named _))
    (pushes-one named c.args.self.now c.push.new.self _ done.0 done.1)

pub returns-in_ok-push_rule-in-Rewrite : goal.returns-in_ok-push_rule-in-Rewrite
returns-in_ok-push_rule-in-Rewrite c =
    let named = c.args.named.now in
    pushes-as named _ _ c.args.self.now c.push_rule.new.self (sym (ap (element_patterns named) c.in-Rewrite.is ∙ patterns-Rewrite named _)) c.in_ok-push_rule-in-Rewrite.ensures

pub returns-in-Parse : goal.returns-in-Parse
returns-in-Parse c =
    pushes-none c.args.named.now _ c.args.self.now (ap (element_patterns c.args.named.now) c.in-Parse.is ∙ patterns-Parse c.args.named.now _)

pub returns-in-Deliver : goal.returns-in-Deliver
returns-in-Deliver c =
    pushes-none c.args.named.now _ c.args.self.now (ap (element_patterns c.args.named.now) c.in-Deliver.is ∙ patterns-Deliver c.args.named.now _)

pub returns-in_ok-push-in-Junction : goal.returns-in_ok-push-in-Junction
returns-in_ok-push-in-Junction c =
    let named = c.args.named.now in
    let done = c.in_ok-push-in-Junction.ensures in
    pushes-as named _ _ c.args.self.now c.push-in-Junction.new.self
    (ap (siblings_patterns named) c.as_slice.ensures.value ∙ sym (ap (element_patterns named) c.in-Junction.is ∙ patterns-Junction named c.in-Junction.channels))
    (pushes-one named c.args.self.now c.push-in-Junction.new.self _ done.0 done.1)

pub returns-in_ok-push_choice-in-If : goal.returns-in_ok-push_choice-in-If
returns-in_ok-push_choice-in-If c =
    let named = c.args.named.now in
    pushes-as named _ _ c.args.self.now c.push_choice.new.self
    (ap (λ bs. choices_patterns named bs ++ other_patterns named c.in-If.other) c.as_slice-in-If.ensures.value ∙ sym (ap (element_patterns named) c.in-If.is ∙ patterns-If named c.in-If.branches c.in-If.other))
    (c.in_ok-push_choice-in-If.ensures named)
