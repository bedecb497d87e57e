use Rattle.std.proofs.Common.{ap, sym, ◌∙◌, map}
use Rattle.sg_filter.specs.Patterns.{joined, patterns_within}
use Rattle.sg_table.proofs.Listed.{pushes-as, pushes-none, pushes-one}
use Rattle.sg_filter.proofs.Equations.{patterns-Facility, patterns-Level, patterns-Tags, patterns-Compare, patterns-Field, patterns-And, patterns-Or, patterns-Not}
use Rattle.sg_table.proofs.listing.PatternListing.open_expr.Goals as goal

pub returns-in_ok-push-in-Field : goal.returns-in_ok-push-in-Field
returns-in_ok-push-in-Field c =
    let named = c.args.named.now in
    let within = patterns_within c.args.depth named in
    let done = c.in_ok-push-in-Field.ensures in
    pushes-as named _ _ c.args.self.now c.push.new.self (sym (ap within c.in-Field.is ∙ patterns-Field c.args.depth named _ c.in-Field.pattern))
    (pushes-one named c.args.self.now c.push.new.self _ done.0 done.1)

pub returns-in_ok-push_named-in-Named : goal.returns-in_ok-push_named-in-Named
returns-in_ok-push_named-in-Named c =
    let named = c.args.named.now in
    pushes-as named _ _ c.args.self.now c.push_named.new.self (sym (ap (patterns_within c.args.depth named) c.in-Named.is)) c.in_ok-push_named-in-Named.ensures

pub returns-in_ok-push-in-And : goal.returns-in_ok-push-in-And
returns-in_ok-push-in-And c =
    let named = c.args.named.now in
    let within = patterns_within c.args.depth named in
    let done = c.in_ok-push-in-And.ensures in
    pushes-as named _ _ c.args.self.now c.push-in-And.new.self
    (ap (λ es. joined (map within es)) c.as_slice-exprs.ensures ∙ sym (ap within c.in-And.is ∙ patterns-And c.args.depth named c.in-And.terms))
    (pushes-one named c.args.self.now c.push-in-And.new.self _ done.0 done.1)

pub returns-in_ok-push-in-Or : goal.returns-in_ok-push-in-Or
returns-in_ok-push-in-Or c =
    let named = c.args.named.now in
    let within = patterns_within c.args.depth named in
    let done = c.in_ok-push-in-Or.ensures in
    pushes-as named _ _ c.args.self.now c.push-in-Or.new.self
    (ap (λ es. joined (map within es)) c.as_slice-exprs-in-Or.ensures ∙ sym (ap within c.in-Or.is ∙ patterns-Or c.args.depth named c.in-Or.terms))
    (pushes-one named c.args.self.now c.push-in-Or.new.self _ done.0 done.1)

pub returns-in_ok-push-in-Not : goal.returns-in_ok-push-in-Not
returns-in_ok-push-in-Not c =
    let named = c.args.named.now in
    let within = patterns_within c.args.depth named in
    let done = c.in_ok-push-in-Not.ensures in
    pushes-as named _ _ c.args.self.now c.push-in-Not.new.self
    (ap within c.get-expr.ensures ∙ sym (ap within c.in-Not.is ∙ patterns-Not c.args.depth named c.in-Not.term))
    (pushes-one named c.args.self.now c.push-in-Not.new.self _ done.0 done.1)

pub returns-in-Facility : goal.returns-in-Facility
returns-in-Facility c =
    let named = c.args.named.now in
    pushes-none named _ c.args.self.now (ap (patterns_within c.args.depth named) c.in-Facility.is ∙ patterns-Facility c.args.depth named _)

pub returns-in-Level : goal.returns-in-Level
returns-in-Level c =
    let named = c.args.named.now in
    pushes-none named _ c.args.self.now (ap (patterns_within c.args.depth named) c.in-Level.is ∙ patterns-Level c.args.depth named _)

pub returns-in-Tags : goal.returns-in-Tags
returns-in-Tags c =
    let named = c.args.named.now in
    pushes-none named _ c.args.self.now (ap (patterns_within c.args.depth named) c.in-Tags.is ∙ patterns-Tags c.args.depth named _)

pub returns-in-Compare : goal.returns-in-Compare
returns-in-Compare c =
    let named = c.args.named.now in
    pushes-none named _ c.args.self.now (ap (patterns_within c.args.depth named) c.in-Compare.is ∙ patterns-Compare c.args.depth named _ _ _)
