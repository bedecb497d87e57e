use Rattle.std.proofs.Common.{ap, map}
use Rattle.sg_filter.specs.Patterns.{joined, patterns_within}
use Rattle.sg_table.proofs.Listed.{pushes-more, pushes-none, pushes-one}
use Rattle.sg_table.proofs.listing.PatternListing.open_exprs.Goals as goal

pub returns-in-None : goal.returns-in-None
returns-in-None c =
    λ named. pushes-none named _ c.args.self.now (ap (λ es. joined (map (patterns_within c.args.depth named) es)) c.in-None.ensures)

pub returns-in_ok-push-in-Some-2 : goal.returns-in_ok-push-in-Some-2
returns-in_ok-push-in-Some-2 c =
    let done = c.in_ok-push-in-Some.ensures in
    let last = c.in_ok-push-in-Some-2.ensures in
    λ named. pushes-more named (joined (map (patterns_within c.args.depth named) c.in-Some.exprs.now)) (patterns_within c.args.depth named c.in-Some.expr.now) _ c.args.self.now c.push.new.self c.push-in-Some.new.self
    (ap (λ es. joined (map (patterns_within c.args.depth named) es)) c.in-Some.ensures) (pushes-one named c.args.self.now c.push.new.self _ done.0 done.1)
    (pushes-one named c.push.new.self c.push-in-Some.new.self _ last.0 last.1)
