use Rattle.std.proofs.Common.{ap, sym, ◌∙◌}
use Rattle.sg_table.proofs.Listed.{pushes-as, pushes-none, pushes-one}
use Rattle.sg_table.specs.Patterns.{list_patterns, other_patterns}
use Rattle.sg_table.proofs.listing.PatternListing.push_other.Goals as goal

pub returns-in_ok-push-in-Some : goal.returns-in_ok-push-in-Some
returns-in_ok-push-in-Some c =
    let done = c.in_ok-push-in-Some.ensures in
    λ named. pushes-as named _ _ c.args.self.now c.push.new.self (ap (list_patterns named) c.as_slice.ensures.value ∙ sym (ap (other_patterns named) c.in-Some.is))
    (pushes-one named c.args.self.now c.push.new.self _ done.0 done.1)

pub returns-in-None : goal.returns-in-None
returns-in-None c =
    λ named. pushes-none named _ c.args.self.now (ap (other_patterns named) c.in-None.is)
