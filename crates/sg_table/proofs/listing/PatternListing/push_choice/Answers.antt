use Rattle.std.proofs.Common.{refl}
use Rattle.sg_table.proofs.Listed.{pushes-more, pushes-one}
use Rattle.sg_table.specs.Patterns.{choices_patterns, other_patterns}
use Rattle.sg_table.proofs.listing.PatternListing.push_choice.Goals as goal

pub returns : goal.returns
returns c =
    let done = c.in_ok-push.ensures in
    λ named. pushes-more named (other_patterns named c.args.other.now) (choices_patterns named c.args.branches.now) _ c.args.self.now c.push_other.new.self c.push.new.self refl
    (c.in_ok-push_other.ensures named) (pushes-one named c.push_other.new.self c.push.new.self _ done.0 done.1)
