use Rattle.std.proofs.Common.{ap, sym, ◌++◌}
use Rattle.sg_filter.specs.Patterns.{patterns_of}
use Rattle.sg_table.proofs.Listed.{pushes-more, pushes-one}
use Rattle.sg_table.specs.Patterns.{branch_patterns, list_patterns}
use Rattle.sg_table.proofs.listing.PatternListing.push_branch.Goals as goal

pub returns : goal.returns
returns c =
    let named = c.args.named.now in
    let branch = c.args.branch.now in
    let done = c.in_ok-push.ensures in
    let last = c.in_ok-push-2.ensures in
    pushes-more named (list_patterns named c.as_slice.result.now) (patterns_of named branch.0) (branch_patterns named branch) c.args.self.now c.push.new.self c.push-2.new.self
    (sym (ap (λ es. patterns_of named branch.0 ++ list_patterns named es) c.as_slice.ensures.value)) (pushes-one named c.args.self.now c.push.new.self _ done.0 done.1)
    (pushes-one named c.push.new.self c.push-2.new.self _ last.0 last.1)
