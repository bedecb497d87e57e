use Rattle.std.proofs.Common.{ap₂, sym, ◌∙◌, ◌++◌}
use Rattle.sg_table.proofs.Listed.{pushes-more, pushes-one}
use Rattle.sg_table.proofs.Patterned.{patterns-Path}
use Rattle.sg_table.specs.Patterns.{list_patterns, path_patterns, siblings_patterns}
use Rattle.sg_table.proofs.listing.PatternListing.push_path.Goals as goal

pub returns : goal.returns
returns c =
    let path = c.args.path.now in
    let done = c.in_ok-push.ensures in
    let last = c.in_ok-push-2.ensures in
    λ named. pushes-more named (siblings_patterns named c.as_slice.result.now) (list_patterns named c.as_slice-2.result.now) (path_patterns named path) c.args.self.now c.push.new.self c.push-2.new.self
    (patterns-Path named path ∙ sym (ap₂ (λ ps es. list_patterns named es ++ siblings_patterns named ps) c.as_slice.ensures.value c.as_slice-2.ensures.value))
    (pushes-one named c.args.self.now c.push.new.self _ done.0 done.1)
    (pushes-one named c.push.new.self c.push-2.new.self _ last.0 last.1)
