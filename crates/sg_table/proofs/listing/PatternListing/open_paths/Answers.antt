use Rattle.std.proofs.Common.{ap}
use Rattle.sg_table.proofs.Listed.{pushes-more, pushes-none, pushes-one}
use Rattle.sg_table.specs.Patterns.{path_patterns, siblings_patterns}
use Rattle.sg_table.proofs.listing.PatternListing.open_paths.Goals as goal

pub returns-in-None : goal.returns-in-None
returns-in-None c =
    λ named. pushes-none named _ c.args.self.now (ap (siblings_patterns named) c.in-None.ensures)

pub returns-in_ok-push_path-in-Some : goal.returns-in_ok-push_path-in-Some
returns-in_ok-push_path-in-Some c =
    let done = c.in_ok-push-in-Some.ensures in
    λ named. pushes-more named (siblings_patterns named c.in-Some.paths.now) (path_patterns named c.in-Some.path.now) _ c.args.self.now c.push.new.self c.push_path.new.self
    (ap (siblings_patterns named) c.in-Some.ensures) (pushes-one named c.args.self.now c.push.new.self _ done.0 done.1)
    (c.in_ok-push_path-in-Some.ensures named)
