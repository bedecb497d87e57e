use Rattle.std.proofs.Common.{refl}
use Rattle.sg_table.proofs.Listed.{lists-found}
use Rattle.sg_table.proofs.listing.PatternListing.list.Goals as goal

pub returns : goal.returns
returns c =
    λ named. lists-found named c.args.pattern c.args.self.now (record c.args.self.now { found = c.push.new.self }) c.in_ok-push.ensures.items refl
