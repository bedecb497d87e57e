use Rattle.std.proofs.Common.{◌-◌, sym, None, Some}
use Rattle.sg_table.proofs.Listed.{pushes-as, pushes-none, pushes-one}
use Rattle.sg_filter.proofs.Equations.{deeper, patterns-deep, patterns-named}
use Rattle.sg_table.proofs.listing.PatternListing.push_named.Goals as goal

pub returns-then-depth-eq0 : goal.returns-then-depth-eq0
returns-then-depth-eq0 c =
    pushes-none c.args.named.now _ c.args.self.now (patterns-deep c.args.depth c.args.named.now c.args.place (sym c.if-depth-eq0.true))

pub returns-in-None : goal.returns-in-None
returns-in-None c =
    let next = deeper c.args.depth c.if-depth-eq0.false in
    pushes-none c.args.named.now _ c.args.self.now (patterns-named c.args.depth (c.args.depth - 1) c.args.named.now c.args.place None next (sym c.in-None.ensures))

pub returns-in_ok-push-in-Some : goal.returns-in_ok-push-in-Some
returns-in_ok-push-in-Some c =
    let named = c.args.named.now in
    let done = c.in_ok-push-in-Some.ensures in
    let next = deeper c.args.depth c.if-depth-eq0.false in
    pushes-as named _ _ c.args.self.now c.push.new.self (sym (patterns-named c.args.depth (c.args.depth - 1) named c.args.place (Some c.in-Some.one.now) next (sym c.in-Some.ensures)))
    (pushes-one named c.args.self.now c.push.new.self _ done.0 done.1)
