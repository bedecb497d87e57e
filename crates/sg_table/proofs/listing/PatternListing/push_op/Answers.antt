use Rattle.std.proofs.Common.{ap, sym}
use Rattle.sg_table.proofs.Listed.{pushes-as, pushes-none, pushes-one}
use Rattle.sg_table.specs.Patterns.{op_patterns}
use Rattle.sg_table.proofs.listing.PatternListing.push_op.Goals as goal

pub returns-in_ok-push-in-Subst : goal.returns-in_ok-push-in-Subst
returns-in_ok-push-in-Subst c =
    let done = c.in_ok-push-in-Subst.ensures in
    λ named. pushes-as named _ _ c.args.self.now c.push.new.self (sym (ap op_patterns c.in-Subst.is))
    (pushes-one named c.args.self.now c.push.new.self _ done.0 done.1)

pub returns-in-Set : goal.returns-in-Set
returns-in-Set c =
    λ named. pushes-none named _ c.args.self.now (ap op_patterns c.in-Set.is)

pub returns-in-Unset : goal.returns-in-Unset
returns-in-Unset c =
    λ named. pushes-none named _ c.args.self.now (ap op_patterns c.in-Unset.is)

pub returns-in-GroupSet : goal.returns-in-GroupSet
returns-in-GroupSet c =
    λ named. pushes-none named _ c.args.self.now (ap op_patterns c.in-GroupSet.is)

pub returns-in-GroupUnset : goal.returns-in-GroupUnset
returns-in-GroupUnset c =
    λ named. pushes-none named _ c.args.self.now (ap op_patterns c.in-GroupUnset.is)

pub returns-in-SetTag : goal.returns-in-SetTag
returns-in-SetTag c =
    λ named. pushes-none named _ c.args.self.now (ap op_patterns c.in-SetTag.is)

pub returns-in-ClearTag : goal.returns-in-ClearTag
returns-in-ClearTag c =
    λ named. pushes-none named _ c.args.self.now (ap op_patterns c.in-ClearTag.is)
