use Rattle.std.proofs.Common.{◌<◌, ◌^◌, subst, sym, length, IfOk}
use Rattle.sg_hint.specs.Listed.{IsListed}
use Rattle.sg_hint.proofs.spot.expanded_spot.Goals as goal

pub listed_spot-requires : goal.listed_spot-requires
listed_spot-requires c = subst (λ tokens. length tokens < 2 ^ 32) (sym c.into_vec.ensures) c.requires

pub returns : goal.returns
returns c = subst (λ tokens. IfOk c.listed_spot.result (λ spotted. IsListed tokens c.args.fault.now spotted))
    c.into_vec.ensures c.listed_spot.ensures
