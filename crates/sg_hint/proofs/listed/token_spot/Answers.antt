use Rattle.std.proofs.Common.{refl, subst, Some, None}
use Rattle.sg_hint.specs.Listed.{column_at, IsFirstWrong}
use Rattle.sg_hint.proofs.Positions.{in-list}
use Rattle.sg_hint.proofs.listed.token_spot.Goals as goal

pub returns-in-Some : goal.returns-in-Some
returns-in-Some c = in-list c.args.list.now.tokens.items
    (column_at c.args.list.now.tokens.items c.args.list.now.lines.items c.args.fault.now.line) c.args.fault.now (Some c.in-Some.again)
    c.spot_of.result
    (subst (λ first. IsFirstWrong c.args.list.now.tokens.items first) c.in-Some.is
    (subst (λ tokens. IsFirstWrong tokens c.in_ok-first.first) c.deref.ensures.value c.in_ok-first.ensures)) c.spot_of.ensures

pub returns-in-None : goal.returns-in-None
returns-in-None c = record {
  first = None;
  wrong = subst (λ first. IsFirstWrong c.args.list.now.tokens.items first) c.in-None.is
      (subst (λ tokens. IsFirstWrong tokens c.in_ok-first.first) c.deref.ensures.value c.in_ok-first.ensures);
  spot = refl;
}
