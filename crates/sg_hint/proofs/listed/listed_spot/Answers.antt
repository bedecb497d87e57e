use Rattle.std.proofs.Common.{◌<◌, ◌^◌, ◌∙◌, subst, sym, ap, length}
use Rattle.sg_hint.proofs.Positions.{length-numbered, listed-by}
use Rattle.sg_hint.proofs.listed.listed_spot.Goals as goal

pub token_spot-requires : goal.token_spot-requires
token_spot-requires c = subst (λ n. n < 2 ^ 32) (sym (ap length c.in_ok-list.ensures.tokens ∙ length-numbered 0 c.args.tokens.items)) c.requires

pub returns : goal.returns
returns c = listed-by c.args.tokens.items c.in_ok-list.list.tokens.items c.in_ok-list.list.lines.items c.args.fault.now
    c.token_spot.result c.in_ok-list.ensures.tokens c.in_ok-list.ensures.lines c.token_spot.ensures
