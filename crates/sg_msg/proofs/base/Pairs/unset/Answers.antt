use Rattle.std.proofs.Common.{sym, arith}
use Rattle.std.proofs.lemmas.Grind.{common_steps}
use Rattle.sg_msg.proofs.PairPlaces.{without-at, without-gap}
use Rattle.sg_msg.proofs.base.Pairs.unset.Goals as goal

-- the pair of the name is taken out
pub returns-in_ok-make_mut-in-Ok-clause-ok : goal.returns-in_ok-make_mut-in-Ok-clause-ok
returns-in_ok-make_mut-in-Ok-clause-ok c =
    let at = rw (c.deref.ensures, c.self.view_is) at c.in-Ok.ensures.found in
    let e = without-at c.args.name.now c.args.self.now c.in-Ok.place c.requires at in
    rw e (grind (arith, common_steps))

-- the name isn't there
pub returns-in-Err-clause-ok : goal.returns-in-Err-clause-ok
returns-in-Err-clause-ok c = sym (without-gap _ _ _ (rw (c.deref.ensures, c.self.view_is) at c.in-Err.ensures.absent))
