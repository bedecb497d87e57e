use Rattle.std.proofs.Common.{subst, sym}
use Rattle.sg_list.proofs.ListLemmas.{change-set}
use Rattle.sg_stores.specs.Looking.{CanRenew}
use Rattle.sg_stores.proofs.StoreLemmas.{below}
use Rattle.sg_stores.proofs.stores.Stores.renew.Goals as goal

pub at_mut-store-requires : goal.at_mut-store-requires
at_mut-store-requires g c = below CanRenew (λ none. none) c.self.inside.held c.args.s (rw (← c.self.view_is) at c.requires)

pub renew-requires : goal.renew-requires
renew-requires g c =
    let can = subst CanRenew c.at_mut-store.ensures.value (rw (← c.self.view_is) at c.requires) in
    record { works = can.0; unstaged = can.1 }

pub returns : goal.returns
returns g c =
    rw (← c.self.view_is) (record {
      old = c.at_mut-store.result.now;
      new = c.renew.new.self;
      was = c.at_mut-store.ensures.value;
      others = sym (change-set c.self.inside.held c.args.s (λ _. c.renew.new.self) c.at_mut-store.result.now c.at_mut-store.ensures.value);
      renews = c.renew.ensures;
    })
