use Rattle.std.proofs.Common.{subst, sym}
use Rattle.sg_list.proofs.ListLemmas.{change-set}
use Rattle.sg_stores.specs.Advancing.{CanAdvance}
use Rattle.sg_stores.proofs.StoreLemmas.{below}
use Rattle.sg_stores.proofs.stores.Stores.advance.Goals as goal

pub at_mut-store-requires : goal.at_mut-store-requires
at_mut-store-requires g c = below (λ o. CanAdvance o c.args.n c.args.size) (λ none. none) c.self.inside.held c.args.s (rw (← c.self.view_is) at c.requires)

pub advance-requires : goal.advance-requires
advance-requires g c = subst (λ o. CanAdvance o c.args.n c.args.size) c.at_mut-store.ensures.value (rw (← c.self.view_is) at c.requires)

pub returns : goal.returns
returns g c =
    rw (← c.self.view_is) (record {
      old = c.at_mut-store.result.now;
      new = c.advance.new.self;
      was = c.at_mut-store.ensures.value;
      others = sym (change-set c.self.inside.held c.args.s (λ _. c.advance.new.self) c.at_mut-store.result.now c.at_mut-store.ensures.value);
      answer = c.advance.ensures.works;
      advances = c.advance.ensures.advances;
    })
