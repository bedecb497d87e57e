use Rattle.std.proofs.Common.{subst, sym}
use Rattle.sg_list.proofs.ListLemmas.{change-set}
use Rattle.sg_stores.specs.Reading.{CanRead}
use Rattle.sg_stores.proofs.StoreLemmas.{below}
use Rattle.sg_stores.proofs.stores.Stores.messages.Goals as goal

pub at_mut-store-requires : goal.at_mut-store-requires
at_mut-store-requires g c = below (λ o. CanRead o c.args.n) (λ none. none) c.self.inside.held c.args.s (rw (← c.self.view_is) at c.requires)

pub messages-requires : goal.messages-requires
messages-requires g c = subst (λ o. CanRead o c.args.n) c.at_mut-store.ensures.value (rw (← c.self.view_is) at c.requires)

pub returns : goal.returns
returns g c =
    rw (← c.self.view_is) (record {
      old = c.at_mut-store.result.now;
      new = c.messages.new.self;
      was = c.at_mut-store.ensures.value;
      others = sym (change-set c.self.inside.held c.args.s (λ _. c.messages.new.self) c.at_mut-store.result.now c.at_mut-store.ensures.value);
      stays = c.messages.ensures.stays;
      reads = c.messages.ensures.reads;
    })
