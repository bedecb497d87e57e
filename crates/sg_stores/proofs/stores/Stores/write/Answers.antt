use Rattle.std.proofs.Common.{subst, sym}
use Rattle.sg_list.proofs.ListLemmas.{change-set}
use Rattle.sg_stores.specs.Positions.{IsPositionStore}
use Rattle.sg_stores.proofs.StoreLemmas.{below}
use Rattle.sg_stores.proofs.stores.Stores.write.Goals as goal

pub at_mut-store-requires : goal.at_mut-store-requires
at_mut-store-requires g c = below (IsPositionStore) (λ none. none) c.self.inside.held c.args.s (rw (← c.self.view_is) at c.requires)

pub write-requires : goal.write-requires
write-requires g c = subst (IsPositionStore) c.at_mut-store.ensures.value (rw (← c.self.view_is) at c.requires)

pub returns : goal.returns
returns g c =
    rw (← c.self.view_is) (record {
      old = c.at_mut-store.result.now;
      new = c.write.new.self;
      was = c.at_mut-store.ensures.value;
      others = sym (change-set c.self.inside.held c.args.s (λ _. c.write.new.self) c.at_mut-store.result.now c.at_mut-store.ensures.value);
      kind = c.write.ensures.kind;
      writes = c.write.ensures.writes;
      goes = c.write.ensures.goes;
    })
