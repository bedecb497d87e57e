use Rattle.std.proofs.Common.{sym}
use Rattle.sg_list.proofs.ListLemmas.{change-set}
use Rattle.sg_stores.proofs.stores.Stores.stage.Goals as goal

pub returns : goal.returns
returns g c =
    rw (← c.self.view_is) (record {
      old = c.at_mut-store.result.now;
      new = c.stage.new.self;
      was = c.at_mut-store.ensures.value;
      others = sym (change-set c.self.inside.held c.args.s (λ _. c.stage.new.self) c.at_mut-store.result.now c.at_mut-store.ensures.value);
      answer = c.stage.ensures.works;
      stages = c.stage.ensures.stages;
    })
