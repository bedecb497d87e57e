use Rattle.test_core.proofs.Lengths.{stage_length}
use Rattle.test_core.proofs.stores.stage.Goals as goal

pub returns : goal.returns
returns c = stage_length c.args.stores.now c.stage.new.self 1 c.args.block.now c.stage.result c.stage.ensures c.requires
