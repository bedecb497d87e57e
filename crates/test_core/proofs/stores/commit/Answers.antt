use Rattle.test_core.proofs.Lengths.{commit_length}
use Rattle.test_core.proofs.stores.commit.Goals as goal

pub returns : goal.returns
returns c = commit_length c.args.stores.now c.commit.new.self 1 c.commit.result c.commit.ensures c.requires
