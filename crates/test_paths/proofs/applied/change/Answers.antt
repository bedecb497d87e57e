use Rattle.test_paths.proofs.Makings.{sound-op}
use Rattle.test_paths.proofs.applied.change.Goals as goal

pub new-requires : goal.new-requires
new-requires g c = sound-op c.args.op.now c.requires
