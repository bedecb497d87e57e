use Rattle.std.proofs.Common.{refl}
use Rattle.sg_memory.specs.Inlet.{inlet_of}
use Rattle.test_flow.specs.Runs.{two, two_files}
use Rattle.test_flow.proofs.RunLemmas.{two-sources}
use Rattle.test_flow.proofs.preparing.pair.Goals as goal

pub returns-in-Ok : goal.returns-in-Ok
returns-in-Ok c = two-sources inlet_of two two two_files c.in-Ok.held.items c.args.first c.args.second c.requires.first c.requires.second c.in-Ok.ensures.items refl
