use Rattle.std.proofs.Common.{arith, ◌≡◌, length, sym, subst}
use Rattle.sg_memory.specs.Inlet.{inlet_of}
use Rattle.sg_memory.specs.Outlet.{outlet_of}
use Rattle.sg_turns.specs.Actors.{AreSources, AreDests}
use Rattle.test_flow.specs.Runs.{two}
use Rattle.test_flow.proofs.preparing.with_core.Goals as goal

pub returns-in-Ok-clause-few : goal.returns-in-Ok-clause-few
returns-in-Ok-clause-few c =
    let sources : length c.args.sources.items ≡ 2 = c.requires.sources.all in
    let dests : length c.args.dests.items ≡ 2 = c.requires.dests.all in
    (omega (arith, sources), omega (arith, dests))

pub returns-in-Ok-clause-sources : goal.returns-in-Ok-clause-sources
returns-in-Ok-clause-sources c = subst (λ s. AreSources inlet_of two two s c.args.sources.items) (sym c.in-Ok.ensures.setup) c.requires.sources

pub returns-in-Ok-clause-dests : goal.returns-in-Ok-clause-dests
returns-in-Ok-clause-dests c = subst (λ s. AreDests outlet_of s c.args.dests.items) (sym c.in-Ok.ensures.setup) c.requires.dests
