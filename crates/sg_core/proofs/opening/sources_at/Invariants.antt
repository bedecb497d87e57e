use Rattle.std.proofs.Common.{◌≡◌, take, map}
use Rattle.sg_core.specs.Opening.{opened_source}
use Rattle.sg_core.proofs.opening.sources_at.Given as goal

abbrev pub invariant-loop-setup : goal.invariant-loop-setup
invariant-loop-setup g l = l.sources.items ≡ map (opened_source l.stores) (take l.setup-index l.setups)
