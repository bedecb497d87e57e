use Rattle.std.proofs.Common.{◌≡◌, ◌++◌, map, drop}
use Rattle.sg_options.specs.Settings.{items_of}
use Rattle.sg_source.proofs.inlet.texts_of.Given as goal

abbrev pub invariant-loop-arg : goal.invariant-loop-arg
invariant-loop-arg l = l.names ++ map (λ spot. spot.token.text) (items_of (drop l.arg-index l.args)) ≡ map (λ spot. spot.token.text) (items_of l.args)
