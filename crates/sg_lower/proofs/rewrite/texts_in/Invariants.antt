use Rattle.std.proofs.Common.{◌≡◌, take}
use Rattle.std.specs.List.{flat_map}
use Rattle.sg_options.specs.Settings.{item_of}
use Rattle.sg_lower.specs.Values.{text_if}
use Rattle.sg_lower.proofs.rewrite.texts_in.Given as goal

abbrev pub invariant-loop-arg : goal.invariant-loop-arg
invariant-loop-arg l = l.texts.items ≡ flat_map (λ arg. text_if (item_of arg)) (take l.arg-index l.args)
