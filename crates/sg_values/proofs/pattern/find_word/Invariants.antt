use Rattle.std.proofs.Common.{◌≡◌, drop}
use Rattle.sg_options.specs.Settings.{items_of}
use Rattle.sg_values.specs.Patterns.{find_word}
use Rattle.sg_values.proofs.pattern.find_word.Given as goal

abbrev pub invariant-loop-arg : goal.invariant-loop-arg
invariant-loop-arg l = find_word l.word (items_of l.args) ≡ find_word l.word (items_of (drop l.arg-index l.args))
