use Rattle.std.proofs.Common.{◌≡◌, drop}
use Rattle.sg_options.specs.Settings.{has_word, items_of}
use Rattle.sg_options.proofs.settings.has_word.Given as goal

abbrev pub invariant-loop-arg : goal.invariant-loop-arg
invariant-loop-arg l = has_word l.word (items_of l.args) ≡ has_word l.word (items_of (drop l.arg-index l.args))
