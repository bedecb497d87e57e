use Rattle.std.proofs.Common.{◌≡◌, drop}
use Rattle.sg_options.specs.Settings.{has_word}
use Rattle.sg_forest.proofs.flag.has_flag.Given as goal

abbrev pub invariant-loop-flag : goal.invariant-loop-flag
invariant-loop-flag l = has_word l.word l.flags ≡ has_word l.word (drop l.flag-index l.flags)
