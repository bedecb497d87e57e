use Rattle.std.proofs.Common.{◌≡◌, drop}
use Rattle.sg_pattern.specs.Kept.{made_of}
use Rattle.sg_pattern.proofs.kept.find.Given as goal

abbrev pub invariant-loop-one : goal.invariant-loop-one
invariant-loop-one l = made_of l.text l.ignore_case l.kept ≡ made_of l.text l.ignore_case (drop l.one-index l.kept)
