use Rattle.std.proofs.Common.{◌≡◌, [], length}
use Rattle.sg_msg.specs.Message.{with_all}
use Rattle.sg_msg.specs.Parts.{pairs_of, AreInTexts}
use Rattle.sg_msg.proofs.sorting.sink_each.Given as goal

-- what is made of them stays, how many they are, and where they stand
abbrev pub invariant-loop-at : goal.invariant-loop-at
invariant-loop-at l = record {
  same : with_all (pairs_of l.texts l.pairs.items) [] ≡ with_all (pairs_of l.texts l.fn.pairs.items) [];
  len : length l.pairs.items ≡ length l.fn.pairs.items;
  within : AreInTexts l.texts l.fn.pairs.items → AreInTexts l.texts l.pairs.items;
}
