use Rattle.std.proofs.Common.{◌≡◌, ◌≤◌, ◌++◌, length, drop}
use Rattle.sg_pattern.specs.Pattern.{InOrder}
use Rattle.sg_rewrite.specs.Values.{cut, replaced}
use Rattle.sg_rewrite.proofs.replacing.replace.Given as goal

abbrev pub invariant-loop-span : goal.invariant-loop-span
invariant-loop-span l = record {
  in_order : InOrder l.at (length l.bytes) (drop l.span-index l.spans);
  short : length l.value.items ≤ 1048576;
  left : cut (l.value.items ++ replaced (drop l.span-index l.spans) l.bytes l.text l.at) ≡ cut (replaced l.spans l.bytes l.text 0);
}
