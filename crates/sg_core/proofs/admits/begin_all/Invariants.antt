use Rattle.std.proofs.Common.{◌≡◌, length, drop, slice_get}
use Rattle.sg_list.specs.Lists.{change}
use Rattle.sg_standing.specs.Sources.{HasCredit, begun_all}
use Rattle.sg_core.proofs.admits.begin_all.Given as goal

abbrev pub invariant-loop-record : goal.invariant-loop-record
invariant-loop-record l = record {
  len : length l.sources ≡ length l.fn.sources;
  credit : HasCredit (slice_get l.sources l.i) (length (drop l.record-index l.records));
  begun : change l.sources l.i (begun_all (drop l.record-index l.records)) ≡ change l.fn.sources l.i (begun_all l.records);
}
