use Rattle.std.proofs.Common.{◌≡◌, ◌≤◌, length, vec_capacity}
use Rattle.sg_crew.proofs.together.starts_of.Given as goal

abbrev pub invariant-loop-k : goal.invariant-loop-k
invariant-loop-k l = record {
  all : length l.starts.items ≡ l.k;
  fits : l.threads ≤ vec_capacity l.starts;
}
