use Rattle.std.proofs.Common.{◌≡◌, ◌≤◌, drop}
use Rattle.sg_names.specs.Limits.{total_faults}
use Rattle.sg_names.proofs.limit.large_total.Given as goal

abbrev pub invariant-loop-part : goal.invariant-loop-part
invariant-loop-part l = (l.sum ≤ 65536) × (total_faults l.sizes l.rewrites l.parsers l.sum (drop l.part-index l.parts) ≡ total_faults l.sizes l.rewrites l.parsers 0 l.parts)
