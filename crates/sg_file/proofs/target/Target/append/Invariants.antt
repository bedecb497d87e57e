use Rattle.std.proofs.Common.{◌≡◌, ◌≤◌, length}
use Rattle.sg_file.specs.Target.{KeepsTarget}
use Rattle.sg_file.proofs.target.Target.append.Given as goal

abbrev pub invariant-loop : goal.invariant-loop
invariant-loop l = (l.piece.count ≤ length l.bytes) × KeepsTarget l.initial.self l.self
