use Rattle.std.proofs.Common.{◌≡◌, drop}
use Rattle.sg_daemon.specs.Held.{in_windows}
use Rattle.sg_daemon.proofs.held.in_windows.Given as goal

abbrev pub invariant-loop-source : goal.invariant-loop-source
invariant-loop-source l = in_windows l.sum (drop l.source-index l.sources) ≡ in_windows 0 l.sources
