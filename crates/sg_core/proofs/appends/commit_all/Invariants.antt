use Rattle.std.proofs.Common.{◌≡◌, length}
use Rattle.sg_offers.specs.Payloads.{buffers_of}
use Rattle.sg_offers.specs.Rooms.{seen_in}
use Rattle.sg_core.proofs.CommitSteps.{Committing}
use Rattle.sg_core.proofs.appends.commit_all.Given as goal

abbrev pub invariant-loop-d : goal.invariant-loop-d
invariant-loop-d g l = record {
  len : length l.staged ≡ length l.sinks;
  committing : Committing l.fn.stores l.stores (buffers_of (seen_in l.sinks)) l.fn.staged l.staged l.d;
}
