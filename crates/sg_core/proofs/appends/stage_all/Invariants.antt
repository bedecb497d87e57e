use Rattle.std.proofs.Common.{length, take, drop}
use Rattle.sg_offers.specs.Payloads.{buffers_of}
use Rattle.sg_offers.specs.Rooms.{seen_in}
use Rattle.sg_core.proofs.AppendSteps.{StagedMore}
use Rattle.sg_core.proofs.appends.stage_all.Given as goal

abbrev pub invariant-loop-payload : goal.invariant-loop-payload
invariant-loop-payload g l = StagedMore l.fn.stores l.stores (buffers_of (seen_in l.sinks)) (length l.sinks) l.fn.staged l.staged (take l.payload-index l.payloads) (drop l.payload-index l.payloads)
