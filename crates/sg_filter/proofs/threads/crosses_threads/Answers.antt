use denote.Param.Send.{sendable}
use Rattle.sg_filter.proofs.Sent.{filter}
use Rattle.sg_filter.proofs.threads.crosses_threads.Goals as goal

pub is_send-requires-2-send-T : goal.is_send-requires-2-send-T
is_send-requires-2-send-T c κs = search (filter, sendable) depth 30 fits 20000
