use denote.Param.Send.{sendable}
use Rattle.sg_pipes.proofs.Sent.{pipes}
use Rattle.sg_pipes.proofs.threads.pipes_cross_threads.Goals as goal

pub is_send-requires-send-T : goal.is_send-requires-send-T
is_send-requires-send-T c κs = search (pipes, sendable) depth 30 fits 20000
