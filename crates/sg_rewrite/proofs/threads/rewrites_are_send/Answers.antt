use denote.Param.Send.{sendable}
use Rattle.sg_rewrite.proofs.Sent.{rewrite}
use Rattle.sg_rewrite.proofs.threads.rewrites_are_send.Goals as goal

pub is_send-requires-send-T : goal.is_send-requires-send-T
is_send-requires-send-T c κs = search (rewrite, sendable) depth 30 fits 20000
