use denote.Param.Send.{sendable}
use Rattle.std.proofs.Crossing.{crosses}
use Rattle.atomic_table.proofs.badge.Badge.TheSendSync.{the_send as badge_send}
use Rattle.sg_booth.proofs.Crosses.{booth_sync}
use Rattle.test_core.proofs.till.fill_both.Goals as goal

pub join-one-requires-send-F : goal.join-one-requires-send-F
join-one-requires-send-F g c κs within = let sync = c.type_bounds.sync-R in search (sendable, crosses, badge_send, booth_sync) depth 20
