-- A hub is shared by threads.
use denote.RattleType.{RattleType}
use denote.Param.Send.{IsSend, IsSync, view_sync, sendable}
use Rattle.sg_device.specs.declared.disk.Disk.{Ghosts}
use Rattle.sg_booth.proofs.Crosses.{booth_sync}
use Rattle.sg_hub.specs.contracts.hub.Hub.{the_row as hub_row}
use Rattle.sg_hub.specs.contracts.hub.Hub.TheInside.{the_row as inside_row}
use Rattle.sg_hub.proofs.office.CoreOffice.TheSendSync.{the_send as office_send}

inside_sync : (D : RattleType) (g : Ghosts D.Denot) → IsSend D → IsSync (inside_row D g)
inside_sync D g d = search (sendable, office_send, booth_sync) depth 30

pub hub_sync : (D : RattleType) (g : Ghosts D.Denot) → IsSend D → IsSync (hub_row D g)
hub_sync D g d = view_sync (inside_row D g) _ _ _ _ (inside_sync D g d)
