-- What lies in a slot crosses threads, and a booth is shared by them.
use denote.RattleType.{RattleType}
use denote.Param.Send.{IsSend, IsSync, view_sync, sendable}
use Rattle.std.proofs.Crossing.{frees}
use Rattle.std.proofs.alloc.Global.TheSendSync as heap
use Rattle.atomic_table.proofs.shared.Shared.TheSendSync.{the_sync as shared_sync}
use Rattle.atomic_table.proofs.send_lease.SendLease.TheSendSync.{the_sync as lease_sync}
use Rattle.sg_booth.specs.declared.office.Office.{Ghosts}
use Rattle.sg_booth.specs.contracts.table.ServedOffice.{the_row as held_row}
use Rattle.sg_booth.specs.contracts.booth.Booth.{the_row as booth_row}
use Rattle.sg_booth.specs.contracts.booth.Booth.TheInside.{the_row as inside_row}

pub held_send : (V C R : RattleType) → IsSend V → IsSend (held_row V C R)
held_send V C R v = search sendable depth 20

pub inside_sync : (V C R : RattleType) (g : Ghosts V.Denot C.Denot R.Denot) → IsSend V → IsSync (inside_row V C R g)
inside_sync V C R g v = let h = held_send V C R v in search (sendable, shared_sync, lease_sync, heap.the_sync, heap.the_send, frees) depth 30

pub booth_sync : (V C R : RattleType) (g : Ghosts V.Denot C.Denot R.Denot) → IsSend V → IsSync (booth_row V C R g)
booth_sync V C R g v = view_sync (inside_row V C R g) _ _ _ _ (inside_sync V C R g v)
