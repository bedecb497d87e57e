use denote.Param.Send.{sendable}
use Rattle.std.proofs.Crossing.{crosses}
use Rattle.sg_hub.proofs.Crosses.{hub_sync}
use Rattle.sg_crew.proofs.worker.Worker.TheSendSync.{the_send as worker_send}
use Rattle.sg_actor.proofs.dest.DestActor.TheSendSync.{the_send as dest_send}
use Rattle.sg_actor.proofs.source.SourceActor.TheSendSync.{the_send as source_send}
use Rattle.sg_crew.proofs.together.take_all.Goals as goal

pub for_each_mut-requires-sync-F : goal.for_each_mut-requires-sync-F
for_each_mut-requires-sync-F g c κs within =
    let sync = c.type_bounds.sync-T in
    let r = c.type_bounds.send-R in
    let i = c.type_bounds.send-I in
    let o = c.type_bounds.send-O in
    let d = c.type_bounds.send-D in
    let k = c.type_bounds.send-K in
    let l = c.type_bounds.send-L in
    search (sendable, crosses, hub_sync, worker_send, source_send, dest_send) depth 60 fits 40000

pub for_each_mut-requires-clause-accepts : goal.for_each_mut-requires-clause-accepts
for_each_mut-requires-clause-accepts g c κs within i p below is =
    let sync = c.type_bounds.sync-T in
    let r = c.type_bounds.send-R in
    let j = c.type_bounds.send-I in
    let o = c.type_bounds.send-O in
    let d = c.type_bounds.send-D in
    let k = c.type_bounds.send-K in
    let l = c.type_bounds.send-L in
    let read = c.requires.read in
    let send = c.requires.send in
    (search sendable depth 20, search sendable depth 20, search sendable depth 20, search sendable depth 20, search sendable depth 20, search sendable depth 20, search sendable depth 20, read, send)
