use Rattle.std.proofs.Common.{◌∙◌}
use Rattle.sg_serve.proofs.FinishLemmas.{set-same}
use Rattle.sg_serve.proofs.overflows.finish_from.Goals as goal

pub loop-d-preserved : goal.loop-d-preserved
loop-d-preserved g c =
    set-same g.O.Outlet.state g.D.Disk.state c.loop-d.outlets.items c.loop-d.d c.index_mut.result.now c.finish-finished.new.self c.index_mut.ensures.value c.finish-finished.ensures.stays ∙ c.loop-d.invariant
