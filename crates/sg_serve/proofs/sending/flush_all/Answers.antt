use Rattle.std.proofs.Common.{◌∙◌}
use Rattle.sg_serve.proofs.FinishLemmas.{set-same}
use Rattle.sg_serve.proofs.sending.flush_all.Goals as goal

pub loop-d-preserved : goal.loop-d-preserved
loop-d-preserved g c =
    set-same g.O.Outlet.state g.D.Disk.state c.loop-d.outlets.items c.loop-d.d c.index_mut.result.now c.flush.new.self c.index_mut.ensures.value c.flush.ensures ∙ c.loop-d.invariant
