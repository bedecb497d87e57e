use Rattle.sg_serve.proofs.run.run_plan.Goals as goal

pub returns : goal.returns
returns g c = c.run_stores-held.ensures (g.W.Machine.state c.close_all.new.world) c.close_all.ensures
