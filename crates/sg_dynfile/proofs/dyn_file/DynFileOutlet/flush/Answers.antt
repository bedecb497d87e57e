use Rattle.sg_dynfile.proofs.Opened.{opens-over, opens-parted}
use Rattle.sg_dynfile.proofs.dyn_file.DynFileOutlet.flush.Goals as goal

pub invariant_of-self : goal.invariant_of-self
invariant_of-self g c = record {
  tracks = c.close_unused.ensures.tracks;
  parted = opens-parted (g.P.Opener.state c.self.inside.opener) (g.P.Opener.state c.close_unused.new.opener) c.close_unused.ensures.same c.self.invariant.parted;
}

pub returns : goal.returns
returns g c = rw (← c.self.view_is) (opens-over (g.P.Opener.state c.self.inside.opener) (g.P.Opener.state c.close_unused.new.opener) c.close_unused.ensures.same)
