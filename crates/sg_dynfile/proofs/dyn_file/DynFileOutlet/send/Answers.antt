use Rattle.std.proofs.Common.{sym, subst}
use Rattle.sg_device.specs.Outlet.{OutletState, Sends}
use Rattle.sg_dynfile.specs.Texts.{outlet_over}
use Rattle.sg_dynfile.proofs.Opened.{opens-over, opens-parted}
use Rattle.sg_dynfile.proofs.dyn_file.DynFileOutlet.send.Goals as goal

pub invariant_of-self : goal.invariant_of-self
invariant_of-self g c =
    let mid = g.P.Opener.state c.send_all-answer.new.opener in
    let new = g.P.Opener.state c.close_after.new.opener in
    record {
      tracks = c.close_after.ensures.tracks;
      parted = opens-parted mid new c.close_after.ensures.same (c.send_all-answer.ensures.sends.parted c.self.invariant.parted);
    }

pub returns : goal.returns
returns g c =
    let old = g.P.Opener.state c.self.inside.opener in
    let mid = g.P.Opener.state c.send_all-answer.new.opener in
    let new = g.P.Opener.state c.close_after.new.opener in
    let sent = subst (λ (o : OutletState). Sends (outlet_over old) o c.args.frames.now c.send_all-answer.result) (sym (opens-over mid new c.close_after.ensures.same)) c.send_all-answer.ensures.sends.sends in
    rw (← c.self.view_is) sent
