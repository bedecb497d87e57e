use Rattle.std.proofs.Common.{List, ◌∙◌, sym, subst}
use Rattle.std.specs.Prelude.{Option}
use Rattle.sg_device.specs.Paths.{PathText}
use Rattle.sg_dynfile.specs.Texts.{AreParted}
use Rattle.sg_dynfile.proofs.Over.{reopens-over}
use Rattle.sg_dynfile.proofs.dyn_file.DynFileOutlet.reopen.Goals as goal

pub invariant_of-self : goal.invariant_of-self
invariant_of-self g c =
    let keeps = c.reopen.ensures.keeps in
    record {
      tracks = record { opened = keeps.opened ∙ c.self.invariant.tracks.opened; most = c.self.invariant.tracks.most; some = c.self.invariant.tracks.some };
      parted = subst (λ (t : Option (List PathText)). AreParted t) (sym keeps.taken) c.self.invariant.parted;
    }

pub returns : goal.returns
returns g c = rw (← c.self.view_is) (reopens-over (g.P.Opener.state c.self.inside.opener) (g.P.Opener.state c.reopen.new.self) c.reopen.result c.reopen.ensures)
