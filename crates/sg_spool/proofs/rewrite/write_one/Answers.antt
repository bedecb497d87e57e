use Rattle.std.proofs.Common.{◌∙◌, List, ℕ, subst, sym}
use Rattle.sg_device.specs.Disk.{content, Changes}
use Rattle.sg_spool.specs.Ring.{IsPayload}
use Rattle.sg_spool.specs.Rewriting.{AddsSpelled}
use Rattle.sg_spool.proofs.rewrite.write_one.Goals as goal

pub new-requires : goal.new-requires
new-requires g c =
    let fits = subst IsPayload (sym c.in_ok-spelled.ensures.payload) (g.met.M.Recode.fits c.args.recode.now c.args.payload.now c.requires.fits) in
    record { some = fits.some; limit = fits.limit }

pub returns-clause-added : goal.returns-clause-added
returns-clause-added g c = subst (λ (l : List ℕ). Changes (AddsSpelled c.args.at l c.args.last) (content (g.D.Disk.state c.args.disk.now)) (content (g.D.Disk.state c.write_block.new.disk))) (c.in_ok-block.ensures ∙ c.in_ok-spelled.ensures.payload) c.in_ok-write_block.ensures.added
