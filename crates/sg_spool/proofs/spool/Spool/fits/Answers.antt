use Rattle.std.specs.Option.{option_map}
use Rattle.sg_spool.proofs.Whole.{spaces}
use Rattle.sg_spool.proofs.spool.Spool.fits.Goals as goal

pub returns-clause-space : goal.returns-clause-space
returns-clause-space g c = rw (← c.self.view_is) (λ shut bytes told list staged holds.
    let m = c.self.inside in
    spaces m.cell m.rows (option_map (λ v. v.items) m.front) (g.D.Disk.state m.disk) (c.self.invariant.whole shut) c.self.invariant.rows list staged holds bytes told)
