use Rattle.std.specs.Option.{option_map}
use Rattle.sg_spool.proofs.Whole.{counts}
use Rattle.sg_spool.proofs.spool.Spool.count.Goals as goal

pub returns-clause-list : goal.returns-clause-list
returns-clause-list g c = rw (← c.self.view_is) (λ shut bytes left list is.
    let m = c.self.inside in
    counts m.cell m.rows (option_map (λ v. v.items) m.front) (g.D.Disk.state m.disk) (c.self.invariant.whole shut) list bytes left is)
