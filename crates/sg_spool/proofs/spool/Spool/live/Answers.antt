use Rattle.std.specs.Option.{option_map}
use Rattle.std.proofs.Common.{◌∙◌, ap, arith}
use Rattle.sg_spool.specs.Places.{live}
use Rattle.sg_spool.proofs.Looking.{between_small}
use Rattle.sg_spool.proofs.Staging.{ahead_none}
use Rattle.sg_spool.proofs.Whole.{space_listed}
use Rattle.sg_spool.proofs.spool.Spool.live.Goals as goal

pub returns-clause-list : goal.returns-clause-list
returns-clause-list g c = rw (← c.self.view_is) (λ none.
    let rows = c.self.inside.rows in
    c.live.ensures ∙ ap live (ahead_none rows.staged rows.list rows.ahead none (c.self.invariant.rows).apart))

pub returns-clause-small : goal.returns-clause-small
returns-clause-small g c =
    let m = c.self.inside in
    let small = between_small m.rows.ahead.jump m.rows.ahead.head m.rows.ahead.end (c.self.invariant.rows).ahead in
    omega (arith, c.live.ensures, small)

pub returns-clause-space : goal.returns-clause-space
returns-clause-space g c = rw (← c.self.view_is) (λ shut none bytes told list is.
    let m = c.self.inside in
    c.live.ensures ∙ space_listed m.cell m.rows (option_map (λ v. v.items) m.front) (g.D.Disk.state m.disk) (c.self.invariant.whole shut) c.self.invariant.rows none bytes told list is)
