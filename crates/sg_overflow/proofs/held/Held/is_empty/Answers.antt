use Rattle.std.proofs.Common.{subst}
use Rattle.sg_overflow.specs.Held.{StandsStill}
use Rattle.sg_overflow.specs.View.{Held, IsHeldTold}
use Rattle.sg_overflow.proofs.Works.{moves_none, told_of}
use Rattle.sg_overflow.proofs.held.Held.is_empty.Goals as goal

pub returns-then-self-eq0-clause-still : goal.returns-then-self-eq0-clause-still
returns-then-self-eq0-clause-still g c =
    let m = c.self.inside in
    let held : Held g.row.D.Denot = record { store = m.spool; memory = m.memory; limits = m.limits; stored = m.stored; behind = m.behind } in
    subst (λ (h : Held g.row.D.Denot). StandsStill g.D.Disk.state h) c.self.view_is (λ inner. moves_none g.D.Disk.state m.failed held inner c.self.invariant)

pub returns-else-self-eq0-clause-still : goal.returns-else-self-eq0-clause-still
returns-else-self-eq0-clause-still g c =
    let m = c.self.inside in
    let held : Held g.row.D.Denot = record { store = m.spool; memory = m.memory; limits = m.limits; stored = m.stored; behind = m.behind } in
    subst (λ (h : Held g.row.D.Denot). StandsStill g.D.Disk.state h) c.self.view_is (λ inner. moves_none g.D.Disk.state m.failed held inner c.self.invariant)

pub returns-then-self-eq0-clause-told : goal.returns-then-self-eq0-clause-told
returns-then-self-eq0-clause-told g c =
    let m = c.self.inside in
    let held : Held g.row.D.Denot = record { store = m.spool; memory = m.memory; limits = m.limits; stored = m.stored; behind = m.behind } in
    subst (λ (h : Held g.row.D.Denot). IsHeldTold g.D.Disk.state h) c.self.view_is (told_of g.D.Disk.state m.failed held c.self.invariant)

pub returns-else-self-eq0-clause-told : goal.returns-else-self-eq0-clause-told
returns-else-self-eq0-clause-told g c =
    let m = c.self.inside in
    let held : Held g.row.D.Denot = record { store = m.spool; memory = m.memory; limits = m.limits; stored = m.stored; behind = m.behind } in
    subst (λ (h : Held g.row.D.Denot). IsHeldTold g.D.Disk.state h) c.self.view_is (told_of g.D.Disk.state m.failed held c.self.invariant)
