use Rattle.std.proofs.Common.{subst, sym, refl, arith, rules, ◌-◌, length}
use Rattle.sg_list.specs.Lists.{change}
use Rattle.sg_window.specs.Window.{one_less, Window, WindowStandsFor}
use Rattle.sg_window.proofs.WindowLemmas.{outstanding-outstanding, change-write, stands-ack, left_at-below}
use Rattle.sg_window.proofs.tracker.Tracker.ack.Goals as goal

pub invariant_of-self : goal.invariant_of-self
invariant_of-self c = (omega arith, omega arith, omega arith, rw c.trim.ensures.ring (search (rules, outstanding-outstanding)))

pub returns-clause-after : goal.returns-clause-after
returns-clause-after c =
    rw (← c.self.view_is)
    (let first = rw (← c.self.view_is) at c.requires.outstanding in
    let owed = rw (← c.self.view_is) at c.requires.owed in
    let there = left_at-below _ _ owed in
    let e = change-write c.self.inside.ring.items (c.args.number - (c.self.inside.begun - length c.self.inside.ring.items)) (c.args.number - (c.self.inside.begun - c.len.result)) c.index_mut.result.now there (omega arith) c.index_mut.ensures.value
    in rw (e, c.trim.ensures.mark, c.trim.ensures.ring) refl)

pub returns-clause-stands : goal.returns-clause-stands
returns-clause-stands c = λ from records h.
    subst (λ (w : Window). WindowStandsFor w from (change records c.args.number one_less)) (sym (returns-clause-after c)) (stands-ack c.args.self.now c.args.number from records c.requires.outstanding h)
