use Rattle.std.proofs.Common.{subst, sym, arith, rules, ◌++◌, ◌∷◌, []}
use Rattle.std.proofs.lemmas.Grind.{common_steps}
use Rattle.sg_window.specs.Window.{Window, WindowStandsFor}
use Rattle.sg_window.proofs.WindowLemmas.{outstanding-outstanding, stands-begin}
use Rattle.sg_window.proofs.tracker.Tracker.begin.Goals as goal

pub invariant_of-self : goal.invariant_of-self
invariant_of-self c =
    let credit = rw (← c.self.view_is) at c.requires.credit in
    (omega arith, omega arith, omega arith, rw c.trim.ensures.ring (search (rules, outstanding-outstanding)))

pub returns-clause-after : goal.returns-clause-after
returns-clause-after c = grind (arith, common_steps)

pub returns-clause-stands : goal.returns-clause-stands
returns-clause-stands c = λ from records h.
    subst (λ (w : Window). WindowStandsFor w from (records ++ record { end = c.args.end; left = c.args.left } ∷ [])) (sym (returns-clause-after c)) (stands-begin c.args.self.now c.args.end c.args.left from records h)
