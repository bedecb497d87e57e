use Rattle.std.proofs.Common.{List, sym, ap, ◌∙◌}
use Rattle.sg_tree.specs.Bounds.{reach_all, reach_each}
use Rattle.sg_table.specs.Fans.{cut_reach, fan}
use Rattle.sg_table.specs.Table.{branches_at, choice_of, other_at, place, siblings_of, steps_of, tests_at}
use Rattle.sg_table.specs.declared.pipe.Branch.{Branch}
use Rattle.sg_table.specs.declared.pipe.Pipe.{Pipe}
use Rattle.sg_table.specs.declared.pipe.Test.{Test}
use Rattle.sg_table.proofs.Fanning.{fan-onward}
use Rattle.sg_table.proofs.fan.fan_of.Goals as goal

pub returns-in-Junction : goal.returns-in-Junction
returns-in-Junction c = λ steps e.
    let first = reach_all (siblings_of (branches_at (place steps) c.in-Junction.channels.items)) 1 in
    c.onward.ensures
    ∙ fan-onward first (place steps c.in-Junction.next) c.branches_fan.result c.fan_at-in-Junction.result
    (c.branches_fan.ensures steps e ∙ ap (λ (bs : List Branch). cut_reach (reach_all (siblings_of (branches_at (place steps) bs)) 1)) c.deref.ensures.value)
    (c.fan_at-in-Junction.ensures steps e)
    ∙ sym (ap (λ (p : Pipe). fan (steps_of (place steps) p)) c.in-Junction.is)

pub returns-in-If : goal.returns-in-If
returns-in-If c = λ steps e.
    let other = other_at (place steps) c.in-If.other in
    let first = reach_each (choice_of (tests_at (place steps) c.in-If.tests.items) other) 1 in
    c.onward-in-If.ensures
    ∙ fan-onward first (place steps c.in-If.next) c.tests_fan.result c.fan_at-in-If.result
    (c.tests_fan.ensures steps e ∙ ap (λ (ts : List Test). cut_reach (reach_each (choice_of (tests_at (place steps) ts) other) 1)) c.deref-in-If.ensures.value)
    (c.fan_at-in-If.ensures steps e)
    ∙ sym (ap (λ (p : Pipe). fan (steps_of (place steps) p)) c.in-If.is)
