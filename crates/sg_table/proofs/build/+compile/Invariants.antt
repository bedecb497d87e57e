use Rattle.std.proofs.Common.{◌+◌, ◌*◌, [], None, map, drop, take}
use Rattle.sg_outside.specs.World.{OnlyBuilds}
use Rattle.sg_pattern.specs.Builds.{RefusesNone}
use Rattle.sg_filter.specs.Patterns.{AreValid}
use Rattle.sg_tree.specs.Plain.{in_front, element_view, steps_view, siblings_view, choice_view, own_steps}
use Rattle.sg_tree.specs.Walk.{none_left, size, siblings_size, choice_size}
use Rattle.sg_table.specs.Compiled.{Compiled, CompiledBranches, CompiledTests, own, choices, other_steps}
use Rattle.sg_table.specs.Patterns.{list_patterns, siblings_patterns, choices_patterns}
use Rattle.sg_table.specs.Table.{steps_at}
use Rattle.sg_table.proofs.build.+compile.Given as goal

abbrev pub invariant-list-loop-i : goal.invariant-list-loop-i
invariant-list-loop-i g l = record {
  compiled : Compiled l.initial.pipes.items l.pipes.items l.first (in_front (map (element_view l.named) (drop l.i l.elements)) (steps_at l.initial.pipes.items l.initial.first));
  valid : AreValid (list_patterns l.named (drop l.i l.elements));
  stays : RefusesNone (g.B.Machine.state l.initial.builder) (g.B.Machine.state l.builder);
  only : OnlyBuilds (g.B.Machine.state l.initial.builder) (g.B.Machine.state l.builder);
}

abbrev pub invariant-siblings-loop-one : goal.invariant-siblings-loop-one
invariant-siblings-loop-one g l = record {
  compiled : CompiledBranches l.initial.pipes.items l.pipes.items l.branches.items (map (own l.named) (take l.one-index l.paths));
  valid : AreValid (siblings_patterns l.named (take l.one-index l.paths));
  stays : RefusesNone (g.B.Machine.state l.initial.builder) (g.B.Machine.state l.builder);
  only : OnlyBuilds (g.B.Machine.state l.initial.builder) (g.B.Machine.state l.builder);
}

abbrev pub invariant-tests-loop-branch : goal.invariant-tests-loop-branch
invariant-tests-loop-branch g l = record {
  compiled : CompiledTests l.initial.pipes.items l.pipes.items l.tests.items (choices l.named (take l.branch-index l.branches));
  valid : AreValid (choices_patterns l.named (take l.branch-index l.branches));
  stays : RefusesNone (g.B.Machine.state l.initial.builder) (g.B.Machine.state l.builder);
  only : OnlyBuilds (g.B.Machine.state l.initial.builder) (g.B.Machine.state l.builder);
}

abbrev pub decreases-element : goal.decreases-element
decreases-element g l = 3 * size (element_view l.named.now l.element.now none_left)

abbrev pub decreases-choice : goal.decreases-choice
decreases-choice g l = 3 * choice_size (choice_view l.named.now l.branches.now l.other.now) + 2

abbrev pub decreases-list : goal.decreases-list
decreases-list g l = 3 * size (in_front (map (element_view l.named.now) l.elements.now) none_left) + 1

abbrev pub decreases-path : goal.decreases-path
decreases-path g l = 3 * size (own_steps l.named.now l.path.now) + 2

abbrev pub decreases-branch : goal.decreases-branch
decreases-branch g l = 3 * size (steps_view l.named.now l.elements.now []) + 2

abbrev pub decreases-test : goal.decreases-test
decreases-test g l = 3 * size (steps_view l.named.now l.elements.now []) + 3

abbrev pub decreases-end : goal.decreases-end
decreases-end g l = 3 * size (steps_view l.named.now [] l.embedded.now)

abbrev pub decreases-siblings : goal.decreases-siblings
decreases-siblings g l = 3 * siblings_size (siblings_view l.named.now l.paths.now)

abbrev pub decreases-tests : goal.decreases-tests
decreases-tests g l = 3 * choice_size (choice_view l.named.now l.branches.now None) + 1

abbrev pub decreases-other_start : goal.decreases-other_start
decreases-other_start g l = 3 * size (other_steps l.named.now l.other.now) + 3
