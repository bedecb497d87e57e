use Rattle.std.proofs.Common.{◌≡◌, ◌+◌, ◌*◌, ◌≤◌, drop}
use Rattle.sg_tree.specs.Walk.{walk, round, chosen, each, size, siblings_size, choice_size}
use Rattle.sg_tree.specs.Plain.{steps_view, siblings_view, choice_view, own_steps}
use Rattle.test_paths.proofs.Going.{Sofar, BehindElements}
use Rattle.test_paths.proofs.walk.+walk.Given as goal

abbrev pub decreases-walk : goal.decreases-walk
decreases-walk g l = 4 * size (steps_view l.named.now l.elements.now l.embedded.now)

abbrev pub decreases-rest : goal.decreases-rest
decreases-rest g l = 4 * size (steps_view l.named.now l.elements.now l.embedded.now) + 1

abbrev pub decreases-walk_junction : goal.decreases-walk_junction
decreases-walk_junction g l = 4 * siblings_size (siblings_view l.named.now l.channels.now) + 4 * size (steps_view l.named.now l.elements.now l.embedded.now) + 2

abbrev pub decreases-walk_if : goal.decreases-walk_if
decreases-walk_if g l = 4 * choice_size (choice_view l.named.now l.tests.now l.other.now) + 4 * size (steps_view l.named.now l.elements.now l.embedded.now) + 2

abbrev pub decreases-branches : goal.decreases-branches
decreases-branches g l = 4 * siblings_size (siblings_view l.named.now l.siblings.now) + 1

abbrev pub decreases-round : goal.decreases-round
decreases-round g l = 4 * siblings_size (siblings_view l.named.now l.siblings.now)

abbrev pub decreases-one : goal.decreases-one
decreases-one g l = 4 * size (own_steps l.named.now l.path.now) + 1

abbrev pub decreases-choose : goal.decreases-choose
decreases-choose g l = 4 * choice_size (choice_view l.named.now l.tests.now l.other.now)

abbrev pub invariant-walk-loop-at : goal.invariant-walk-loop-at
invariant-walk-loop-at g l =
    BehindElements l.initial.offers.items l.offers.items (walk (steps_view l.named l.elements l.embedded) l.initial.message l.flow) (walk (steps_view l.named (drop l.at l.elements) l.embedded) l.message l.flow)
    × (size (steps_view l.named (drop l.at l.elements) l.embedded) ≤ size (steps_view l.named l.elements l.embedded))

abbrev pub invariant-rest-loop-message : goal.invariant-rest-loop-message
invariant-rest-loop-message g l =
    Sofar l.initial.offers.items l.offers.items l.gone (each (λ n. walk (steps_view l.named l.elements l.embedded) n l.flow) l.message-items)
    (each (λ n. walk (steps_view l.named l.elements l.embedded) n l.flow) (drop l.message-index l.message-items))

abbrev pub invariant-round-loop-path : goal.invariant-round-loop-path
invariant-round-loop-path g l =
    Sofar l.initial.offers.items l.offers.items l.gone (round (siblings_view l.named l.siblings) l.late l.message l.flow)
    (round (siblings_view l.named (drop l.path-index l.siblings)) l.late l.message l.flow)
    × (siblings_size (siblings_view l.named (drop l.path-index l.siblings)) ≤ siblings_size (siblings_view l.named l.siblings))

abbrev pub invariant-choose-loop-branch : goal.invariant-choose-loop-branch
invariant-choose-loop-branch g l =
    (chosen (choice_view l.named l.tests l.other) l.message l.flow ≡ chosen (choice_view l.named (drop l.branch-index l.tests) l.other) l.message l.flow)
    × (choice_size (choice_view l.named (drop l.branch-index l.tests) l.other) ≤ choice_size (choice_view l.named l.tests l.other)) × (l.offers.items ≡ l.initial.offers.items)
