-- Ranks that never rise.
use Rattle.std.proofs.Common.{◌≡◌, ℕ, ◌<◌, ◌≤◌, ◌+◌, List, [], length, get_or, subst, ⊎_elim, arith, below_more}
use Rattle.std.proofs.lemmas.Bool.{cases_lt}
use Rattle.std.proofs.lemmas.List.{get_or_past}
use Rattle.std.specs.List.{Contains}
use Rattle.sg_graph.specs.Graph.{row_of, ReachesNode, direct, through, IsOnCycle}
use Rattle.sg_graph.proofs.Visiting.{contains-none}

abbrev pub NeverRises : List (List ℕ) → List ℕ → Type 0
NeverRises links ranks = (i j : ℕ) → Contains (row_of links i) j → get_or ranks j 0 ≤ get_or ranks i 0

abbrev pub FallsAt : List (List ℕ) → List ℕ → ℕ → Type 0
FallsAt links ranks i = (j : ℕ) → Contains (row_of links i) j → get_or ranks j 0 < get_or ranks i 0

reaches-below : (links : List (List ℕ)) (ranks : List ℕ) → NeverRises links ranks → (i j : ℕ) → ReachesNode links i j → get_or ranks j 0 ≤ get_or ranks i 0
reaches-below links ranks falls i j (direct _ _ has) = falls i j has
reaches-below links ranks falls i j (through _ m _ has rest) = omega (arith, falls i m has, reaches-below links ranks falls m j rest)

falls-first : (links : List (List ℕ)) (ranks : List ℕ) (top i j : ℕ) → NeverRises links ranks → ((k : ℕ) → Contains (row_of links i) k → get_or ranks k 0 < top) → ReachesNode links i j → get_or ranks j 0 < top
falls-first links ranks top i j never falls (direct _ _ has) = falls j has
falls-first links ranks top i j never falls (through _ m _ has rest) = omega (arith, falls m has, reaches-below links ranks never m j rest)

-- a node that names lower ones alone isn't on a cycle
pub falls-apart : (links : List (List ℕ)) (ranks : List ℕ) (i : ℕ) → NeverRises links ranks → ((j : ℕ) → Contains (row_of links i) j → get_or ranks j 0 < get_or ranks i 0) → IsOnCycle links i → ⊥
falls-apart links ranks i never falls cycle = omega (arith, falls-first links ranks (get_or ranks i 0) i i never falls cycle)

abbrev pub NoneBefore : List (List ℕ) → ℕ → Type 0
NoneBefore links k = (j : ℕ) → j < k → IsOnCycle links j → ⊥

pub falls-here : (links : List (List ℕ)) (ranks : List ℕ) (k : ℕ) → NeverRises links ranks → ((j : ℕ) → Contains (row_of links k) j → get_or ranks j 0 < get_or ranks k 0) → NoneBefore links k → NoneBefore links (k + 1)
falls-here links ranks k never falls before = below_more (λ j. IsOnCycle links j → ⊥) k before (falls-apart links ranks k never falls)

no-row : (links : List (List ℕ)) (i j : ℕ) → length links ≤ i → ReachesNode links i j → ⊥
no-row links i j past (direct _ _ has) = let P : List ℕ → Type 0 = λ row. Contains row j in contains-none j (subst P (get_or_past links i [] past) has)
no-row links i j past (through _ m _ has rest) = let P : List ℕ → Type 0 = λ row. Contains row m in contains-none m (subst P (get_or_past links i [] past) has)

pub none-left : (links : List (List ℕ)) (k : ℕ) → length links ≤ k → NoneBefore links k → (i : ℕ) → IsOnCycle links i → ⊥
none-left links k past before i cycle = ⊎_elim (λ below. before i below cycle) (λ above. no-row links i i (omega (arith, past, above)) cycle) (cases_lt i k)
