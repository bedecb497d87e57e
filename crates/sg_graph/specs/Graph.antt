-- Nodes that name nodes, by their places. A place past the last node stands for one that names nothing.
use Rattle.std.specs.Prelude.{◌≡◌, ℕ, ◌<◌, List, [], Option, None, Some, slice_index_or}
use Rattle.std.specs.List.{Contains}

-- what a node names
abbrev pub row_of : List (List ℕ) → ℕ → List ℕ
row_of links i = slice_index_or links i []

-- by one name or by several in a row
pub data ReachesNode (links : List (List ℕ)) : ℕ → ℕ → Type 0 where
  direct : (i j : ℕ) → Contains (row_of links i) j → ReachesNode links i j
  through : (i j k : ℕ) → Contains (row_of links i) j → ReachesNode links j k
      → ReachesNode links i k

abbrev pub IsOnCycle : List (List ℕ) → ℕ → Type 0
IsOnCycle links i = ReachesNode links i i

-- no node names itself through others
abbrev pub HasNoCycle : List (List ℕ) → Type 0
HasNoCycle links = (i : ℕ) → IsOnCycle links i → ⊥

-- the first node that names itself through others, where there is one
abbrev pub IsFirstOnCycle : List (List ℕ) → Option ℕ → Type 0
IsFirstOnCycle links None = HasNoCycle links
IsFirstOnCycle links (Some i) = IsOnCycle links i × ((j : ℕ) → j < i → IsOnCycle links j → ⊥)
