-- How large nodes are with all that they name.
use Rattle.std.specs.Prelude.{◌≡◌, ℕ, zero, suc, ◌+◌, ◌≤◌, min, Bool, true, false, ◌⊎◌, List, length, slice_index, slice_index_or}
use Rattle.std.specs.List.{Contains, sum_by, count_by}
use Rattle.sg_graph.specs.Graph.{row_of}

-- its own size and that of each node that it names, as often as it names it; names so many deep count
unfoldable pub size_within : ℕ → List (List ℕ) → List ℕ → ℕ → ℕ
size_within zero links own i = 0
size_within (suc depth) links own i = slice_index own i
    + sum_by (size_within depth links own) (row_of links i)

-- Without a cycle names go no deeper than there are nodes.
abbrev pub size_of : List (List ℕ) → List ℕ → ℕ → ℕ
size_of links own i = size_within (length links) links own i

-- the sizes of the nodes that are done, none counted higher than `most`: nodes that are done name no deeper than so many
abbrev pub AreSizes : List (List ℕ) → List ℕ → ℕ → List Bool → List ℕ → Type 0
AreSizes links own most done sizes = (i depth : ℕ) → slice_index_or done i true ≡ true
    → count_by (λ mark. mark) done ≤ depth
    → slice_index sizes i ≡ min most (size_within depth links own i)

-- all that it names is done, and it isn't
abbrev pub IsNodeReady : List (List ℕ) → List Bool → ℕ → Type 0
IsNodeReady links done i = (slice_index_or done i true ≡ false)
    × ((j : ℕ) → Contains (row_of links i) j → slice_index_or done j true ≡ true)

-- it is done, or names one that isn't
abbrev pub IsNodeHeld : List (List ℕ) → List Bool → ℕ → Type 0
IsNodeHeld links done i = (slice_index_or done i true ≡ true)
    ⊎ ((j : ℕ) × Contains (row_of links i) j × (slice_index_or done j true ≡ false))
