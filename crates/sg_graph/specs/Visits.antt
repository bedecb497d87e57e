-- What a search has seen, and what waits in it.
use Rattle.std.specs.Prelude.{◌≡◌, ℕ, ◌+◌, ◌<◌, Bool, true, false, not, ◌⊎◌, List, length, slice_index_or}
use Rattle.std.specs.List.{Contains, count_by}

-- how many have no mark
abbrev pub unseen : List Bool → ℕ
unseen seen = count_by not seen

-- nodes that had no mark have one now, and wait
pub record VisitsNodes (nodes : List ℕ) (seen : List Bool) (waiting : List ℕ) (after : List Bool)
    (waits : List ℕ) : Type 0 where
  pub size : length after ≡ length seen
  pub all : (i : ℕ) → Contains nodes i → slice_index_or after i true ≡ true
  pub stays : (i : ℕ) → slice_index_or seen i true ≡ true → slice_index_or after i true ≡ true
  pub only : (i : ℕ) → slice_index_or after i true ≡ true
      → (slice_index_or seen i true ≡ true) ⊎ (Contains nodes i × Contains waits i)
  pub waited : (i : ℕ) → Contains waiting i → Contains waits i
  pub given : (i : ℕ) → Contains waits i → Contains waiting i ⊎ Contains nodes i
  pub count : unseen after + length waits ≡ unseen seen + length waiting
