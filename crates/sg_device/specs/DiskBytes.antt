-- The bytes of a disk: parts of them, and what writes and reads do.
use Rattle.std.specs.Prelude.{◌≡◌, ℕ, ◌+◌, ◌-◌, ◌<◌, ◌≤◌, max, min, List, ◌++◌, length, take, drop, replicate, slice_index}

-- the n bytes from this place on
abbrev pub part : ℕ → ℕ → List ℕ → List ℕ
part at n bytes = take n (drop at bytes)

-- these places hold the same byte in both
abbrev pub SameIn : ℕ → ℕ → List ℕ → List ℕ → Type 0
SameIn low high old new = (k : ℕ) → low ≤ k → k < high → slice_index new k ≡ slice_index old k

-- the bytes after a write; this byte fills a gap behind the old end
unfoldable pub overlaid : ℕ → ℕ → List ℕ → List ℕ → List ℕ
overlaid gap at bytes old = take at (old ++ replicate (at - length old) gap) ++ bytes
    ++ drop (at + length bytes) old

-- the bytes after a write, as a read gives them: zeros fill a gap
abbrev pub overwritten : ℕ → List ℕ → List ℕ → List ℕ
overwritten at bytes old = overlaid 0 at bytes old

-- After a write: the bytes stand at their place, and each other old byte stays.
pub record Written (at : ℕ) (bytes old new : List ℕ) : Type 0 where
  pub there : part at (length bytes) new ≡ bytes
  pub before : SameIn 0 (min at (length old)) old new
  pub after : SameIn (at + length bytes) (length old) old new
  pub size : length new ≡ max (length old) (at + length bytes)

-- After a write of n bytes that was cut short: any bytes in its range and past the old end, up to its own end.
pub record Torn (at n : ℕ) (old new : List ℕ) : Type 0 where
  pub before : SameIn 0 (min at (length old)) old new
  pub after : SameIn (at + n) (length old) old new
  pub no_shorter : length old ≤ length new
  pub no_longer : length new ≤ max (length old) (at + n)

-- a read into a buffer from this place on: it is filled as far as there are bytes
pub record AreBytesRead (at : ℕ) (bytes before after : List ℕ) (count : ℕ) : Type 0 where
  pub filled : count ≡ min (length before) (length bytes - at)
  pub front : take count after ≡ part at count bytes
  pub rest : drop count after ≡ drop count before

-- nothing changed
abbrev pub Same : List ℕ → List ℕ → Type 0
Same old new = new ≡ old
