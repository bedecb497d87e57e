-- What is staged behind a list.
use Rattle.std.specs.Prelude.{◌≢◌, ℕ, ◌+◌, ◌-◌, List, [], ◌∷◌, ◌++◌, drop, slice_index, Option, Bool, true, false}
use Rattle.sg_device.specs.DiskBytes.{Torn, Written}
use Rattle.sg_stable.specs.declared.cell.Pair.{Pair}
use Rattle.sg_spool.specs.Ring.{Entries}
use Rattle.sg_spool.specs.Steps.{RingAt}
use Rattle.sg_spool.specs.declared.places.Places.{Places}

-- Once the gate at the list's end is open, whatever opened it, the bytes are the ring with these payloads behind the list.
abbrev pub OpensTo : Pair → ℕ → Option ℕ → ℕ → ℕ → Entries → Entries → List ℕ → Type 0
OpensTo cell end longer first last list [] bytes = Unit {0}
OpensTo cell end longer first last list (payload ∷ payloads) bytes =
    (new : List ℕ) → Torn end 1 bytes new → slice_index new end ≢ 0
    → RingAt cell longer first last (list ++ payload ∷ payloads) new

-- the bytes are the ring of the list, with these payloads staged behind it
pub record StagedAt (cell : Pair) (jump : Option ℕ) (head end : ℕ) (longer : Option ℕ)
    (first last : ℕ) (list staged : Entries) (bytes : List ℕ) : Type 0 where
  pub ring : RingAt cell jump head end list bytes
  pub opens : OpensTo cell end longer first last list staged bytes

abbrev pub IsStaged : Pair → Places → Places → Entries → Entries → List ℕ → Type 0
IsStaged cell list ahead entries staged bytes = StagedAt cell list.jump list.head list.end
    ahead.jump ahead.head ahead.end entries staged bytes

-- bytes are written from a gate on, but the gate at the list's end isn't
abbrev pub Lays : Bool → ℕ → List ℕ → List ℕ → List ℕ → Type 0
Lays true gate bytes old new = Written (gate + 1) (drop 1 bytes) old new
Lays false gate bytes old new = Written gate bytes old new

-- so many of them, and the write was cut short
abbrev pub LaysTorn : Bool → ℕ → ℕ → List ℕ → List ℕ → Type 0
LaysTorn true gate n old new = Torn (gate + 1) (n - 1) old new
LaysTorn false gate n old new = Torn gate n old new
