-- What the parts of a destination keep of each other.
use Rattle.std.specs.Prelude.{◌≡◌, ◌≤◌, ◌<◌, ℕ, ◌+◌, ◌^◌, List, length}
use Rattle.sg_queue.specs.Waiting.{Waiting}
use Rattle.sg_sinks.specs.Fitting.{space}

-- how many items a ring holds, and for how many it has memory
pub record Ring : Type 0 where
  pub len : ℕ
  pub capacity : ℕ

-- there is memory for so many offers more, and for each entry that waits to go to the disk; and all that it was given, which it has
-- taken, holds or has dropped, stays below 2^64 with them
pub record IsRoomy (taken dropped : ℕ) (lengths : List ℕ) (behind : Ring) (used : ℕ)
    (queue : Waiting) (beside : Ring) (room : ℕ) : Type 0 where
  pub bytes : used ≡ space lengths
  pub count : taken + length lengths + length queue.entries + dropped + room < 2 ^ 64
  pub spare : room ≤ queue.spare
  pub blocks : beside.len + room ≤ beside.capacity
  pub slots : behind.len + (length queue.entries + room) ≤ behind.capacity
