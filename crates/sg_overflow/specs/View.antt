-- What contracts see of an outlet that holds frames back.
use Rattle.std.specs.Prelude.{◌≡◌, ◌≤◌, ℕ, ◌+◌, ◌-◌, ◌^◌, List, [], ◌++◌, length, take, drop, Option, Some, None, IfSome, Bool, true, false, if◌then◌else◌}
use Rattle.std.specs.Option.{option_map}
use Rattle.sg_device.specs.Disk.{DiskState, WhereTold, content}
use Rattle.sg_device.specs.Outlet.{OutletState}
use Rattle.sg_spool.specs.Ring.{Entries}
use Rattle.sg_spool.specs.View.{View as Store, RingHolds}
use Rattle.sg_overflow.specs.Listing.{entries_in}
use Rattle.sg_overflow.specs.Memory.{size_of}
use Rattle.sg_overflow.specs.Payload.{frames_in, AreTagged}
use Rattle.sg_overflow.specs.declared.answers.Limits.{Limits}
use Rattle.sg_overflow.specs.declared.tally.OutletTally.{OutletTally}

-- The store, the frames in memory, how much is held at most; the number of the held frames that are in the store, and whether those are
-- the last of its list, where a fault closed it.
pub record Held (D : Type 0) : Type 0 where
  pub store : Store D
  pub memory : List (List ℕ)
  pub limits : Limits
  pub stored : ℕ
  pub behind : Bool

-- the outlet inside, what is held, whether the last call of the outlet inside failed, and the counts
pub record OverflowView (O D : Type 0) : Type 0 where
  pub inner : O
  pub held : Held D
  pub reopens : Bool
  pub tally : OutletTally

-- the last so many of a list
abbrev pub last : {A : Type 0} → ℕ → List A → List A
last n xs = drop (length xs - n) xs

-- Of the store's list, the frames that are held: all of them, while no fault closed it. One that was closed while entries were taken
-- off may have those still, in front; one that was closed while entries were added may have those already, behind.
abbrev pub standing : ℕ → Bool → List ℕ → List (List ℕ)
standing n behind bytes = frames_in
    (if behind then last n (entries_in bytes) else take n (entries_in bytes))

-- a value of two, where both are told
abbrev pub both : {A B C : Type 0} → (A → B → C) → Option A → Option B → Option C
both f (Some a) b = option_map (f a) b
both f None b = None

-- the frames that are held, the oldest first, where the disk tells its bytes
abbrev pub held_of : {D : Type 0} → (D → DiskState) → Held D → Option (List (List ℕ))
held_of disk held = option_map (λ bytes. standing held.stored held.behind bytes ++ held.memory)
    (content (disk held.store.disk))

-- the frames that were forwarded since the opening, and behind them those that are held
abbrev pub line_of : {O D : Type 0} → (O → OutletState) → (D → DiskState) → OverflowView O D
    → Option (List (List ℕ))
line_of outlet disk view = both (λ forwarded held. forwarded ++ held) (outlet view.inner).taken
    (held_of disk view.held)

-- the frames that the store held at the opening
abbrev pub loaded_of : {O D : Type 0} → (O → OutletState) → (D → DiskState) → OverflowView O D
    → Option (List (List ℕ))
loaded_of outlet disk view = option_map (take view.tally.loaded) (line_of outlet disk view)

-- the frames taken since
abbrev pub taken_of : {O D : Type 0} → (O → OutletState) → (D → DiskState) → OverflowView O D
    → Option (List (List ℕ))
taken_of outlet disk view = option_map (drop view.tally.loaded) (line_of outlet disk view)

-- as an outlet: the counts are those of its own sends and reopenings
abbrev pub outlet_of : {O D : Type 0} → (O → OutletState) → (D → DiskState) → OverflowView O D
    → OutletState
outlet_of outlet disk view = record {
  taken = taken_of outlet disk view;
  count = view.tally.count;
  faults = view.tally.faults;
  failing = view.tally.failing;
  laters = view.tally.laters;
}

-- the store's list is that of the held frames which are in it
pub record IsStored {D : Type 0} (disk : D → DiskState) (store : Store D)
    (stored : ℕ) : Type 0 where
  pub list : Entries
  pub holds : RingHolds disk store list []
  pub tagged : AreTagged list
  pub number : stored ≡ length list

pub record IsHeldSound {D : Type 0} (disk : D → DiskState) (failed : Bool)
    (held : Held D) : Type 0 where
  pub closed : held.store.closed ≡ failed
  pub unstaged : held.store.rows.staged ≡ 0
  pub counted : failed ≡ false → held.store.rows.count ≡ held.stored
  pub front : failed ≡ false → held.behind ≡ false
  pub stored : failed ≡ false
      → WhereTold (content (disk held.store.disk)) (λ bytes. IsStored disk held.store held.stored)
  pub enough : WhereTold (content (disk held.store.disk))
      (λ bytes. held.stored ≤ length (entries_in bytes))
  pub blamed : failed ≡ true → 1 ≤ (disk held.store.disk).faults
  pub limit : held.store.capacity ≡ held.limits.capacity
  pub small : held.limits.capacity ≤ 2 ^ 30
  pub fits : size_of held.memory ≤ held.limits.capacity

-- the number of frames
abbrev pub held_count : {D : Type 0} → Held D → ℕ
held_count held = held.stored + length held.memory

-- The number is that of the frames, where those are told; and where the store has failed, it has counted a fault.
pub record IsHeldTold {D : Type 0} (disk : D → DiskState) (held : Held D) : Type 0 where
  pub count : IfSome (held_of disk held) (λ frames. length frames ≡ held_count held)
  pub blamed : held.store.closed ≡ true → 1 ≤ (disk held.store.disk).faults

-- in memory there are no more frames than it takes
abbrev pub IsWithinMemory : {D : Type 0} → Held D → Type 0
IsWithinMemory held = length held.memory ≤ held.limits.memory

-- the list at the opening is a part of the line
pub record IsOverflowSound {O D : Type 0} (outlet : O → OutletState) (disk : D → DiskState)
    (view : OverflowView O D) : Type 0 where
  pub loaded : IfSome (line_of outlet disk view) (λ line. view.tally.loaded ≤ length line)
  pub memory : IsWithinMemory view.held
