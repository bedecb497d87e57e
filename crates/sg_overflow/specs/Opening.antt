-- What an opening finds.
use Rattle.std.specs.Prelude.{◌≡◌, ◌⊎◌, ◌≤◌, ℕ, ◌-◌, ◌^◌, List, [], ◌∷◌, ◌++◌, length, Option, Some, false}
use Rattle.sg_device.specs.Disk.{DiskState, WhereTold, content}
use Rattle.sg_device.specs.Faults.{Rose}
use Rattle.sg_device.specs.Outlet.{OutletState, IsUnusedOutlet}
use Rattle.sg_spool.specs.Opening.{IsRingDamagedAt}
use Rattle.sg_spool.specs.Ring.{Entries, IsLaid, IsList}
use Rattle.sg_spool.specs.Places.{Remains}
use Rattle.sg_spool.specs.View.{View as Store, RingHolds}
use Rattle.sg_stable.specs.declared.fault.StoreRefusal.{StoreRefusal}
use Rattle.sg_stable.specs.declared.fault.StoreRefusal.TheVariants.{Damage, DiskFault, NoMemory}
use Rattle.sg_overflow.specs.Payload.{is_tagged, AreTagged}
use Rattle.sg_overflow.specs.View.{OverflowView, Held, outlet_of, held_of}
use Rattle.sg_overflow.specs.declared.answers.Limits.{Limits}
use Rattle.sg_overflow.specs.Line.{AreStored}

-- the bytes are the list of a store that is open
abbrev pub IsLoaded : {D : Type 0} → (D → DiskState) → Store D → List ℕ → Type 0
IsLoaded disk store bytes = (list : Entries) × IsList list bytes × RingHolds disk store list []
    × (store.rows.count ≡ length list)

-- the frames that are held are those of the store's list, and none is in memory
pub record IsHeldOpened {D : Type 0} (disk : D → DiskState) (before : D) (given : Limits)
    (held : Held D) : Type 0 where
  pub limits : held.limits ≡ given
  pub memory : held.memory ≡ []
  pub works : held.store.closed ≡ false
  pub list : WhereTold (content (disk before))
      (λ bytes. (frames : List (List ℕ)) × AreStored frames bytes × (held_of disk held ≡ Some frames))
  pub well : (disk held.store.disk).faults ≡ (disk before).faults
  pub few : held.stored ≤ 2 ^ 64 - 1

-- the frames are those of the store's list, none is in memory, and none was taken yet
pub record IsOpened {O D : Type 0} (outlet : O → OutletState) (disk : D → DiskState) (before : D)
    (view : OverflowView O D) : Type 0 where
  pub fresh : IsUnusedOutlet (outlet_of outlet disk view)
  pub memory : view.held.memory ≡ []
  pub works : view.held.store.closed ≡ false
  pub list : WhereTold (content (disk before))
      (λ bytes. (frames : List (List ℕ)) × AreStored frames bytes
      × (held_of disk view.held ≡ Some frames))
  pub well : (disk view.held.store.disk).faults ≡ (disk before).faults

-- at this gate stands the first payload that isn't a frame's
pub record IsUntagged (at : ℕ) (bytes : List ℕ) : Type 0 where
  pub jump : Option ℕ
  pub head : ℕ
  pub end : ℕ
  pub before : Entries
  pub payload : List ℕ
  pub rest : Entries
  pub laid : IsLaid jump head end (before ++ payload ∷ rest) bytes
  pub remains : Remains bytes jump at (payload ∷ rest) end
  pub others : AreTagged before
  pub bad : is_tagged payload ≡ false

-- damage where the bytes are no list, or the payload at that gate is no frame's; a fault where the count of faults rose
abbrev pub HasReason : DiskState → DiskState → StoreRefusal → Type 0
HasReason old new (Damage at) = WhereTold (content old)
    (λ bytes. IsRingDamagedAt at bytes ⊎ IsUntagged at bytes)
HasReason old new DiskFault = Rose old.faults new.faults
HasReason old new NoMemory = Unit {0}

-- each payload is that of a frame, where the disk tells its bytes
abbrev pub AreFrames : DiskState → Type 0
AreFrames disk = WhereTold (content disk)
    (λ bytes. (list : Entries) → IsList list bytes → AreTagged list)

-- the same of a look at the payloads of a list
abbrev pub CheckReason : DiskState → DiskState → StoreRefusal → Type 0
CheckReason old new (Damage at) = WhereTold (content old) (IsUntagged at)
CheckReason old new DiskFault = Rose old.faults new.faults
CheckReason old new NoMemory = Unit {0}
