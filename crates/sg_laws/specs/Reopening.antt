-- A core that is opened over what a crash left of another's stores.
use Rattle.std.specs.Prelude.{◌≡◌, ℕ, Some, List, slice_get}
use Rattle.sg_device.specs.Disk.{DiskState, content}
use Rattle.sg_machine.specs.declared.event.Event.{Event}
use Rattle.sg_machine.specs.declared.state.State.{State}
use Rattle.sg_machine.specs.Runs.{Opening}
use Rattle.sg_machine.specs.Safe.{Safe}
use Rattle.sg_stores.specs.declared.answers.CoreRefusal.TheVariants.{Damage}
use Rattle.sg_standing.specs.Images.{positions_in, AreListsIn}
use Rattle.sg_standing.specs.States.{CoreState, setup_of}
use Rattle.sg_core.specs.Opening.{IsOpen, IsUnopened}
use Rattle.sg_laws.specs.Failing.{IsUsed}

-- each disk tells its bytes, which are the image of its store
abbrev pub TellImages : List DiskState → List (List ℕ) → Type 0
TellImages disks images = (s : ℕ) (disk : DiskState) → slice_get disks s ≡ Some disk
    → (bytes : List ℕ) × (slice_get images s ≡ Some bytes) × (content disk ≡ Some bytes)

-- an opening has the positions and the lists that stand in these images of a core's stores
pub record OpensWithImages (core : CoreState) (images : List (List ℕ))
    (opening : Opening) : Type 0 where
  pub positions : opening.places ≡ positions_in core.sources images
  pub lists : AreListsIn core.sinks images opening.entries

-- A core opened over these disks with the same setup begins with what stands in the images, and none of its stores is damaged.
pub record OpensAgain (core : CoreState) (images : List (List ℕ))
    (disks : List DiskState) : Type 0 where
  pub begins : (again : CoreState) (opens : IsOpen (setup_of core) disks again)
      → OpensWithImages core images opens.opening
  pub whole : (news : List DiskState) (s at : ℕ) → IsUsed (setup_of core) s
      → IsUnopened (setup_of core) disks news (Damage s at) → ⊥

-- What it begins with is safe for these events and the one that was under way.
abbrev pub BeginsSafe : CoreState → List DiskState → State → List Event → Event → Type 0
BeginsSafe core disks start events event =
    (again : CoreState) (opens : IsOpen (setup_of core) disks again)
    → Safe start events event
    (record { positions = opens.opening.places; lists = opens.opening.entries })
