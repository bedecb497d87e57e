-- Which stores have failed, and which replies tell it.
use Rattle.std.specs.Prelude.{◌≡◌, ℕ, Bool, true, false, Option, Some, None, Ok, Err, List, slice_get}
use Rattle.sg_device.specs.Disk.{DiskState}
use Rattle.sg_counter.specs.declared.answers.Refill.{Refill}
use Rattle.sg_counter.specs.declared.answers.Refill.TheVariants.{Moved, NoneWaits, NoRoom, Broken as RefillBroken}
use Rattle.sg_counter.specs.declared.answers.Settled.{Settled}
use Rattle.sg_counter.specs.declared.answers.Settled.TheVariants.{Done, NotFront, DiskFailed}
use Rattle.sg_counter.specs.declared.answers.Stored.{Stored}
use Rattle.sg_counter.specs.declared.answers.Stored.TheVariants.{Wrote, Unchanged, Broken}
use Rattle.sg_counter.specs.declared.calls.CoreCall.{CoreCall}
use Rattle.sg_counter.specs.declared.calls.CoreCall.TheVariants.{Credit, Admit, Front, Settle, Refill as RefillCall, Store}
use Rattle.sg_counter.specs.declared.calls.CoreReply.{CoreReply}
use Rattle.sg_counter.specs.declared.calls.CoreReply.TheVariants.{Credit as CreditReply, Admitted, Front as FrontReply, Settled as SettledReply, Refilled, Stored as StoredReply}
use Rattle.sg_stores.specs.Opening.{FailsByFaults}
use Rattle.sg_stores.specs.Stores.{StoreState}
use Rattle.sg_standing.specs.Sources.{store_at}
use Rattle.sg_standing.specs.States.{CoreState, setup_of}
use Rattle.sg_core.specs.Answers.{is_front_broken}
use Rattle.sg_core.specs.Opening.{buffer_store_in}

-- this says of the store of that number whether a call on its disk has answered a fault since that was as it is here
abbrev pub FailsAt : List DiskState → List StoreState → ℕ → Bool → Type 0
FailsAt disks stores s failed = (disk : DiskState) (store : StoreState)
    → slice_get disks s ≡ Some disk → slice_get stores s ≡ Some store
    → FailsByFaults failed disk store.disk

-- Replies.

-- the store that a call is about: that of the destination's disk-buffer, or of the source's position
abbrev pub store_asked : CoreState → CoreCall → Option ℕ
store_asked core (Credit i) = None
store_asked core (Admit i records) = None
store_asked core (Front d most) = buffer_store_in (setup_of core).dests d
store_asked core (Settle d place n count) = buffer_store_in (setup_of core).dests d
store_asked core (RefillCall d) = buffer_store_in (setup_of core).dests d
store_asked core (Store i) = store_at core.sources i

abbrev pub is_refill_broken : Refill → Bool
is_refill_broken (Moved n) = false
is_refill_broken NoneWaits = false
is_refill_broken NoRoom = false
is_refill_broken RefillBroken = true

-- where nothing is settled or written the store isn't looked at
abbrev pub told_settled : Settled → Option Bool
told_settled Done = Some false
told_settled NotFront = None
told_settled DiskFailed = Some true

abbrev pub told_stored : Stored → Option Bool
told_stored (Wrote w) = Some false
told_stored Unchanged = None
told_stored Broken = Some true

-- what a reply tells of that store: that it has failed, that it works, or nothing
abbrev pub told_by : CoreReply → Option Bool
told_by (CreditReply credit) = None
told_by (Admitted result) = None
told_by (FrontReply (Ok front)) = Some (is_front_broken front)
told_by (FrontReply (Err e)) = None
told_by (SettledReply result) = told_settled result
told_by (Refilled result) = Some (is_refill_broken result)
told_by (StoredReply result) = told_stored result

-- what it tells is so: the store has failed exactly where a call on its disk has answered a fault
abbrev pub TellsFaults : List DiskState → CoreState → CoreCall → CoreReply → CoreState → Type 0
TellsFaults disks old call reply new = (s : ℕ) (failed : Bool) → store_asked old call ≡ Some s
    → told_by reply ≡ Some failed → FailsAt disks new.stores s failed
