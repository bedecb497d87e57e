-- The flow core as what lies in a booth. Which calls it may be asked for is said of its setup, which no call changes.
use Rattle.std.specs.Prelude.{◌-◌, ◌^◌, ◌<◌, ◌≤◌, ℕ, IsSome, length}
use Rattle.sg_machine.specs.declared.setup.Setup.{Setup}
use Rattle.sg_counter.specs.Bringing.{IsBatch, store_in}
use Rattle.sg_counter.specs.declared.calls.CoreCall.{CoreCall}
use Rattle.sg_counter.specs.declared.calls.CoreCall.TheVariants.{Credit, Admit, Front, Settle, Refill, Store}
use Rattle.sg_standing.specs.States.{CoreState, setup_of}

abbrev pub MayCall : Setup → CoreCall → Type 0
MayCall setup (Credit i) = i < length setup.sources
MayCall setup (Admit i records) = (i < length setup.sources) × IsBatch setup records
MayCall setup (Front d most) = (d < length setup.dests) × (0 < most) × (most ≤ 1000)
MayCall setup (Settle d place n count) = (d < length setup.dests) × (0 < n)
MayCall setup (Refill d) = d < length setup.dests
MayCall setup (Store i) = (i < length setup.sources) × IsSome (store_in setup.sources i)

abbrev pub MayServe : CoreState → CoreCall → Type 0
MayServe core call = MayCall (setup_of core) call

-- how many calls are left
abbrev pub room_of : CoreState → ℕ
room_of core = 2 ^ 54 - 1 - core.calls
