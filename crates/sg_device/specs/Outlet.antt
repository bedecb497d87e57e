-- What an outlet has taken, and what its calls do to that.
use Rattle.std.specs.Prelude.{◌≡◌, ◌≤◌, ◌<◌, ℕ, ◌+◌, ◌-◌, ◌^◌, ◌==◌, min, if◌then◌else◌, List, [], ◌++◌, length, take, Option, Result, Ok, Err, IfSome}
use Rattle.std.specs.Option.{option_map}
use Rattle.sg_device.specs.Faults.{Rose}
use Rattle.sg_device.specs.declared.outlet.Reopened.{Reopened}
use Rattle.sg_device.specs.declared.outlet.Reopened.TheVariants.{Ready, Later}
use Rattle.sg_device.specs.declared.fault.SendRefusal.{SendRefusal}
use Rattle.sg_device.specs.declared.fault.SendRefusal.TheVariants.{Fault, Later as SendLater, NoMemory}
use Rattle.sg_device.specs.declared.fault.OutletFault.{OutletFault}
use Rattle.sg_device.specs.declared.taken.Taken.{Taken}

pub record OutletState : Type 0 where
  -- the frames taken since it was made, where the outlet tells them
  pub taken : Option (List (List ℕ))
  -- their number
  pub count : ℕ
  -- the sends and reopenings that failed
  pub faults : ℕ
  -- the sends and reopenings that failed since a frame was taken last
  pub failing : ℕ
  -- the sends and reopenings for which it was too early
  pub laters : ℕ

-- nothing was taken yet, and nothing failed
pub record IsUnusedOutlet (outlet : OutletState) : Type 0 where
  pub taken : IfSome outlet.taken (λ frames. frames ≡ [])
  pub count : outlet.count ≡ 0
  pub failing : outlet.failing ≡ 0

-- the first so many of the frames were taken
pub record TakesFirst (k : ℕ) (frames : List (List ℕ)) (old new : OutletState) : Type 0 where
  pub taken : new.taken ≡ option_map (λ before. before ++ take k frames) old.taken
  pub count : new.count ≡ old.count + k
  pub laters : new.laters ≡ old.laters
  pub faults : old.faults ≤ new.faults

-- the failures in a row, of which a frame that is taken makes an end
abbrev pub failing_after : ℕ → ℕ → ℕ
failing_after k failing = if k == 0 then failing else 0

-- one failure more
abbrev pub one_more : ℕ → ℕ
one_more failing = min (failing + 1) (2 ^ 64 - 1)

-- a refusal took some of the first frames
abbrev pub SendFails : OutletState → OutletState → List (List ℕ) → Type 0
SendFails old new frames = (k : ℕ) × (k < length frames) × TakesFirst k frames old new
    × (new.failing ≡ one_more (failing_after k old.failing))

abbrev pub SendStarves : OutletState → OutletState → List (List ℕ) → Type 0
SendStarves old new frames = (k : ℕ) × (k < length frames) × TakesFirst k frames old new
    × (new.failing ≡ failing_after k old.failing)

-- it was too early for the rest, which is no failure
abbrev pub SendWaits : OutletState → OutletState → List (List ℕ) → Type 0
SendWaits old new frames = (k : ℕ) × (k < length frames)
    × TakesFirst k frames (record old { laters = old.laters + 1 }) new
    × (new.faults ≡ old.faults) × (new.failing ≡ failing_after k old.failing)

-- the frames were taken, or some of the first
abbrev pub Sends : OutletState → OutletState → List (List ℕ) → Result Unit SendRefusal → Type 0
Sends old new frames (Ok done) = TakesFirst (length frames) frames old new × (new.failing ≡ 0)
Sends old new frames (Err Fault) = SendFails old new frames × Rose old.faults new.faults
Sends old new frames (Err SendLater) = SendWaits old new frames
Sends old new frames (Err NoMemory) = SendStarves old new frames

-- the number of frames that an outlet had taken when it was asked
abbrev pub count_of : {O : Type 0} → Taken O → ℕ
count_of taken = taken.count

-- a call failed that takes nothing
abbrev pub FailsOnce : OutletState → OutletState → Type 0
FailsOnce old new = TakesFirst 0 [] old new × (new.failing ≡ one_more old.failing)
    × Rose old.faults new.faults

-- what a refusal counts that took nothing
abbrev pub Refuses : OutletState → OutletState → SendRefusal → Type 0
Refuses old new Fault = FailsOnce old new
Refuses old new SendLater = new ≡ record old { laters = old.laters + 1 }
Refuses old new NoMemory = new ≡ old

-- the list of frames stays
abbrev pub Reopens : OutletState → OutletState → Result Reopened OutletFault → Type 0
Reopens old new (Ok Ready) = TakesFirst 0 [] old new × (new.failing ≡ old.failing)
Reopens old new (Ok Later) = new ≡ record old { laters = old.laters + 1 }
Reopens old new (Err e) = FailsOnce old new
