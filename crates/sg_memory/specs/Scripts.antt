-- What the calls of an outlet or an opener come to by its script.
use Rattle.std.specs.Prelude.{◌≡◌, ◌-◌, ◌^◌, ◌==◌, ◌||◌, ◌&&◌, ◌<◌, ℕ, Bool, true, false, Result, Ok, Err}
use Rattle.sg_device.specs.declared.fault.OutletFault.{OutletFault}
use Rattle.sg_device.specs.declared.fault.SendRefusal.{SendRefusal}
use Rattle.sg_device.specs.declared.fault.SendRefusal.TheVariants.{Fault, Later as SendLater, NoMemory}
use Rattle.sg_device.specs.declared.outlet.Reopened.{Reopened}
use Rattle.sg_device.specs.declared.outlet.Reopened.TheVariants.{Ready, Later}
use Rattle.sg_memory_disk.specs.Plan.{fails_now}
use Rattle.sg_memory.specs.declared.plans.OutletScript.{OutletScript}

-- a call fails where the script says so, or where it is too early and the count of such calls stands at its end
abbrev pub fails_or : Bool → Bool → ℕ → Bool
fails_or fails early laters = fails || (early && (laters == 2 ^ 64 - 1))

-- a send fails, or is too early, exactly where the script says so
abbrev pub SendsByScript : OutletScript → ℕ → Result Unit SendRefusal → Type 0
SendsByScript script laters (Ok done) = (fails_now script.fails ≡ false)
    × (fails_now script.waits ≡ false)
SendsByScript script laters (Err Fault) =
    fails_or (fails_now script.fails) (fails_now script.waits) laters
    ≡ true
SendsByScript script laters (Err SendLater) = (fails_now script.fails ≡ false)
    × (fails_now script.waits ≡ true)
SendsByScript script laters (Err NoMemory) = (fails_now script.fails ≡ false)
    × (fails_now script.waits ≡ false)

-- what a send comes to where memory doesn't run out
abbrev pub SendStands : OutletScript → ℕ → Result Reopened OutletFault → Type 0
SendStands script laters (Ok Ready) = (fails_now script.fails ≡ false)
    × (fails_now script.waits ≡ false)
SendStands script laters (Ok Later) = (fails_now script.fails ≡ false)
    × (fails_now script.waits ≡ true) × (laters < 2 ^ 64 - 1)
SendStands script laters (Err e) = fails_or (fails_now script.fails) (fails_now script.waits) laters
    ≡ true

-- a reopening
abbrev pub ReopensBy : OutletScript → ℕ → Result Reopened OutletFault → Type 0
ReopensBy script laters (Ok Ready) = (fails_now script.fails ≡ false)
    × (fails_now script.laters ≡ false)
ReopensBy script laters (Ok Later) = (fails_now script.fails ≡ false)
    × (fails_now script.laters ≡ true)
ReopensBy script laters (Err e) = fails_or (fails_now script.fails) (fails_now script.laters) laters
    ≡ true

-- an opening of an opener
abbrev pub OpensBy : OutletScript → ℕ → Result Unit SendRefusal → Type 0
OpensBy script laters (Ok done) = (fails_now script.fails ≡ false)
    × (fails_now script.laters ≡ false)
OpensBy script laters (Err Fault) =
    fails_or (fails_now script.fails) (fails_now script.laters) laters
    ≡ true
OpensBy script laters (Err SendLater) = (fails_now script.fails ≡ false)
    × (fails_now script.laters ≡ true)
OpensBy script laters (Err NoMemory) = (fails_now script.fails ≡ false)
    × (fails_now script.laters ≡ false)
