-- Which calls of a disk in memory fail.
use Rattle.std.specs.Prelude.{◌≡◌, ◌⊎◌, ◌≤◌, ℕ, ◌+◌, ◌-◌, ◌^◌, ◌==◌, ◌||◌, min, Bool, true, false, if◌then◌else◌, List, [], ◌∷◌, Option, Some, None, Result, Ok, Err}
use Rattle.sg_device.specs.declared.fault.DiskFault.{DiskFault}
use Rattle.sg_memory_disk.specs.Plan.{fails_now, after_call, IsFaultless}
use Rattle.sg_memory_disk.specs.declared.disk_plan.DiskPlan.{DiskPlan}
use Rattle.sg_memory_disk.specs.declared.disk_calls.DiskCalls.{DiskCalls}

-- no calls are left to pass
abbrev pub is_spent : Option ℕ → Bool
is_spent None = false
is_spent (Some left) = left == 0

abbrev pub one_less : Option ℕ → Option ℕ
one_less None = None
one_less (Some left) = Some (left - 1)

-- the next call fails
abbrev pub refuses : DiskPlan → Bool
refuses plan = fails_now plan.fails || is_spent plan.left

-- a call more was made
abbrev pub counted : DiskPlan → DiskPlan
counted plan = record plan { fails = after_call plan.fails; left = one_less plan.left }

-- no call fails
abbrev pub IsDiskQuiet : DiskPlan → Type 0
IsDiskQuiet plan = IsFaultless plan.fails × (plan.left ≡ None)

abbrev pub AreDisksQuiet : List DiskPlan → Type 0
AreDisksQuiet [] = Unit {0}
AreDisksQuiet (plan ∷ plans) = IsDiskQuiet plan × AreDisksQuiet plans

-- the plan of the disk that is opened next
abbrev pub first_plan : List DiskPlan → DiskPlan → Type 0
first_plan [] plan = IsDiskQuiet plan
first_plan (first ∷ plans) plan = plan ≡ first

-- one fault more
abbrev pub with_fault : DiskCalls → DiskCalls
with_fault calls = record calls { faults = min (calls.faults + 1) (2 ^ 64 - 1) }

-- one fault more, by lack of memory
abbrev pub with_starved : DiskCalls → DiskCalls
with_starved calls = record (with_fault calls) { starved = true }

-- a call more, with its fault where it fails
abbrev pub after_next : DiskCalls → DiskCalls
after_next calls = if refuses calls.plan
    then with_fault (record calls { plan = counted calls.plan })
    else record calls { plan = counted calls.plan }

-- a call that takes no memory fails exactly where the plan says so
abbrev pub FailsAsPlanned : {T : Type 0} → DiskCalls → DiskCalls → Result T DiskFault → Type 0
FailsAsPlanned old new (Ok value) = (refuses old.plan ≡ false) × (new ≡ after_next old)
FailsAsPlanned old new (Err e) = (refuses old.plan ≡ true) × (new ≡ after_next old)

-- A call fails where the plan says so, where a write would end too far, and else where memory ran out.
abbrev pub CallFails : DiskCalls → DiskCalls → ℕ → Result Unit DiskFault → Type 0
CallFails old new end (Ok done) = (refuses old.plan ≡ false) × (new ≡ after_next old)
CallFails old new end (Err e) = ((refuses old.plan ≡ true) × (new ≡ after_next old))
    ⊎ (((refuses old.plan ≡ false) × (2 ^ 63 ≤ end) × (new ≡ with_fault (after_next old)))
    ⊎ (new ≡ with_starved (after_next old)))
