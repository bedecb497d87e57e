-- Which calls fail.
use Rattle.std.specs.Prelude.{◌≡◌, ℕ, ◌+◌, ◌-◌, ◌^◌, ◌==◌, min, Bool, List, []}
use Rattle.std.specs.List.{list_any}
use Rattle.sg_memory_disk.specs.declared.plan.FaultPlan.{FaultPlan}

-- the numbers of the calls that fail
abbrev pub failing : FaultPlan → List ℕ
failing plan = plan.fails.items

-- the next call is one of those that fail
abbrev pub fails_now : FaultPlan → Bool
fails_now plan = list_any (λ n. n == plan.calls) plan.fails.items

-- a call more was made
abbrev pub after_call : FaultPlan → FaultPlan
after_call plan = record plan { calls = min (plan.calls + 1) (2 ^ 64 - 1) }

-- no call fails
abbrev pub IsFaultless : FaultPlan → Type 0
IsFaultless plan = failing plan ≡ []
