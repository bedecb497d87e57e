-- What may be brought to a core.
use Rattle.std.specs.Prelude.{◌≤◌, ◌<◌, ℕ, ◌^◌, Option, option_and_then, List, [], ◌∷◌, length, slice_get, Bool, true, false}
use Rattle.sg_machine.specs.declared.event.Admission.{Admission}
use Rattle.sg_machine.specs.declared.setup.SourceSetup.{SourceSetup}
use Rattle.sg_machine.specs.declared.setup.Setup.{Setup}
use Rattle.sg_counter.specs.declared.answers.Refused.{Refused}
use Rattle.sg_counter.specs.declared.answers.Refused.TheVariants.{NoCredit, NoMemory}
use Rattle.sg_msg.specs.Offers.{AllWithin}

-- an end below 2^63, and at most 1024 offers, each to a destination that is there
pub record MayEnter (count : ℕ) (r : Admission) : Type 0 where
  pub end : r.end < 2 ^ 63
  pub few : length r.offers ≤ 1024
  pub dests : AllWithin count r.offers

abbrev pub AllMayEnter : ℕ → List Admission → Type 0
AllMayEnter count [] = Unit {0}
AllMayEnter count (r ∷ rs) = MayEnter count r × AllMayEnter count rs

-- 1 to 1000 records, each of which may enter
pub record IsBatch (setup : Setup) (records : List Admission) : Type 0 where
  pub some : 0 < length records
  pub few : length records ≤ 1000
  pub each : AllMayEnter (length setup.dests) records

-- the number of a source's store
abbrev pub store_in : List SourceSetup → ℕ → Option ℕ
store_in setups i = option_and_then (λ setup. setup.store) (slice_get setups i)

-- the records come back
abbrev pub records_back : Refused → List Admission
records_back (NoCredit records) = records
records_back (NoMemory records) = records

abbrev pub is_credit_refusal : Refused → Bool
is_credit_refusal (NoCredit records) = true
is_credit_refusal (NoMemory records) = false
