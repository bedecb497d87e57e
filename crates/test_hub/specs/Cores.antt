-- The core that is tried, and what it is asked.
use Rattle.std.specs.Prelude.{◌≡◌, ℕ, ◌<◌, ◌≤◌, Some, None, IsSome, List, [], ◌∷◌, length}
use Rattle.sg_machine.specs.declared.setup.SourceSetup.{SourceSetup}
use Rattle.sg_machine.specs.declared.setup.DestSetup.{DestSetup}
use Rattle.sg_machine.specs.declared.setup.Setup.{Setup}
use Rattle.sg_counter.specs.Bringing.{AllMayEnter, store_in}
use Rattle.sg_counter.specs.declared.calls.CoreCall.{CoreCall}
use Rattle.sg_counter.specs.declared.calls.CoreCall.TheVariants.{Credit, Admit, Front, Settle, Refill, Store}

-- two sources with stores of their own, a queue in memory and a disk-buffer
abbrev pub tried : ℕ → ℕ → ℕ → Setup
tried window fifo capacity = record {
  sources = record { window = window; store = Some 0 } ∷ record { window = window; store = Some 1 }
      ∷ [];
  dests = record { fifo = fifo; buffer = None }
      ∷ record { fifo = fifo; buffer = Some (record { store = 2; capacity = capacity }) } ∷ [];
}

-- a setup of that kind
pub record IsTriedSetup (setup : Setup) : Type 0 where
  pub sources : length setup.sources ≡ 2
  pub dests : length setup.dests ≡ 2
  pub stores : (i : ℕ) → i < 2 → IsSome (store_in setup.sources i)

-- a call that such a core may be asked for
abbrev pub MayAsk : CoreCall → Type 0
MayAsk (Credit i) = i < 2
MayAsk (Admit i records) = (i < 2) × (0 < length records) × (length records ≤ 1000)
    × AllMayEnter 2 records
MayAsk (Front d most) = (d < 2) × (0 < most) × (most ≤ 1000)
MayAsk (Settle d place n count) = (d < 2) × (0 < n)
MayAsk (Refill d) = d < 2
MayAsk (Store i) = i < 2
