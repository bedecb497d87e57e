-- What a batch at the core's destinations says of the machine's.
use Rattle.std.specs.Prelude.{◌≡◌, ◌≢◌, ◌<◌, ◌≤◌, ℕ, Bool, true, Some, List, ◌++◌, slice_get}
use Rattle.sg_machine.specs.declared.event.Admission.{Admission}
use Rattle.sg_machine.specs.declared.event.Verdict.{Verdict}
use Rattle.sg_machine.specs.declared.setup.BufferSetup.{BufferSetup}
use Rattle.sg_machine.specs.declared.state.Dest.{Dest}
use Rattle.sg_machine.specs.Verdicts.{Claim, claims_of, is_listed, judged, take_claims}
use Rattle.sg_machine.specs.Effects.{ends_of}
use Rattle.sg_machine.specs.Running.{owed, records_from}
use Rattle.sg_machine.specs.Safe.{would_spool}
use Rattle.sg_sinks.specs.Fitting.{space}
use Rattle.sg_sinks.specs.Standing.{lengths_of}
use Rattle.sg_offers.specs.Payloads.{payloads_of, taken_at, FitAll}
use Rattle.sg_offers.specs.Answering.{fails_at, sinks_after, verdicts_from, failing_in, begun_of}
use Rattle.sg_offers.specs.Batches.{sinks_at, buffer_in, AreSplit}

-- The verdicts are right where just the stores that are said to fail do so, and what is kept is that of the machine's
-- destinations. The stores that fail are those of the destinations for which it was said.
pub record Judged (fails : List Bool) (i next : ℕ) (dests : List Dest) (failed : List ℕ)
    (claims : List Claim) (vs : List Verdict) (newly : List ℕ) : Type 0 where
  pub right : judged i next newly dests failed claims vs ≡ Some (failed ++ newly)
  pub seen : sinks_at (failed ++ newly) (take_claims i next dests claims vs)
      ≡ sinks_after fails i next (sinks_at failed dests) claims
  pub split : AreSplit (take_claims i next dests claims vs)
  pub listed : (d : ℕ) (dest : Dest) (buffer : BufferSetup) → slice_get dests d ≡ Some dest
      → dest.setup.buffer ≡ Some buffer → is_listed buffer.store newly ≡ fails_at fails d
  pub only : (s : ℕ) → is_listed s newly ≡ true
      → (d : ℕ) × (buffer_in dests d ≡ Some s) × (fails_at fails d ≡ true)

-- of all offers of a batch
abbrev pub JudgedAll : List Bool → ℕ → ℕ → List Dest → List ℕ → List Claim → Type 0
JudgedAll fails i next dests failed claims =
    let sinks = sinks_at failed dests in
    Judged fails i next dests failed claims (verdicts_from fails i next sinks claims)
    (failing_in fails i next sinks claims)

-- what the disk-buffer of d takes is what the machine would spool there, and it fits
pub record Tried (i next : ℕ) (dests : List Dest) (failed : List ℕ) (claims : List Claim) (d : ℕ)
    (dest : Dest) (buffer : BufferSetup) : Type 0 where
  pub taken : taken_at d i claims (payloads_of i (sinks_at failed dests) claims)
      ≡ would_spool d i next buffer dest claims
  pub fits : FitAll buffer.capacity (space (lengths_of dest.left))
      (would_spool d i next buffer dest claims)

-- what records need, once those of the batch are in, the first of which has the number `next`
pub record BegunRecords (i next : ℕ) (dests : List Dest) (records : List Admission)
    (vs : List Verdict) : Type 0 where
  pub others : (j n : ℕ) → j ≢ i
      → owed (take_claims i next dests (claims_of records) vs) j n ≡ owed dests j n
  pub before : (n : ℕ) → n < next
      → owed (take_claims i next dests (claims_of records) vs) i n ≡ owed dests i n
  pub begun : ((n : ℕ) → next ≤ n → owed dests i n ≡ 0)
      → records_from (take_claims i next dests (claims_of records) vs) i next (ends_of records)
      ≡ begun_of records vs
