-- Memory for the offers of a batch.
use Rattle.std.specs.Prelude.{◌≡◌, ◌≤◌, ◌<◌, ℕ, ◌+◌, ◌==◌, if◌then◌else◌, Some, List, [], ◌∷◌, map, length, slice_get, vec_capacity}
use Rattle.sg_machine.specs.declared.event.Admission.{Admission}
use Rattle.sg_machine.specs.Verdicts.{Claim, claims_of}
use Rattle.sg_sinks.specs.States.{SinkState, Sunk}
use Rattle.sg_offers.specs.declared.batch.Payload.{Payload}
use Rattle.sg_offers.specs.declared.batch.BatchVerdicts.{BatchVerdicts}

-- what is seen of destinations
abbrev pub seen_in : List Sunk → List SinkState
seen_in sinks = map (λ sink. sink.seen) sinks

-- how many of these offers go to d
abbrev pub given_to : ℕ → List Claim → ℕ
given_to d [] = 0
given_to d (c ∷ cs) = (if c.offer.dest == d then 1 else 0) + given_to d cs

abbrev pub counted_to : ℕ → List Payload → ℕ
counted_to d [] = 0
counted_to d (p ∷ ps) = (if p.dest == d then 1 else 0) + counted_to d ps

-- each is to one of so many destinations
abbrev pub AreTo : ℕ → List Payload → Type 0
AreTo count [] = Unit {0}
AreTo count (p ∷ ps) = (p.dest < count) × AreTo count ps

-- each destination has room for those that go there
abbrev pub HaveRoom : List Sunk → List Claim → Type 0
HaveRoom sinks claims = (d : ℕ) (sink : Sunk) → slice_get sinks d ≡ Some sink
    → given_to d claims ≤ sink.room

-- there is no answer yet, and room for that of each record and of each offer
pub record IsBatchReady (records : List Admission) (sinks : List Sunk)
    (answers : BatchVerdicts) : Type 0 where
  pub room : HaveRoom sinks (claims_of records)
  pub no_verdict : answers.verdicts.items ≡ []
  pub none_begun : answers.begun.items ≡ []
  pub verdicts : length (claims_of records) ≤ vec_capacity answers.verdicts
  pub begun : length records ≤ vec_capacity answers.begun
