-- A settle, from what its parts did.
use Rattle.std.proofs.Common.{◌≡◌, ℕ, ◌+◌, ◌-◌, ◌<◌, length, take, Some, None, Bool, true, false, refl, ap, ◌∙◌, slice_get, min}
use Rattle.sg_machine.specs.declared.event.Act.TheVariants.{Settle}
use Rattle.sg_sinks.specs.Fitting.{space}
use Rattle.sg_sinks.specs.States.{SinkState}
use Rattle.sg_standing.specs.Sources.{acks_all}
use Rattle.sg_standing.specs.States.{CoreState}
use Rattle.sg_standing.specs.Standing.{DoesAct}
use Rattle.sg_core.specs.Answers.{can_settle, can_settle_at, broken_at, buffer_at}
use Rattle.sg_core.specs.Parts.{settling_at, lengths_at}
use Rattle.sg_core.specs.Steps.{TakesOff}
use Rattle.sg_core.specs.Whole.{IsWholeCore}
use Rattle.sg_core.proofs.SettleCalls.{settle-does, settled_sinks}
use Rattle.sg_core.proofs.SettleParts.{can-at, can-left, settling-is, lengths-is, worked, never-fails, broken-first, broken-then}

-- what its parts did
pub record SettleTurn (old new : CoreState) (d place n : ℕ) (works : Bool) : Type 0 where
  pub sink : SinkState
  pub k : ℕ
  pub size : ℕ
  pub there : slice_get old.sinks d ≡ Some sink
  pub some : 0 < n
  pub can : can_settle sink place n ≡ true
  pub least : k ≡ min (length sink.lengths) n
  pub sized : size ≡ space (take n (lengths_at old.sinks d))
  pub sources : new.sources ≡ acks_all old.sources (settling_at old.sinks d n)
  pub calls : new.calls ≡ old.calls + 1
  pub taken : TakesOff old.stores new.stores sink.setup.buffer sink.broken k size works
  pub sinks : new.sinks ≡ settled_sinks works old.sinks d n

pub turn-does : (old new : CoreState) (d place n : ℕ) (works : Bool) (whole : IsWholeCore old) → SettleTurn old new d place n works → DoesAct old new (Settle d n)
turn-does old new d place n works whole t =
    settle-does old new d n t.k t.size t.sink whole works t.there t.some (can-left t.sink place n t.can) t.least (t.sized ∙ ap (λ ns. space (take n ns)) (lengths-is old.sinks d t.sink t.there))
    (t.sources ∙ ap (acks_all old.sources) (settling-is old.sinks d n t.sink t.there)) t.calls t.taken t.sinks

pub turn-can : (old new : CoreState) (d place n : ℕ) (works : Bool) → SettleTurn old new d place n works → can_settle_at old.sinks d place n ≡ true
turn-can old new d place n works t = can-at old.sinks d place n t.sink t.there ∙ t.can

pub turn-works : (old new : CoreState) (d place n : ℕ) (whole : IsWholeCore old) → SettleTurn old new d place n true → broken_at new.sinks d ≡ false
turn-works old new d place n whole t = broken-first old.sinks new.sinks d n t.sink t.there t.sinks ∙ worked old whole.state new.stores d t.k t.size t.sink true whole.at t.there t.taken refl

pub turn-fails : (old new : CoreState) (d place n : ℕ) → SettleTurn old new d place n false → broken_at new.sinks d ≡ true
turn-fails old new d place n t = broken-then old.sinks new.sinks d n t.sink t.there t.sinks

pub turn-buffer : (old new : CoreState) (d place n : ℕ) → SettleTurn old new d place n false → buffer_at old.sinks d ≡ None → ⊥
turn-buffer old new d place n t none = never-fails old.stores new.stores old.sinks d t.k t.size t.sink false t.there none t.taken refl
