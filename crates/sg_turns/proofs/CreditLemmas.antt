-- What a source's turns bring within the credit that it is told.
use Rattle.std.proofs.Common.{arith, ◌≡◌, ◌≤◌, ◌+◌, ℕ, true, false, List, [], ◌∷◌, ◌++◌, length, drop, ap, sym, ◌∙◌, subst, length-append, Option, Some, None, ◌⊎◌, inl, inr}
use Rattle.std.specs.Prelude.{is_some}
use Rattle.sg_msg.specs.declared.offer.Offer.{Offer}
use Rattle.sg_frame.specs.Records.{Record}
use Rattle.sg_counter.specs.Exchanges.{Exchange}
use Rattle.sg_counter.specs.declared.calls.CoreCall.TheVariants.{Credit}
use Rattle.sg_counter.specs.declared.calls.CoreReply.TheVariants.{Credit as CreditReply}
use Rattle.sg_actor.specs.Bringing.{exchange, carried_by, carried_in, HasSentBack, EmptiesOn}
use Rattle.sg_actor.specs.SourceTurns.{ActorState, AsksCredit}
use Rattle.sg_actor.specs.declared.reader.Reader.{Reader}
use Rattle.sg_actor.specs.declared.settings.SourceSpec.{SourceSpec}
use Rattle.sg_actor.specs.declared.turned.Turned.{Turned}
use Rattle.sg_turns.specs.Turns.{Turn, result_of, calls_of, TookTurns}
use Rattle.sg_turns.specs.Serving.{AreFed}
use Rattle.sg_turns.specs.Laws.{told_by, KeepWithin}

-- calls that bring nothing, and those behind them, where none are sent back
keep-append : (told : ℕ) (made rest : List Exchange) → length (carried_in made) ≡ 0 → HasSentBack made ⊎ ((l : ℕ) → KeepWithin l rest) → KeepWithin told (made ++ rest)
keep-append told [] rest none (inl sent) = absurd sent
keep-append told [] rest none (inr more) = more told
keep-append told (e ∷ es) rest none (inl (inl back)) =
    let both : length (carried_by e.call ++ carried_in es) ≡ length (carried_by e.call) + length (carried_in es) = length-append (carried_by e.call) (carried_in es) in
    (omega arith, inl back)
keep-append told (e ∷ es) rest none (inl (inr sent)) =
    let both : length (carried_by e.call ++ carried_in es) ≡ length (carried_by e.call) + length (carried_in es) = length-append (carried_by e.call) (carried_in es) in
    (omega arith, inr (keep-append (told_by e.reply) es rest (omega arith) (inl sent)))
keep-append told (e ∷ es) rest none (inr more) =
    let both : length (carried_by e.call ++ carried_in es) ≡ length (carried_by e.call) + length (carried_in es) = length-append (carried_by e.call) (carried_in es) in
    (omega arith, inr (keep-append (told_by e.reply) es rest (omega arith) (inr more)))

-- the second call may bring records
keep-second : (told : ℕ) (made rest : List Exchange) → length (carried_in made) ≤ told → carried_in (drop 1 made) ≡ [] → HasSentBack made ⊎ ((l : ℕ) → KeepWithin l rest) → KeepWithin told (made ++ rest)
keep-second told [] rest few none (inl sent) = absurd sent
keep-second told [] rest few none (inr more) = more told
keep-second told (e ∷ es) rest few none (inl (inl back)) =
    let both : length (carried_by e.call ++ carried_in es) ≡ length (carried_by e.call) + length (carried_in es) = length-append (carried_by e.call) (carried_in es) in
    (omega arith, inl back)
keep-second told (e ∷ es) rest few none (inl (inr sent)) =
    let both : length (carried_by e.call ++ carried_in es) ≡ length (carried_by e.call) + length (carried_in es) = length-append (carried_by e.call) (carried_in es) in
    (omega arith, inr (keep-append (told_by e.reply) es rest (ap length none) (inl sent)))
keep-second told (e ∷ es) rest few none (inr more) =
    let both : length (carried_by e.call ++ carried_in es) ≡ length (carried_by e.call) + length (carried_in es) = length-append (carried_by e.call) (carried_in es) in
    (omega arith, inr (keep-append (told_by e.reply) es rest (ap length none) (inr more)))

-- a turn, whose first call asks for the credit
behind-asked : (i credit : ℕ) (es : List Exchange) (A : Type 0) → HasSentBack (exchange (Credit i) (CreditReply credit) ∷ es) ⊎ A → HasSentBack es ⊎ A
behind-asked i credit es A (inl (inl back)) = absurd back
behind-asked i credit es A (inl (inr sent)) = inl sent
behind-asked i credit es A (inr more) = inr more

asked-keeps : (told i credit : ℕ) (es rest : List Exchange) → length (carried_in (exchange (Credit i) (CreditReply credit) ∷ es)) ≤ credit
    → carried_in (drop 2 (exchange (Credit i) (CreditReply credit) ∷ es)) ≡ [] → HasSentBack (exchange (Credit i) (CreditReply credit) ∷ es) ⊎ ((l : ℕ) → KeepWithin l rest)
    → KeepWithin told ((exchange (Credit i) (CreditReply credit) ∷ es) ++ rest)
asked-keeps told i credit es rest few none how = (omega arith, inr (keep-second credit es rest few none (behind-asked i credit es ((l : ℕ) → KeepWithin l rest) how)))

turn-keeps : (told i credit : ℕ) (made rest : List Exchange) → AsksCredit i credit made → length (carried_in made) ≤ credit → carried_in (drop 2 made) ≡ [] → HasSentBack made ⊎ ((l : ℕ) → KeepWithin l rest)
    → KeepWithin told (made ++ rest)
turn-keeps told i credit [] rest asks few none how = absurd asks
turn-keeps told i credit (e ∷ es) rest asks few none how =
    (subst
    (λ (x : Exchange). length (carried_in (x ∷ es)) ≤ credit → carried_in (drop 2 (x ∷ es)) ≡ [] → HasSentBack (x ∷ es) ⊎ ((l : ℕ) → KeepWithin l rest) → KeepWithin told ((x ∷ es) ++ rest))
    (sym asks) (asked-keeps told i credit es rest)) few none how

emptied : (credit : ℕ) (old new : Reader) (made : List Exchange) (answer : Option Turned) → is_some answer ≡ true → EmptiesOn credit old new made (result_of answer) → old.held ≡ []
    → (new.held ≡ []) ⊎ HasSentBack made
emptied credit old new made (Some turned) fed (inl poor) none = inl (poor.1 ∙ none)
emptied credit old new made (Some turned) fed (inr h) none = h
emptied credit old new made None fed h none = absurd (let differ : false ≡ true = fed in cc)

pub keep-within : (offers : ℕ → Record → List Offer → Type 0) (dests : ℕ) (spec : SourceSpec) (told : ℕ) (old new : ActorState) (turns : List Turn) → TookTurns offers dests spec old new turns → AreFed turns
    → old.source.reader.held ≡ [] → KeepWithin told (calls_of turns)
keep-within offers dests spec told old new [] took fed none = tt
keep-within offers dests spec told old new (turn ∷ turns) (mid, (h, more)) fed none =
    let few : length (carried_in turn.made) ≤ h.credit = (let empty : length old.source.reader.held ≡ 0 = ap length none in omega (arith, h.takes.within)) in
    turn-keeps told spec.inlet h.credit turn.made (calls_of turns) h.takes.asks few h.takes.brings
    (elim (emptied h.credit old.source.reader mid.source.reader turn.made turn.answer fed.0 h.takes.empties none) [
      | inl held ↦ inr (λ l. keep-within offers dests spec l mid new turns more fed.1 held)
      | inr sent ↦ inl sent
    ])
