-- Calls of a source, and the records that they bring to the core.
use Rattle.std.specs.Prelude.{◌≡◌, ◌≤◌, ◌⊎◌, ℕ, ◌+◌, Bool, true, false, ◌&&◌, not, nat_lt, max, List, [], ◌∷◌, ◌++◌, length, Result, Ok, Err}
use Rattle.sg_device.specs.Inlet.{Advances}
use Rattle.sg_msg.specs.declared.offer.Offer.{Offer}
use Rattle.sg_machine.specs.declared.event.Admission.{Admission}
use Rattle.sg_frame.specs.Records.{Record}
use Rattle.sg_counter.specs.Exchanges.{Exchange, Makes, Caller, OfSource, caller_of}
use Rattle.sg_counter.specs.declared.calls.CoreCall.{CoreCall}
use Rattle.sg_counter.specs.declared.calls.CoreCall.TheVariants.{Admit}
use Rattle.sg_counter.specs.declared.calls.CoreReply.{CoreReply}
use Rattle.sg_counter.specs.declared.calls.CoreReply.TheVariants.{Credit as CreditReply, Admitted, Stored}
use Rattle.sg_counter.specs.declared.answers.Stored.{Stored as StoredAnswer}
use Rattle.sg_counter.specs.declared.answers.Refused.TheVariants.{NoCredit, NoMemory as AdmitNoMemory}
use Rattle.sg_actor.specs.Reading.{one_if}
use Rattle.sg_actor.specs.Sources.{SourceState, AreOf, ReadsRecords, HasRead, IsReady}
use Rattle.sg_actor.specs.Steps.{parts_over, is_spent, has_pulled, was_idle, IsInletOver}
use Rattle.sg_actor.specs.declared.reader.Reader.{Reader}
use Rattle.sg_actor.specs.declared.admitting.Handed.{Handed}
use Rattle.sg_actor.specs.declared.reading.Doings.{Doings}
use Rattle.sg_actor.specs.declared.settings.SourceSpec.{SourceSpec}

abbrev pub exchange : CoreCall → CoreReply → Exchange
exchange call reply = record { call = call; reply = reply }

-- all calls are this caller's
abbrev pub AllBy : Caller → List Exchange → Type 0
AllBy caller [] = Unit {0}
AllBy caller (e ∷ es) = (caller_of e.call ≡ caller) × AllBy caller es

-- the records that were admitted, in order
abbrev pub admitted_by : CoreCall → CoreReply → List Admission
admitted_by (Admit i records) (Admitted (Ok verdicts)) = records
admitted_by call reply = []

abbrev pub admitted_in : List Exchange → List Admission
admitted_in [] = []
admitted_in (e ∷ es) = admitted_by e.call e.reply ++ admitted_in es

abbrev pub has_admitted : List Exchange → Bool
has_admitted made = nat_lt 0 (length (admitted_in made))

-- the records that were brought to the core, admitted or not
abbrev pub carried_by : CoreCall → List Admission
carried_by (Admit i records) = records
carried_by call = []

abbrev pub carried_in : List Exchange → List Admission
carried_in [] = []
carried_in (e ∷ es) = carried_by e.call ++ carried_in es

-- the end of the last of these records, that place where there is none
abbrev pub last_end : ℕ → List Admission → ℕ
last_end end [] = end
last_end end (a ∷ as') = last_end a.end as'

-- the answers on positions, in order
abbrev pub stored_by : CoreReply → List StoredAnswer
stored_by (Stored answer) = answer ∷ []
stored_by reply = []

abbrev pub stores_in : List Exchange → List StoredAnswer
stores_in [] = []
stores_in (e ∷ es) = stored_by e.reply ++ stores_in es

-- the source has no credit, or not enough
abbrev pub IsCreditRefusal : CoreReply → Type 0
IsCreditRefusal (CreditReply credit) = credit ≡ 0
IsCreditRefusal (Admitted (Err (NoCredit records))) = Unit {0}
IsCreditRefusal reply = ⊥

abbrev pub HasRefusal : List Exchange → Type 0
HasRefusal [] = ⊥
HasRefusal (e ∷ es) = IsCreditRefusal e.reply ⊎ HasRefusal es

-- the source had not enough credit for the records that it brought
abbrev pub IsSentBack : CoreReply → Type 0
IsSentBack (Admitted (Err (NoCredit records))) = Unit {0}
IsSentBack reply = ⊥

abbrev pub HasSentBack : List Exchange → Type 0
HasSentBack [] = ⊥
HasSentBack (e ∷ es) = IsSentBack e.reply ⊎ HasSentBack es

-- no record is held behind what came to its end, but where some were sent back
abbrev pub Empties : {A E : Type 0} → Reader → List Exchange → Result A E → Type 0
Empties new made (Ok done) = (new.held ≡ []) ⊎ HasSentBack made
Empties new made (Err e) = Unit {0}

-- and without credit those are still held that were
abbrev pub EmptiesOn : {A E : Type 0} → ℕ → Reader → Reader → List Exchange → Result A E → Type 0
EmptiesOn credit old new made (Ok done) = ((credit ≡ 0) × (new.held ≡ old.held))
    ⊎ ((new.held ≡ []) ⊎ HasSentBack made)
EmptiesOn credit old new made (Err e) = Unit {0}

-- the records that are held were brought to the core in one call: they were admitted, or they are still held
abbrev pub AdmitsBy : {E : Type 0} → Reader → Reader → CoreReply → Result Bool E → Type 0
AdmitsBy old new (Admitted (Ok verdicts)) (Ok true) = new
    ≡ record old { held = []; end = last_end old.end old.held }
AdmitsBy old new (Admitted (Err (NoCredit records))) (Ok false) = new ≡ old
AdmitsBy old new (Admitted (Err (AdmitNoMemory records))) (Err e) = new ≡ old
AdmitsBy old new reply result = ⊥

abbrev pub Admits : {S E : Type 0} → (S → CoreCall → CoreReply → S → Type 0) → S → S → ℕ → Reader
    → Reader → Result Bool E → Type 0
Admits step counter counter' i old new result =
    (reply : CoreReply)
    × (step counter (Admit i old.held) reply counter' × AdmitsBy old new reply result)

-- What steps leave that make these calls: the records of the admitted calls are the next ones of the inlet, in order.
pub record Brings {S : Type 0} (offers : ℕ → Record → List Offer → Type 0) (dests : ℕ)
    (spec : SourceSpec) (step : S → CoreCall → CoreReply → S → Type 0) (counter counter' : S)
    (old new : SourceState) (ups : ℕ) (made : List Exchange) : Type 0 where
  pub makes : Makes step counter made counter'
  pub own : AllBy (OfSource spec.inlet) made
  pub unstored : stores_in made ≡ []
  pub fetched : length (admitted_in made) ≤ spec.fetch
  pub ready : IsReady dests spec new
  pub reads : (done : List Record) (before : ℕ) → HasRead offers spec old done before
      → (taken : List Record) × (AreOf offers spec taken (admitted_in made)
      × HasRead offers spec new (done ++ taken) (before + ups))
  pub end : new.reader.end ≡ last_end old.reader.end (admitted_in made)
  pub advances : Advances old.feed new.feed
  pub parts : ups + parts_over old.reader.given_up old.feed.parts
      ≤ parts_over new.reader.given_up new.feed.parts

-- nothing was pulled
pub record IsUnpulled (old new : SourceState) : Type 0 where
  pub bytes : new.feed.bytes ≡ old.feed.bytes
  pub parts : new.feed.parts ≡ old.feed.parts
  pub pulls : new.feed.pulls ≡ old.feed.pulls
  pub idles : new.feed.idles ≡ old.feed.idles
  pub ended : new.reader.ended ≡ old.reader.ended
  pub failed : new.reader.failed ≡ old.reader.failed

abbrev pub ups_of : {E : Type 0} → Result Handed E → ℕ
ups_of (Ok handed) = one_if handed.gave_up
ups_of (Err e) = 0

-- where there was something for the core and nothing came of it, the source was refused credit
abbrev pub HandsBy : {E : Type 0} → SourceState → List Exchange → Result Handed E → Type 0
HandsBy old made (Ok handed) =
    (has_admitted made ≡ handed.admitted) × (is_spent old.reader ≡ false → handed.admitted ≡ false
    → handed.gave_up ≡ false → HasRefusal made)
HandsBy old made (Err e) = Unit {0}

-- What a step leaves that may give parts up, so many.
pub record MayGiveUp (dests : ℕ) (spec : SourceSpec) (old new : SourceState)
    (ups : ℕ) : Type 0 where
  pub ready : IsReady dests spec new
  pub reads : (done : List Record) (before : ℕ) → ReadsRecords old done before
      → ReadsRecords new done (before + ups)
  pub advances : Advances old.feed new.feed
  pub parts : ups + parts_over old.reader.given_up old.feed.parts
      ≤ parts_over new.reader.given_up new.feed.parts
  pub unpulled : IsUnpulled old new

-- the records that were held are admitted, or they are still held
abbrev pub MovesHeld : List Admission → List Admission → List Admission → Type 0
MovesHeld held held' admitted =
    ((held' ≡ []) × (admitted ≡ held)) ⊎ ((held' ≡ held) × (admitted ≡ []))

-- what was read is handed in
pub record HandsIn {S E : Type 0} (dests : ℕ) (spec : SourceSpec)
    (step : S → CoreCall → CoreReply → S → Type 0) (counter counter' : S)
    (old new : SourceState) (result : Result Handed E) : Type 0 where
  pub made : List Exchange
  pub few : length made ≤ 1
  pub makes : Makes step counter made counter'
  pub own : AllBy (OfSource spec.inlet) made
  pub unstored : stores_in made ≡ []
  pub gives : MayGiveUp dests spec old new (ups_of result)
  pub moves : MovesHeld old.reader.held new.reader.held (admitted_in made)
  pub within : length (carried_in made) ≤ length old.reader.held
  pub empties : Empties new.reader made result
  pub end : new.reader.end ≡ last_end old.reader.end (admitted_in made)
  pub hands : HandsBy old made result

abbrev pub ups_done : {E : Type 0} → Result Doings E → ℕ
ups_done (Ok doings) = one_if doings.gave_up
ups_done (Err e) = 0

-- the source had no credit, or not enough, or its inlet is over
abbrev pub HadNothing : ℕ → List Exchange → Reader → Type 0
HadNothing credit made reader = (credit ≡ 0) ⊎ (HasRefusal made ⊎ IsInletOver reader)

-- what was done, as the inlet and the calls tell it
pub record DoesAs (credit : ℕ) (old new : SourceState) (made : List Exchange)
    (doings : Doings) : Type 0 where
  pub brought : has_pulled old new ≡ doings.pulled
  pub idled : was_idle old new ≡ doings.idle
  pub took : has_admitted made ≡ doings.admitted
  pub nothing : doings.pulled ≡ false → doings.admitted ≡ false → doings.gave_up ≡ false
      → doings.idle ≡ false → HadNothing credit made new.reader

abbrev pub DoesInTurn : {E : Type 0} → ℕ → SourceState → SourceState → List Exchange
    → Result Doings E
    → Type 0
DoesInTurn credit old new made (Ok doings) = DoesAs credit old new made doings
DoesInTurn credit old new made (Err e) = Unit {0}

pub record ReadsOnTurn {S E : Type 0} (offers : ℕ → Record → List Offer → Type 0) (dests : ℕ)
    (spec : SourceSpec) (step : S → CoreCall → CoreReply → S → Type 0) (counter counter' : S)
    (credit : ℕ) (old new : SourceState) (result : Result Doings E) : Type 0 where
  pub made : List Exchange
  pub few : length made ≤ 1
  pub brings : Brings offers dests spec step counter counter' old new (ups_done result) made
  pub pulls : new.feed.pulls ≤ old.feed.pulls + 1
  pub within : length (carried_in made) ≤ max (length old.reader.held) credit
  pub empties : EmptiesOn credit old.reader new.reader made result
  pub does : DoesInTurn credit old new made result

abbrev pub is_nothing : Doings → Bool
is_nothing doings = not doings.pulled && not doings.admitted && not doings.gave_up
