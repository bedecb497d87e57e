-- What has passed a seat, call by call. A count stands still at its end.
use Rattle.std.specs.Prelude.{◌≡◌, ◌≤◌, ◌<◌, ◌+◌, ◌-◌, ◌^◌, ◌⊎◌, ℕ, ℤ, min, false, nat_eq, nat_le, if◌then◌else◌, Option, Some, None, Result, Ok, Err, List, [], ◌∷◌, map, length, get_or, slice_get, option_map, flat_map}
use Rattle.sg_msg.specs.Message.{Content}
use Rattle.sg_msg.specs.declared.offer.Offer.{Offer}
use Rattle.sg_machine.specs.declared.event.Admission.{Admission}
use Rattle.sg_machine.specs.declared.event.Verdict.{Verdict}
use Rattle.sg_machine.specs.declared.event.Verdict.TheVariants.{Queued, Spooled, Waits, DroppedFull, DroppedDisk}
use Rattle.sg_counter.specs.declared.answers.CoreFront.{CoreFront}
use Rattle.sg_counter.specs.declared.answers.CoreFront.TheVariants.{Entries, Empty, Broken as FrontBroken}
use Rattle.sg_counter.specs.declared.answers.Settled.{Settled}
use Rattle.sg_counter.specs.declared.answers.Settled.TheVariants.{Done, NotFront, DiskFailed}
use Rattle.sg_counter.specs.declared.answers.Stored.{Stored}
use Rattle.sg_counter.specs.declared.answers.Stored.TheVariants.{Wrote, Unchanged, Broken}
use Rattle.sg_counter.specs.declared.calls.CoreCall.{CoreCall}
use Rattle.sg_counter.specs.declared.calls.CoreCall.TheVariants.{Credit, Admit, Front, Settle, Refill, Store}
use Rattle.sg_counter.specs.declared.calls.CoreReply.{CoreReply}
use Rattle.sg_counter.specs.declared.calls.CoreReply.TheVariants.{Credit as CreditReply, Admitted, Front as FrontReply, Settled as SettledReply, Refilled, Stored as StoredReply}
use Rattle.sg_hub.specs.declared.passed.Offered.{Offered}
use Rattle.sg_hub.specs.declared.passed.SeatCounts.{SeatCounts}

-- so many more
abbrev pub with_more : ℕ → ℕ → ℕ
with_more n count = min (count + n) (2 ^ 64 - 1)

-- Offers.

-- nothing was offered
abbrev pub none_offered : Offered
none_offered = record { kept = 0; dropped_full = 0; dropped_disk = 0 }

-- with the verdict on one more offer
abbrev pub counted : Offered → Verdict → Offered
counted offered Queued = record offered { kept = with_more 1 offered.kept }
counted offered Spooled = record offered { kept = with_more 1 offered.kept }
counted offered Waits = record offered { kept = with_more 1 offered.kept }
counted offered DroppedFull = record offered { dropped_full = with_more 1 offered.dropped_full }
counted offered DroppedDisk = record offered { dropped_disk = with_more 1 offered.dropped_disk }

-- what became of the offers to this destination
abbrev pub offered_to : ℕ → List Offered → Offered
offered_to dest offered = get_or offered dest none_offered

-- With the verdict on one more offer to this destination, where it has a place.
pub record CountsOffer (dest : ℕ) (verdict : Verdict) (old new : List Offered) : Type 0 where
  pub longer : length old ≤ length new
  pub counts : dest < length new → offered_to dest new ≡ counted (offered_to dest old) verdict
  pub others : (d : ℕ) → (d ≡ dest → ⊥) → offered_to d new ≡ offered_to d old

-- with the verdicts on offers to these destinations, one after another
abbrev pub CountsOffers : List ℕ → List Verdict → List Offered → List Offered → Type 0
CountsOffers [] verdicts old new = new ≡ old
CountsOffers (dest ∷ dests) [] old new = new ≡ old
CountsOffers (dest ∷ dests) (verdict ∷ verdicts) old new =
    (between : List Offered)
    × (CountsOffer dest verdict old between × CountsOffers dests verdicts between new)

-- the destinations of the records' offers, in order
abbrev pub dests_of : List Admission → List ℕ
dests_of records = flat_map (λ (a : Admission). map (λ (o : Offer). o.dest) a.offers) records

-- Calls.

-- nothing has passed
pub record HasPassedNone (counts : SeatCounts) : Type 0 where
  pub records : counts.records ≡ 0
  pub brought : counts.brought ≡ 0
  pub full : counts.full ≡ false
  pub eased : counts.eased ≡ 0
  pub stored : counts.stored ≡ None
  pub dests : counts.dests.items ≡ []
  pub offered : counts.offered.items ≡ []
  pub taken : counts.taken ≡ 0
  pub oldest : counts.oldest ≡ None
  pub newest : counts.newest ≡ None
  pub shown : counts.shown ≡ 0

-- what a source has come to is as it was, but for its offers
pub record IsSameSource (old new : SeatCounts) : Type 0 where
  pub records : new.records ≡ old.records
  pub full : new.full ≡ old.full
  pub eased : new.eased ≡ old.eased
  pub stored : new.stored ≡ old.stored

-- what a destination has come to is as it was
pub record IsSameDest (old new : SeatCounts) : Type 0 where
  pub taken : new.taken ≡ old.taken
  pub oldest : new.oldest ≡ old.oldest
  pub newest : new.newest ≡ old.newest
  pub shown : new.shown ≡ old.shown

-- what became of all offers is as it was
abbrev pub IsSameOffered : SeatCounts → SeatCounts → Type 0
IsSameOffered old new = new.offered.items ≡ old.offered.items

-- These records are brought. Their offers' destinations are listed, or there was no memory.
pub record HasBegun (records : List Admission) (old new : SeatCounts) : Type 0 where
  pub brought : new.brought ≡ length records
  pub dests : (new.dests.items ≡ dests_of records) ⊎ (new.dests.items ≡ [])
  pub offered : IsSameOffered old new
  pub source : IsSameSource old new
  pub dest : IsSameDest old new

-- Those that were brought came in, with these verdicts.
pub record HasEnded (verdicts : List Verdict) (old new : SeatCounts) : Type 0 where
  pub records : new.records ≡ with_more old.brought old.records
  pub brought : new.brought ≡ old.brought
  pub offered : CountsOffers old.dests.items verdicts old.offered.items new.offered.items
  pub rest : (new.full ≡ old.full) × ((new.eased ≡ old.eased) × (new.stored ≡ old.stored))
  pub dest : IsSameDest old new

-- the source's credit was asked for
pub record HasAsked (credit : ℕ) (old new : SeatCounts) : Type 0 where
  pub full : new.full ≡ nat_eq credit 0
  pub eased : new.eased ≡ (if nat_eq credit 0 then old.eased else with_more 1 old.eased)
  pub brought : new.brought ≡ old.brought
  pub rest : (new.records ≡ old.records) × (new.stored ≡ old.stored)
  pub offered : IsSameOffered old new
  pub dest : IsSameDest old new

-- the position that was stored last, behind this answer
abbrev pub stored_last : Stored → Option ℕ → Option ℕ
stored_last (Wrote position) before = Some position
stored_last Unchanged before = before
stored_last Broken before = before

-- the source's position was to be stored
pub record HasStored (answer : Stored) (old new : SeatCounts) : Type 0 where
  pub stored : new.stored ≡ stored_last answer old.stored
  pub brought : new.brought ≡ old.brought
  pub rest : (new.records ≡ old.records) × ((new.full ≡ old.full) × (new.eased ≡ old.eased))
  pub offered : IsSameOffered old new
  pub dest : IsSameDest old new

-- the messages that this shows
abbrev pub shown_by : {E : Type 0} → Result CoreFront E → List Content
shown_by (Ok (Entries place messages)) = messages
shown_by (Ok Empty) = []
shown_by (Ok FrontBroken) = []
shown_by (Err e) = []

-- when the message at this place was received
abbrev pub received_at : List Content → ℕ → Option ℤ
received_at messages k = option_map (λ (m : Content). m.received.at) (slice_get messages k)

-- the first entries of the destination were asked for
pub record HasShown (messages : List Content) (old new : SeatCounts) : Type 0 where
  pub oldest : new.oldest ≡ received_at messages 0
  pub newest : new.newest ≡ received_at messages (length messages - 1)
  pub shown : new.shown ≡ length messages
  pub taken : new.taken ≡ old.taken
  pub offered : IsSameOffered old new
  pub source : IsSameSource old new

-- so many entries of the destination were settled
pub record HasSettled (n : ℕ) (old new : SeatCounts) : Type 0 where
  pub taken : new.taken ≡ with_more n old.taken
  pub oldest : new.oldest ≡ (if nat_le old.shown n then old.newest else old.oldest)
  pub rest : (new.newest ≡ old.newest) × (new.shown ≡ old.shown)
  pub offered : IsSameOffered old new
  pub source : IsSameSource old new

-- entries of the destination were to be settled
abbrev pub CountsSettled : Settled → ℕ → SeatCounts → SeatCounts → Type 0
CountsSettled NotFront n old new =
    IsSameOffered old new × (IsSameSource old new × IsSameDest old new)
CountsSettled Done n old new = HasSettled n old new
CountsSettled DiskFailed n old new = HasSettled n old new

-- records were to be admitted
abbrev pub CountsAdmitted : {E : Type 0} → List Admission → Result (List Verdict) E → SeatCounts
    → SeatCounts → Type 0
CountsAdmitted records (Ok verdicts) old new =
    (between : SeatCounts) × (HasBegun records old between × HasEnded verdicts between new)
CountsAdmitted records (Err e) old new = HasBegun records old new

-- what a call and its reply make of the counts
abbrev pub CountsCall : CoreCall → CoreReply → SeatCounts → SeatCounts → Type 0
CountsCall (Credit i) (CreditReply credit) old new = HasAsked credit old new
CountsCall (Admit i records) (Admitted result) old new = CountsAdmitted records result old new
CountsCall (Front d most) (FrontReply front) old new = HasShown (shown_by front) old new
CountsCall (Settle d place n count) (SettledReply settled) old new =
    CountsSettled settled n old new
CountsCall (Store i) (StoredReply stored) old new = HasStored stored old new
CountsCall call reply old new =
    IsSameOffered old new × (IsSameSource old new × IsSameDest old new)
