-- What a destination takes from a source: a prefix of exactly the texts that the log statements give for each record alone, less those
-- dropped without flow-control.
use Rattle.std.specs.Prelude.{◌≡◌, ℕ, ◌==◌, Bool, true, false, if◌then◌else◌, Option, Some, None, List, [], ◌∷◌, ◌++◌, length, map, filter, drop}
use Rattle.std.specs.Option.{option_map}
use Rattle.sg_device.specs.Inlet.{InletState}
use Rattle.sg_msg.specs.Message.{Content}
use Rattle.sg_msg.specs.declared.offer.Offer.{Offer}
use Rattle.sg_frame.specs.Records.{Record, records}
use Rattle.sg_route.specs.Offers.{record_at}
use Rattle.sg_machine.specs.declared.event.Act.{Act}
use Rattle.sg_machine.specs.declared.event.Act.TheVariants.{Admit}
use Rattle.sg_machine.specs.declared.event.Admission.{Admission}
use Rattle.sg_machine.specs.declared.event.Event.{Event}
use Rattle.sg_machine.specs.declared.event.Verdict.{Verdict}
use Rattle.sg_machine.specs.declared.state.Dest.{Dest}
use Rattle.sg_machine.specs.declared.state.DestEntry.{DestEntry}
use Rattle.sg_machine.specs.Verdicts.{Claim, claims_of}
use Rattle.sg_machine.specs.Counts.{is_dropped}
use Rattle.sg_actor.specs.declared.settings.SourceSpec.{SourceSpec}

-- Texts. What the offers of a record may be, and the frame of a message at each destination, are arguments.

-- a text for a destination: the frame of an offer's message, and the offer's flow-control
pub record SentText : Type 0 where
  pub frame : List ℕ
  pub flow : Bool

abbrev pub text_of : (ℕ → Content → List ℕ) → Offer → SentText
text_of frame o = record { frame = frame o.dest o.message; flow = o.flow }

-- the texts that these offers are to d, in order
abbrev pub texts_to : (ℕ → Content → List ℕ) → ℕ → List Offer → List SentText
texts_to frame d offers = map (text_of frame) (filter (λ o. o.dest == d) offers)

-- the texts that the log statements give d for these records of inlet i, each record alone
abbrev pub GivesTexts : (ℕ → Record → List Offer → Type 0) → (ℕ → Content → List ℕ) → (i d : ℕ)
    → List Record → List SentText → Type 0
GivesTexts offers frame i d [] texts = texts ≡ []
GivesTexts offers frame i d (r ∷ rs) texts =
    (given : List Offer) × ((later : List SentText) × (
    offers i (record_at r.peer r.item.text r.item.at) given
    × (GivesTexts offers frame i d rs later × (texts ≡ texts_to frame d given ++ later))))

-- the texts without those that are marked
abbrev pub less : List Bool → List SentText → List SentText
less [] texts = texts
less (m ∷ ms) [] = []
less (m ∷ ms) (t ∷ texts) = if m then less ms texts else t ∷ less ms texts

-- no text with flow-control is marked
abbrev pub AreTextsUnflowed : List Bool → List SentText → Type 0
AreTextsUnflowed [] texts = Unit {0}
AreTextsUnflowed (m ∷ ms) [] = Unit {0}
AreTextsUnflowed (m ∷ ms) (t ∷ texts) = (m ≡ true → t.flow ≡ false) × AreTextsUnflowed ms texts

-- these frames are the first of the texts, less those that were dropped; each text was dropped or not
pub record IsPrefixLess (texts : List SentText) (taken : List (List ℕ)) : Type 0 where
  pub dropped : List Bool
  pub rest : List (List ℕ)
  pub each : length dropped ≡ length texts
  pub unflowed : AreTextsUnflowed dropped texts
  pub first : map (λ t. t.frame) (less dropped texts) ≡ taken ++ rest

-- What was taken, and what was dropped.

-- the entries that d has settled behind those that it had at first, as those that an earlier run had left in its disk-buffer
abbrev pub settled_behind : Dest → Dest → List DestEntry
settled_behind old new = drop (length (old.settled ++ old.left)) new.settled

-- those of inlet i, as frames
abbrev pub taken_from : (ℕ → Content → List ℕ) → (i d : ℕ) → Dest → Dest → List (List ℕ)
taken_from frame i d old new = map (λ e. frame d e.message)
    (filter (λ e. e.inlet == i) (settled_behind old new))

-- the records of i that came in, in order
abbrev pub admissions_by : ℕ → Act → List Admission
admissions_by i (Admit j records verdicts) = if j == i then records else []
admissions_by i _ = []

abbrev pub admissions_of : ℕ → List Event → List Admission
admissions_of i [] = []
admissions_of i (e ∷ es) = admissions_by i e.act ++ admissions_of i es

-- which of the offers to d were dropped, in order
abbrev pub dropped_of : ℕ → List Claim → List Verdict → List Bool
dropped_of d [] vs = []
dropped_of d (c ∷ cs) [] = []
dropped_of d (c ∷ cs) (v ∷ vs) =
    if c.offer.dest == d then is_dropped v ∷ dropped_of d cs vs else dropped_of d cs vs

-- of those of inlet i
abbrev pub dropped_by : (i d : ℕ) → Act → List Bool
dropped_by i d (Admit j records verdicts) =
    if j == i then dropped_of d (claims_of records) verdicts else []
dropped_by i d _ = []

abbrev pub dropped_from : (i d : ℕ) → List Event → List Bool
dropped_from i d [] = []
dropped_from i d (e ∷ es) = dropped_by i d e.act ++ dropped_from i d es

-- d took of inlet i, in order, a prefix of exactly the texts of these records, less those whose verdict dropped them; where none of its
-- entries is left, it took all of them
pub record TakesTexts (offers : ℕ → Record → List Offer → Type 0) (frame : ℕ → Content → List ℕ)
    (i d : ℕ) (done : List Record) (events : List Event) (taken : List (List ℕ))
    (left : List DestEntry) : Type 0 where
  pub texts : List SentText
  pub given : GivesTexts offers frame i d done texts
  pub takes : IsPrefixLess texts taken
  pub verdicts : takes.dropped ≡ dropped_from i d events
  pub all : left ≡ [] → takes.rest ≡ []

-- Records of an inlet.

-- the records that an inlet gave, in order, from the place on at which it was opened, where it tells what it gave
abbrev pub records_given : SourceSpec → InletState → Option (List Record)
records_given spec feed = option_map (records spec.kind spec.limit spec.from) feed.told

-- these are the first of them
abbrev pub AreFirstRecords : List Record → Option (List Record) → Type 0
AreFirstRecords done None = Unit {0}
AreFirstRecords done (Some given) = (later : List Record) × (given ≡ done ++ later)

-- d took of inlet i, in order, a prefix of exactly the texts of the first records that it gave, less those whose verdict dropped them
pub record TakesFirstTexts (offers : ℕ → Record → List Offer → Type 0)
    (frame : ℕ → Content → List ℕ) (i d : ℕ) (given : Option (List Record)) (events : List Event)
    (taken : List (List ℕ)) (left : List DestEntry) : Type 0 where
  pub done : List Record
  pub first : AreFirstRecords done given
  pub takes : TakesTexts offers frame i d done events taken left
