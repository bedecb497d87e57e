-- A source between two of its steps.
use Rattle.std.specs.Prelude.{◌≡◌, ◌≤◌, ◌<◌, ℕ, ◌+◌, ◌^◌, Bool, true, false, List, [], ◌∷◌, ◌++◌, length, IfSome}
use Rattle.sg_device.specs.Inlet.{Stamped, InletState}
use Rattle.sg_msg.specs.declared.offer.Offer.{Offer}
use Rattle.sg_machine.specs.declared.event.Admission.{Admission}
use Rattle.sg_frame.specs.declared.framer.Framed.{Framed}
use Rattle.sg_frame.specs.declared.framer.Framed.TheVariants.{Item as Given, More, BadFrame}
use Rattle.sg_frame.specs.Items.{Item, Bad}
use Rattle.sg_frame.specs.Framing.{Framing, HasFramed, fed, items_left, open_left}
use Rattle.sg_frame.specs.Records.{Record}
use Rattle.sg_route.specs.Offers.{record_at}
use Rattle.sg_counter.specs.Bringing.{AllMayEnter}
use Rattle.sg_actor.specs.Reading.{AreItemsRead, items_ahead, bytes_pulled, IsUnfed}
use Rattle.sg_actor.specs.declared.reader.Reader.{Reader}
use Rattle.sg_actor.specs.declared.settings.SourceSpec.{SourceSpec}
use Rattle.sg_frame.specs.Timely.{IsTimely, AreTimely}

-- the inlet, what the source keeps of it, and the buffer of its pulls
pub record SourceState : Type 0 where
  pub feed : InletState
  pub reader : Reader
  pub buffer : List ℕ

abbrev pub source : InletState → Reader → List ℕ → SourceState
source feed reader buffer = record { feed = feed; reader = reader; buffer = buffer }

pub record ReadsWith (s : SourceState) (done : List Record) (ups : ℕ) (bytes : List Stamped)
    (items : List Item) : Type 0 where
  pub framed : HasFramed bytes (items ++ items_ahead s.reader.ahead) s.reader.framer
  pub read : AreItemsRead s.reader.framer.kind s.reader.framer.limit s.feed.from s.feed.peer
      s.feed.told
      s.reader.given_up done ups (bytes ++ bytes_pulled s.reader.pulled s.buffer) items
  -- each record took a byte with it at least
  pub fewer : length done + length (items_ahead s.reader.ahead) + length s.reader.framer.held
      + length (bytes_pulled s.reader.pulled s.buffer) ≤ s.feed.bytes

-- these records were taken of what the inlet gave, the reader has what is behind them, and so many parts were given up
abbrev pub ReadsRecords : SourceState → List Record → ℕ → Type 0
ReadsRecords s done ups = (bytes : List Stamped)
    × ((items : List Item) × ReadsWith s done ups bytes items)

-- the end of a record, which counts where the inlet has a position store
abbrev pub end_of : Bool → Record → ℕ
end_of true r = r.item.end
end_of false r = 0

-- a record as it is brought to the core
pub record IsOf (offers : ℕ → Record → List Offer → Type 0) (spec : SourceSpec) (r : Record)
    (a : Admission) : Type 0 where
  pub ends : a.end ≡ end_of spec.stored r
  pub offered : offers spec.inlet (record_at r.peer r.item.text r.item.at) a.offers

-- these records, in order
abbrev pub AreOf : (ℕ → Record → List Offer → Type 0) → SourceSpec → List Record → List Admission
    → Type 0
AreOf offers spec [] [] = Unit {0}
AreOf offers spec [] (a ∷ as') = ⊥
AreOf offers spec (r ∷ rs) [] = ⊥
AreOf offers spec (r ∷ rs) (a ∷ as') = IsOf offers spec r a × AreOf offers spec rs as'

-- Of what the inlet gave, these records were admitted; those behind them are held, and the reader has what is behind those. So many parts
-- were given up.
abbrev pub HasRead : (ℕ → Record → List Offer → Type 0) → SourceSpec → SourceState → List Record → ℕ
    → Type 0
HasRead offers spec s done ups = (behind : List Record)
    × (AreOf offers spec behind s.reader.held × ReadsRecords s (done ++ behind) ups)

-- what the framer gave last is what stands at the front of its bytes
abbrev pub IsFramedAhead : Framing → Framed → Type 0
IsFramedAhead f (Given bytes end at) = IsTimely at × (end ≤ fed f)
IsFramedAhead f More = Unit {0}
IsFramedAhead f (BadFrame place) = (items_left f ≡ []) × (open_left f ≡ Bad place)

abbrev pub IsBadFrame : Framed → Type 0
IsBadFrame (Given bytes end at) = ⊥
IsBadFrame More = ⊥
IsBadFrame (BadFrame place) = Unit {0}

-- a file has no byte left
abbrev pub HasNothingLeft : InletState → Type 0
HasNothingLeft feed = IfSome feed.left (λ rest. rest ≡ [])

-- The reader's places are those of its inlet, and what it holds may enter a core with so many destinations.
pub record IsReady (dests : ℕ) (spec : SourceSpec) (s : SourceState) : Type 0 where
  pub room : 0 < length s.buffer
  pub kind : s.reader.framer.kind ≡ spec.kind
  pub limit : s.reader.framer.limit ≡ spec.limit
  pub from : s.feed.from ≡ spec.from
  pub place : s.feed.from + (fed s.reader.framer + length (bytes_pulled s.reader.pulled s.buffer))
      ≡ s.feed.place
  pub in_range : s.feed.place < 2 ^ 63
  pub timely : AreTimely s.reader.framer.held
  pub unfed : IsUnfed (length s.buffer) s.reader.pulled
  pub ahead : IsFramedAhead s.reader.framer s.reader.ahead
  pub held : AllMayEnter dests s.reader.held
  pub few : length s.reader.held ≤ spec.fetch
  pub begun : 0 < length s.reader.framer.held + length (bytes_pulled s.reader.pulled s.buffer)
      → 0 < s.feed.parts
  -- a part is given up for a bad count behind all its items, and is hung up
  pub bad : s.reader.given_up ≡ true → IsBadFrame s.reader.ahead × (s.reader.held ≡ [])
  pub hung : s.feed.hung ≡ s.reader.given_up
  -- at its end an inlet that wasn't hung up has nothing left
  pub over : s.reader.ended ≡ true
      → (s.feed.ended ≡ true) × (s.reader.given_up ≡ false → HasNothingLeft s.feed)
