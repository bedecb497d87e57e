-- What the steps of a turn leave of what a source keeps.
use Rattle.std.specs.Prelude.{◌≡◌, ◌≤◌, ◌<◌, ℕ, ◌+◌, ◌-◌, Bool, true, false, ◌||◌, ◌&&◌, nat_lt, ◌==◌, List, [], length, Result, Ok, Err, not}
use Rattle.sg_device.specs.Faults.{Rose}
use Rattle.sg_device.specs.Inlet.{InletState, Advances}
use Rattle.sg_msg.specs.declared.offer.Offer.{Offer}
use Rattle.sg_device.specs.declared.inlet.Pull.{Pull}
use Rattle.sg_device.specs.declared.inlet.Pull.TheVariants.{Bytes, Next, Idle, End}
use Rattle.sg_frame.specs.declared.kind.FrameKind.{FrameKind}
use Rattle.sg_frame.specs.declared.framer.Framed.{Framed}
use Rattle.sg_frame.specs.declared.framer.Framed.TheVariants.{Item as Given, More, BadFrame}
use Rattle.sg_frame.specs.Items.{IsSoundForm}
use Rattle.sg_frame.specs.Records.{Record}
use Rattle.sg_frame.specs.Framing.{Framing, HasFramed, GoesOnFraming, NextTells, fresh, items_left, open_left, with_bytes}
use Rattle.sg_actor.specs.Reading.{bytes_pulled, one_if}
use Rattle.sg_actor.specs.Sources.{SourceState, source, ReadsRecords, HasRead, IsReady}
use Rattle.sg_actor.specs.declared.reader.Reader.{Reader}
use Rattle.sg_actor.specs.declared.settings.SourceSpec.{SourceSpec}
use Rattle.sg_actor.specs.declared.reading.SourceWork.{SourceWork}
use Rattle.sg_actor.specs.declared.reading.SourceWork.TheVariants.{Work, Idle as FoundIdle, Over}

-- nothing was pulled yet
pub record IsReaderBegun (kind : FrameKind) (limit from : ℕ) (reader : Reader) : Type 0 where
  pub framer : reader.framer ≡ fresh kind limit
  pub framed : HasFramed [] [] reader.framer
  pub pulled : reader.pulled ≡ Idle
  pub ahead : reader.ahead ≡ More
  pub held : reader.held ≡ []
  pub end : reader.end ≡ from
  pub ended : reader.ended ≡ false
  pub failed : reader.failed ≡ false
  pub given_up : reader.given_up ≡ false

-- what was pulled went to the framer
pub record HasFed (buffer : List ℕ) (old new : Reader) : Type 0 where
  pub rest : new ≡ record old { framer = new.framer; pulled = Idle }
  pub framer : new.framer ≡ with_bytes old.framer (bytes_pulled old.pulled buffer)
  pub goes : GoesOnFraming old.framer new.framer (bytes_pulled old.pulled buffer) []

abbrev pub FedBy : List ℕ → Pull → Reader → Reader → Type 0
FedBy buffer (Bytes len at) old new = HasFed buffer old new
FedBy buffer Next old new = new ≡ old
FedBy buffer Idle old new = new ≡ old
FedBy buffer End old new = new ≡ old

abbrev pub Feeds : {E : Type 0} → List ℕ → Reader → Reader → Result Unit E → Type 0
Feeds buffer old new (Ok done) = FedBy buffer old.pulled old new
Feeds buffer old new (Err e) = new ≡ old

-- the framer was asked, where nothing was known
pub record HasAsked (old new : Reader) : Type 0 where
  pub rest : new ≡ record old { framer = new.framer; ahead = new.ahead }
  pub told : NextTells old.framer new.framer (Ok new.ahead)

abbrev pub LooksBy : Framed → Reader → Reader → Type 0
LooksBy (Given bytes end at) old new = new ≡ old
LooksBy More old new = HasAsked old new
LooksBy (BadFrame place) old new = new ≡ old

abbrev pub Looks : {E : Type 0} → Reader → Reader → Result Unit E → Type 0
Looks old new (Ok done) = LooksBy old.ahead old new
Looks old new (Err e) = new ≡ old

-- all that was pulled is fed
abbrev pub IsFed : Pull → Type 0
IsFed (Bytes len at) = ⊥
IsFed Next = Unit {0}
IsFed Idle = Unit {0}
IsFed End = Unit {0}

-- no whole item is left, nor a bad count for which the part isn't given up
abbrev pub IsFrameDealt : Framing → Bool → Framed → Type 0
IsFrameDealt f given_up (Given bytes end at) = ⊥
IsFrameDealt f given_up More = (items_left f ≡ []) × IsSoundForm (open_left f)
IsFrameDealt f given_up (BadFrame place) = given_up ≡ true

-- all that was pulled is dealt with
pub record IsSpent (reader : Reader) : Type 0 where
  pub held : reader.held ≡ []
  pub fed : IsFed reader.pulled
  pub ahead : IsFrameDealt reader.framer reader.given_up reader.ahead

-- bytes, a part, the end, or a failure
abbrev pub has_pulled : SourceState → SourceState → Bool
has_pulled old new =
    nat_lt old.feed.bytes new.feed.bytes || nat_lt old.feed.parts new.feed.parts
    || nat_lt (one_if old.reader.ended) (one_if new.reader.ended)
    || nat_lt (one_if old.reader.failed) (one_if new.reader.failed)

abbrev pub was_idle : SourceState → SourceState → Bool
was_idle old new = nat_lt old.feed.idles new.feed.idles

-- the parts that are closed or given up, of so many
abbrev pub parts_over : Bool → ℕ → ℕ
parts_over true parts = parts
parts_over false parts = parts - 1

-- What a step leaves that neither takes a record nor brings one to the core.
pub record SourceRestsStill (dests : ℕ) (spec : SourceSpec) (old new : SourceState) : Type 0 where
  pub ready : IsReady dests spec new
  pub reads : (done : List Record) (ups : ℕ) → ReadsRecords old done ups → ReadsRecords new done ups
  pub held : new.reader.held ≡ old.reader.held
  pub end : new.reader.end ≡ old.reader.end
  pub advances : Advances old.feed new.feed
  pub parts : parts_over old.reader.given_up old.feed.parts
      ≤ parts_over new.reader.given_up new.feed.parts

-- a pull that failed isn't forgotten, and let the count of faults rise
abbrev pub PullFails : (failed failed' : Bool) → (faults faults' : ℕ) → Type 0
PullFails failed failed' faults faults' = (failed ≡ true → failed' ≡ true)
    × (failed ≡ false → failed' ≡ true → Rose faults faults')

-- At most one pull was made. The end isn't forgotten, nor is a pull that failed, which let the count of faults rise.
pub record PullsAtMost (old new : SourceState) : Type 0 where
  pub pulls : new.feed.pulls ≤ old.feed.pulls + 1
  pub ended : old.reader.ended ≡ true → new.reader.ended ≡ true
  pub failing : PullFails old.reader.failed new.reader.failed old.feed.faults new.feed.faults

-- the inlet was pulled once
pub record PullsOnce (dests : ℕ) (spec : SourceSpec) (old new : SourceState)
    (idle : Bool) : Type 0 where
  pub rests : SourceRestsStill dests spec old new
  pub pulls : new.feed.pulls ≤ old.feed.pulls + 1
  pub brought : has_pulled old new ≡ not idle
  pub idles : was_idle old new ≡ idle
  pub failing : PullFails old.reader.failed new.reader.failed old.feed.faults new.feed.faults

abbrev pub PullsOnto : SourceState → SourceState → Bool → Type 0
PullsOnto old new idle = (dests : ℕ) (spec : SourceSpec) → IsReady dests spec old
    → PullsOnce dests spec old new idle

-- What a step leaves that brings nothing to the core: whatever was admitted before, it is still followed by what is held and by what the
-- reader has.
pub record KeepsRecords (offers : ℕ → Record → List Offer → Type 0) (dests : ℕ) (spec : SourceSpec)
    (old new : SourceState) : Type 0 where
  pub ready : IsReady dests spec new
  pub reads : (done : List Record) (ups : ℕ) → HasRead offers spec old done ups
      → HasRead offers spec new done ups
  pub end : new.reader.end ≡ old.reader.end
  pub advances : Advances old.feed new.feed
  pub parts : parts_over old.reader.given_up old.feed.parts
      ≤ parts_over new.reader.given_up new.feed.parts

-- it is ready, with some buffer
abbrev pub IsSafe : ℕ → SourceSpec → InletState → Reader → Type 0
IsSafe dests spec feed reader = (buffer : List ℕ) × IsReady dests spec (source feed reader buffer)

-- no whole item is left; where a bad count is ahead, none is behind it
abbrev pub IsLookedAhead : Framing → Framed → Type 0
IsLookedAhead f (Given bytes end at) = ⊥
IsLookedAhead f More = (items_left f ≡ []) × IsSoundForm (open_left f)
IsLookedAhead f (BadFrame place) = Unit {0}

-- what stays where records are taken
pub record HasTakenRecords (old new : Reader) : Type 0 where
  pub pulled : new.pulled ≡ old.pulled
  pub ended : new.ended ≡ old.ended
  pub failed : new.failed ≡ old.failed
  pub given_up : new.given_up ≡ old.given_up

-- one record was taken, or no item is whole
abbrev pub TakesOne : {E : Type 0} → Reader → Reader → Result Bool E → Type 0
TakesOne old new (Ok true) = length new.held ≡ length old.held + 1
TakesOne old new (Ok false) = (new.held ≡ old.held) × IsLookedAhead new.framer new.ahead
TakesOne old new (Err e) = new.held ≡ old.held

-- a bad count is ahead for which the present part isn't given up yet
abbrev pub is_bad_frame : Framed → Bool
is_bad_frame (Given bytes end at) = false
is_bad_frame More = false
is_bad_frame (BadFrame place) = true

abbrev pub is_bad : Reader → Bool
is_bad reader = is_bad_frame reader.ahead && not reader.given_up

-- the present part is given up, and hung up
abbrev pub GivesUp : Reader → InletState → Reader → InletState → Bool → Type 0
GivesUp old feed new feed' true = (is_bad old ≡ true) × (new ≡ record old { given_up = true })
    × (feed' ≡ record feed { hung = true })
GivesUp old feed new feed' false = (is_bad old ≡ false) × (new ≡ old) × (feed' ≡ feed)

-- so many are held, or no item is whole
abbrev pub TakesHeld : {E : Type 0} → ℕ → Reader → Result Unit E → Type 0
TakesHeld most new (Ok done) = length new.held < most → IsLookedAhead new.framer new.ahead
TakesHeld most new (Err e) = Unit {0}

-- the place behind an item, which counts where the inlet has a position store
abbrev pub end_at : Bool → ℕ → ℕ → ℕ
end_at true from end = from + end
end_at false from end = 0

-- With whatever buffer it is ready, it keeps what was read.
abbrev pub KeepsAll : (ℕ → Record → List Offer → Type 0) → ℕ → SourceSpec → InletState → Reader
    → Reader → Type 0
KeepsAll offers dests spec feed old new =
    (buffer : List ℕ) → IsReady dests spec (source feed old buffer)
    → KeepsRecords offers dests spec (source feed old buffer) (source feed new buffer)

-- neither a record nor a bad count is left for the core
abbrev pub is_spent : Reader → Bool
is_spent reader = (length reader.held == 0) && not (is_bad reader)

abbrev pub is_over : Reader → Bool
is_over reader = reader.ended || reader.failed

-- the inlet has ended or failed, and all that it gave is dealt with
pub record IsInletOver (reader : Reader) : Type 0 where
  pub spent : IsSpent reader
  pub over : is_over reader ≡ true

-- what a turn finds: where nothing was pulled there is something for the core
abbrev pub FindsWork : {E : Type 0} → SourceState → SourceState → Result SourceWork E → Type 0
FindsWork old new (Ok (Work pulled)) = (has_pulled old new ≡ pulled) × (was_idle old new ≡ false)
    × (pulled ≡ false → is_spent new.reader ≡ false)
FindsWork old new (Ok FoundIdle) = (has_pulled old new ≡ false) × (was_idle old new ≡ true)
    × (new.reader.held ≡ [])
FindsWork old new (Ok Over) = (has_pulled old new ≡ false) × (was_idle old new ≡ false)
    × IsInletOver new.reader
FindsWork old new (Err e) = Unit {0}

-- what was pulled is fed, and so many are held or no item is whole
abbrev pub ReadsAll : {E : Type 0} → ℕ → Reader → Result Unit E → Type 0
ReadsAll most new (Ok done) = IsFed new.pulled
    × (length new.held < most → IsLookedAhead new.framer new.ahead)
ReadsAll most new (Err e) = Unit {0}

-- the inlet is no nearer its end
pub record IsAsBefore (old new : Reader) : Type 0 where
  pub ended : new.ended ≡ old.ended
  pub failed : new.failed ≡ old.failed
