-- What `trace` does.
use Rattle.std.specs.Prelude.{◌≡◌, ◌≤◌, ◌<◌, ◌⊎◌, ℕ, ◌+◌, ◌^◌, List, [], ◌++◌, codes, Option, None, Some, Result, Ok, Err, true, false}
use Rattle.sg_device.specs.Faults.{Rose}
use Rattle.sg_device.specs.Inlet.{Stamped, InletState, IsFresh}
use Rattle.sg_frame.specs.declared.kind.FrameKind.{FrameKind}
use Rattle.sg_frame.specs.Items.{items_of, open_of}
use Rattle.sg_outside.specs.World.{WorldState, Ledger, StandsIn, with_opened, with_closed}
use Rattle.sg_outside.specs.declared.request.InletSpec.{InletSpec}
use Rattle.sg_outside.specs.declared.request.InletSpec.TheVariants.{File}
use Rattle.sg_report.specs.Store.{unopened_line}
use Rattle.sg_trace.specs.declared.target.SentForm.{SentForm}
use Rattle.sg_trace.specs.declared.untraced.Untraced.{Untraced}
use Rattle.sg_trace.specs.declared.untraced.Untraced.TheVariants.{NotOpened, InletFault, RoundsSpent, SayFault, NoMemory}
use Rattle.sg_trace.specs.Reading.{HasGiven}
use Rattle.sg_trace.specs.Rows.{TracedRow, Offering, AreOffered, items_in, rows_text}
use Rattle.sg_output.specs.Saying.{OnlySays, SaidText, SaidSome}
use Rattle.sg_trace.specs.Taking.{IsBadForm}

-- These are all whole items of what the file gave; and where it must, a bad count follows them, or the file has ended.
pub record AreAll (kind : FrameKind) (limit : ℕ) (first feed : InletState)
    (rows : List TracedRow) : Type 0 where
  pub bytes : List Stamped
  pub given : HasGiven feed first.peer bytes
  pub items : items_of kind limit bytes ≡ items_in rows
  pub over : (feed.ended ≡ true) ⊎ IsBadForm (open_of kind limit bytes)

pub record AreWholeRows (kind : FrameKind) (limit : ℕ) (first feed : InletState)
    (rows : List TracedRow) : Type 0 where
  pub bytes : List Stamped
  pub given : HasGiven feed first.peer bytes
  pub items : items_of kind limit bytes ≡ items_in rows

-- when each answer comes, behind these rows; lack of memory is free
abbrev pub TraceEnds : FrameKind → ℕ → InletState → InletState → WorldState → WorldState
    → List TracedRow
    → Result Unit Untraced → Type 0
TraceEnds kind limit first feed world world' rows (Ok done) = AreAll kind limit first feed rows
TraceEnds kind limit first feed world world' rows (Err InletFault) =
    AreWholeRows kind limit first feed rows × Rose first.faults feed.faults
TraceEnds kind limit first feed world world' rows (Err RoundsSpent) =
    AreWholeRows kind limit first feed rows × (feed.pulls ≡ 2 ^ 36) × (feed.ended ≡ false)
    × (2 ^ 36 < feed.bytes + feed.parts + feed.idles)
TraceEnds kind limit first feed world world' rows (Err SayFault) = Rose world.say_faults
    world'.say_faults
TraceEnds kind limit first feed world world' rows (Err NoMemory) = Unit {0}
TraceEnds kind limit first feed world world' rows (Err NotOpened) = ⊥

-- it is so, but where saying failed or memory ran out
abbrev pub UnlessTraceUnsaid : Result Unit Untraced → Type 0 → Type 0
UnlessTraceUnsaid (Ok done) P = P
UnlessTraceUnsaid (Err NotOpened) P = P
UnlessTraceUnsaid (Err InletFault) P = P
UnlessTraceUnsaid (Err RoundsSpent) P = P
UnlessTraceUnsaid (Err SayFault) P = Unit {0}
UnlessTraceUnsaid (Err NoMemory) P = Unit {0}

-- an open file was traced up to these rows, whose lines were said or are the text
pub record TracesOpen (offering : Offering) (targets : List SentForm) (kind : FrameKind) (limit : ℕ)
    (first feed : InletState) (world world' : WorldState) (text : List ℕ)
    (result : Result Unit Untraced) (rows : List TracedRow) : Type 0 where
  pub later : first.faults ≤ feed.faults
  pub says : OnlySays world world'
  pub offered : AreOffered offering first.peer rows
  pub said : UnlessTraceUnsaid result (SaidSome world world' (rows_text targets 0 rows) text)
  pub ends : TraceEnds kind limit first feed world world' rows result

abbrev pub TracesTo : Offering → List SentForm → FrameKind → ℕ → InletState → InletState
    → WorldState
    → WorldState → List ℕ → Result Unit Untraced → Type 0
TracesTo offering targets kind limit first feed world world' text result =
    (rows : List TracedRow)
    × TracesOpen offering targets kind limit first feed world world' text result rows

-- what is said behind the rows
abbrev pub end_text : Result Unit Untraced → List ℕ
end_text (Ok done) = []
end_text (Err NotOpened) = unopened_line (codes "inlet") 0
end_text (Err InletFault) = codes "inlet 0 failed\n"
end_text (Err RoundsSpent) = []
end_text (Err SayFault) = []
end_text (Err NoMemory) = []

-- The text and the end were said, but where saying had failed before; or saying failed now, or memory ran out.
pub record EndsTracing (old new : WorldState) (text : List ℕ)
    (traced result : Result Unit Untraced) : Type 0 where
  pub says : OnlySays old new
  pub ends : ((result ≡ traced) × UnlessTraceUnsaid traced
      (SaidText old new (text ++ end_text traced)))
      ⊎ (((result ≡ Err SayFault) × Rose old.say_faults new.say_faults) ⊎ (result ≡ Err NoMemory))

-- the inlet, as it was opened and as it was closed
pub record Feed : Type 0 where
  pub opened : InletState
  pub closed : InletState

-- the file, which is read from its beginning up to its end
abbrev pub spec_of : List ℕ → ℕ → InletSpec
spec_of input limit = File input true limit

-- the ledger with that inlet opened and closed, where it was
abbrev pub read_inlets : Ledger InletSpec InletState → InletSpec → Option Feed
    → Ledger InletSpec InletState
read_inlets ledger spec None = ledger
read_inlets ledger spec (Some feed) = with_closed (with_opened ledger spec feed.opened) feed.closed

abbrev pub IfFeedOpened : Option Feed → (Feed → Type 0) → Type 0
IfFeedOpened None P = Unit {0}
IfFeedOpened (Some feed) P = P feed

-- when each answer comes
abbrev pub HasTracingCause : FrameKind → ℕ → WorldState → WorldState → Option Feed → List TracedRow
    → Result Unit Untraced → Type 0
HasTracingCause kind limit old new (Some feed) rows result =
    TraceEnds kind limit feed.opened feed.closed
    old new rows result
HasTracingCause kind limit old new None rows (Ok done) = ⊥
HasTracingCause kind limit old new None rows (Err NotOpened) = (rows ≡ [])
    × Rose old.inlet_faults new.inlet_faults
HasTracingCause kind limit old new None rows (Err InletFault) = ⊥
HasTracingCause kind limit old new None rows (Err RoundsSpent) = ⊥
HasTracingCause kind limit old new None rows (Err SayFault) = Rose old.say_faults new.say_faults
HasTracingCause kind limit old new None rows (Err NoMemory) = Unit {0}

-- no count of faults rose, the file was never idle, and it gave fewer bytes than there are pulls
pub record TracesUntroubled (old new : WorldState) (feed : Option Feed) : Type 0 where
  pub opening : ¬ Rose old.inlet_faults new.inlet_faults
  pub say : ¬ Rose old.say_faults new.say_faults
  pub inlet : IfFeedOpened feed (λ f. (¬ Rose f.opened.faults f.closed.faults)
      × (f.closed.bytes + f.closed.parts + f.closed.idles ≤ 2 ^ 36))

-- all was said, or memory ran out
abbrev pub WasTraced : Result Unit Untraced → Type 0
WasTraced (Ok done) = Unit {0}
WasTraced (Err NoMemory) = Unit {0}
WasTraced (Err NotOpened) = ⊥
WasTraced (Err InletFault) = ⊥
WasTraced (Err RoundsSpent) = ⊥
WasTraced (Err SayFault) = ⊥

-- the file was traced up to these rows
pub record TracesBy (offering : Offering) (targets : List SentForm) (kind : FrameKind) (limit : ℕ)
    (old new : WorldState) (input : List ℕ) (result : Result Unit Untraced) (feed : Option Feed)
    (rows : List TracedRow) : Type 0 where
  -- nothing but that file was opened, and it was closed
  pub state : new ≡ record old {
    inlets = read_inlets old.inlets (spec_of input limit) feed;
    inlet_faults = new.inlet_faults;
    say_faults = new.say_faults;
    said = new.said;
  }
  pub inlet_later : old.inlet_faults ≤ new.inlet_faults
  pub say_later : old.say_faults ≤ new.say_faults
  pub begun : IfFeedOpened feed
      (λ f. IsFresh f.opened × StandsIn old.files (spec_of input limit) 0 f.opened)
  -- the offers said are those of the records, each record alone
  pub offered : IfFeedOpened feed (λ f. AreOffered offering f.opened.peer rows)
  pub cause : HasTracingCause kind limit old new feed rows result
  pub said : UnlessTraceUnsaid result
      (SaidText old new (rows_text targets 0 rows ++ end_text result))
  -- no trouble gives success, where memory is there
  pub complete : TracesUntroubled old new feed → WasTraced result

abbrev pub Traces : Offering → List SentForm → FrameKind → ℕ → WorldState → WorldState → List ℕ
    → Result Unit Untraced → Type 0
Traces offering targets kind limit old new input result =
    (feed : Option Feed)
    × ((rows : List TracedRow) × TracesBy offering targets kind limit old new input result feed
    rows)
