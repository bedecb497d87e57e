-- How items of a file become rows.
use Rattle.std.specs.Prelude.{◌≡◌, ◌≤◌, ℕ, ◌+◌, List, [], ◌++◌, length, Bool, true, false}
use Rattle.sg_frame.specs.Framing.{Framing, GoesOnFraming, items_left, open_left, fed}
use Rattle.sg_frame.specs.Items.{Item, Form, Text, Count, Body, Bad}
use Rattle.sg_trace.specs.declared.target.SentForm.{SentForm}
use Rattle.sg_trace.specs.declared.tracer.Tracer.{Tracer}
use Rattle.sg_trace.specs.Rows.{TracedRow, Offering, AreOffered, items_in, rows_text}
use Rattle.sg_frame.specs.Timely.{AreTimely}

-- the framer gave these items
pub record PassesItems (old new : Framing) (items : List Item) : Type 0 where
  pub history : GoesOnFraming old new [] items
  pub same_kind : new.kind ≡ old.kind
  pub same_limit : new.limit ≡ old.limit
  pub same_fed : fed new ≡ fed old
  pub later : old.place + length items ≤ new.place
  pub timely : AreTimely old.held → AreTimely new.held

-- the items became these rows, whose lines were appended
pub record TakesBy (offering : Offering) (targets : List SentForm) (peer : List ℕ)
    (old new : Tracer) (rows : List TracedRow) : Type 0 where
  pub passes : PassesItems old.framer new.framer (items_in rows)
  pub offered : AreOffered offering peer rows
  pub said : new.text.items ≡ old.text.items ++ rows_text targets old.number rows
  pub count : new.number ≡ old.number + length rows

abbrev pub TakesItems : Offering → List SentForm → List ℕ → Tracer → Tracer → Type 0
TakesItems offering targets peer old new =
    (rows : List TracedRow) × TakesBy offering targets peer old new rows

-- nothing behind it is an item
abbrev pub IsBadForm : Form → Type 0
IsBadForm (Text line) = ⊥
IsBadForm (Count value) = ⊥
IsBadForm (Body missing text) = ⊥
IsBadForm (Bad place) = Unit {0}

abbrev pub IsBadIf : Bool → Form → Type 0
IsBadIf true form = IsBadForm form
IsBadIf false form = Unit {0}

-- no whole item is left, and a bad count stands there or not
pub record IsFramingDone (bad : Bool) (f : Framing) : Type 0 where
  pub none : items_left f ≡ []
  pub bad_count : IsBadIf bad (open_left f)

abbrev pub TakesAllItems : Offering → List SentForm → List ℕ → Tracer → Tracer → Bool → Type 0
TakesAllItems offering targets peer old new bad = TakesItems offering targets peer old new
    × IsFramingDone bad new.framer
