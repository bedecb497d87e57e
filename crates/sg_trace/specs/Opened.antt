-- How far a trace came.
use Rattle.std.specs.Prelude.{◌≡◌, ◌≤◌, ℕ, ◌+◌, List, [], length, true, false}
use Rattle.sg_device.specs.Inlet.{InletState, IsFresh}
use Rattle.sg_frame.specs.declared.kind.FrameKind.{FrameKind}
use Rattle.sg_frame.specs.Framing.{fresh, items_left}
use Rattle.sg_outside.specs.World.{WorldState}
use Rattle.sg_trace.specs.declared.target.SentForm.{SentForm}
use Rattle.sg_trace.specs.declared.tracer.Tracer.{Tracer}
use Rattle.sg_trace.specs.Reading.{ReadsTraced}
use Rattle.sg_trace.specs.Rows.{TracedRow, Offering, AreOffered, items_in, rows_text}
use Rattle.sg_output.specs.Saying.{OnlySays, SaidSome}

-- a file from its beginning, of which nothing was read
pub record IsTraceBegun (kind : FrameKind) (limit : ℕ) (feed : InletState)
    (tracer : Tracer) : Type 0 where
  pub fresh_feed : IsFresh feed
  pub from : feed.from ≡ 0
  pub parts : feed.parts ≡ 1
  pub single : feed.single ≡ true
  pub framer : tracer.framer ≡ fresh kind limit
  pub number : tracer.number ≡ 0
  pub text : tracer.text.items ≡ []

-- these rows were traced, and no whole item is left
pub record TracedSo (offering : Offering) (targets : List SentForm) (kind : FrameKind) (limit : ℕ)
    (first feed : InletState) (world world' : WorldState) (tracer : Tracer) (pulls : ℕ)
    (rows : List TracedRow) : Type 0 where
  pub reads : ReadsTraced kind limit first feed tracer.framer (items_in rows)
  pub none : items_left tracer.framer ≡ []
  pub going : feed.ended ≡ false
  pub pulled : feed.pulls ≡ pulls
  pub brought : pulls + 1 ≤ feed.bytes + feed.parts + feed.idles
  pub offered : AreOffered offering first.peer rows
  pub count : tracer.number ≡ length rows
  pub says : OnlySays world world'
  pub said : SaidSome world world' (rows_text targets 0 rows) tracer.text.items

abbrev pub IsTracing : Offering → List SentForm → FrameKind → ℕ → InletState → InletState
    → WorldState
    → WorldState → Tracer → ℕ → Type 0
IsTracing offering targets kind limit first feed world world' tracer pulls =
    (rows : List TracedRow)
    × TracedSo offering targets kind limit first feed world world' tracer pulls rows
