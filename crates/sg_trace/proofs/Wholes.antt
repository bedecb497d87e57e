-- The whole of a trace.
use Rattle.std.proofs.Common.{◌≡◌, inl, inr, ◌≤◌, ℕ, Bool, true, false, List, [], ◌++◌, Option, Some, None, Result, Ok, Err, refl, sym, ap, ◌∙◌, subst, arith}
use Rattle.std.specs.Prelude.{cond}
use Rattle.std.specs.Option.{option_map}
use Rattle.sg_device.specs.Faults.{Rose}
use Rattle.sg_device.specs.Inlet.{InletState, IsFresh}
use Rattle.sg_frame.specs.declared.kind.FrameKind.{FrameKind}
use Rattle.sg_frame.specs.Framing.{fresh}
use Rattle.sg_outside.specs.World.{WorldState, Files, LeavesFile, StandsIn, InletOpens, ClosesInlet, with_opened, with_closed}
use Rattle.sg_outside.specs.declared.request.InletSpec.{InletSpec}
use Rattle.sg_trace.specs.declared.target.SentForm.{SentForm}
use Rattle.sg_trace.specs.declared.tracer.Tracer.{Tracer}
use Rattle.sg_trace.specs.declared.untraced.Untraced.{Untraced}
use Rattle.sg_trace.specs.declared.untraced.Untraced.TheVariants.{NotOpened, InletFault, RoundsSpent, SayFault, NoMemory}
use Rattle.sg_trace.specs.Rows.{TracedRow, Offering, AreOffered, rows_text}
use Rattle.sg_output.specs.Saying.{OnlySays, SaidText, SaidSome}
use Rattle.sg_trace.specs.Traces.{TraceEnds, UnlessTraceUnsaid, TracesOpen, TracesTo, EndsTracing, Feed, spec_of, end_text, HasTracingCause, TracesUntroubled, WasTraced, TracesBy, Traces}
use Rattle.sg_trace.specs.Opened.{IsTraceBegun}
use Rattle.sg_output.proofs.Sayings.{rose-later, rose-on, only-says-then, all-said}

-- a file is read from its beginning
either-same : (b : Bool) (n : ℕ) → cond b n n ≡ n
either-same true n = refl
either-same false n = refl

leaves-zero : (files : Option Files) (path : List ℕ) (limit : ℕ) (feed : InletState) → LeavesFile files path limit 0 feed → feed.place ≡ 0
leaves-zero None path limit feed h = elim h [ inl e ↦ e | inr e ↦ e ]
leaves-zero (Some files) path limit feed h = h.1.1.0 ∙ either-same _ 0

pub begins : (kind : FrameKind) (files : Option Files) (input : List ℕ) (limit : ℕ) (feed : InletState) (tracer : Tracer) → IsFresh feed → StandsIn files (spec_of input limit) 0 feed
    → tracer.framer ≡ fresh kind limit → tracer.number ≡ 0 → tracer.text.items ≡ [] → IsTraceBegun kind limit feed tracer
begins kind files input limit feed tracer new stands framer number text = record {
  fresh_feed = new;
  from = sym new.at_from ∙ leaves-zero files input limit feed stands.0;
  parts = stands.1;
  single = stands.2;
  framer = framer;
  number = number;
  text = text;
}

unless-said : (a b c : WorldState) (lines text : List ℕ) (traced : Result Unit Untraced) → UnlessTraceUnsaid traced (SaidSome a b lines text) → UnlessTraceUnsaid traced (SaidText b c (text ++ end_text traced))
    → UnlessTraceUnsaid traced (SaidText a c (lines ++ end_text traced))
unless-said a b c lines text (Ok done) h k = all-said a b c lines text (end_text (Ok done)) h k
unless-said a b c lines text (Err NotOpened) h k = all-said a b c lines text (end_text (Err NotOpened)) h k
unless-said a b c lines text (Err InletFault) h k = all-said a b c lines text (end_text (Err InletFault)) h k
unless-said a b c lines text (Err RoundsSpent) h k = all-said a b c lines text (end_text (Err RoundsSpent)) h k
unless-said a b c lines text (Err SayFault) h k = tt
unless-said a b c lines text (Err NoMemory) h k = tt

-- the answer's cause, which is told of the machine before the file was opened and behind its end
caused : (kind : FrameKind) (limit : ℕ) (first feed : InletState) (a b old new : WorldState) (rows : List TracedRow) (traced : Result Unit Untraced) → a.say_faults ≡ old.say_faults → b.say_faults ≤ new.say_faults
    → TraceEnds kind limit first feed a b rows traced → TraceEnds kind limit first feed old new rows traced
caused kind limit first feed a b old new rows (Ok done) from to h = h
caused kind limit first feed a b old new rows (Err NotOpened) from to h = h
caused kind limit first feed a b old new rows (Err InletFault) from to h = h
caused kind limit first feed a b old new rows (Err RoundsSpent) from to h = h
caused kind limit first feed a b old new rows (Err SayFault) from to h = rose-on old.say_faults b.say_faults new.say_faults (subst (λ (n : ℕ). Rose n b.say_faults) from h) to
caused kind limit first feed a b old new rows (Err NoMemory) from to h = tt

-- the open file's part, and what is said at its end
pub record ClosesWhole (offering : Offering) (targets : List SentForm) (kind : FrameKind) (limit : ℕ) (first feed : InletState) (a c : WorldState) (result : Result Unit Untraced) (rows : List TracedRow) : Type 0 where
  pub says : OnlySays a c
  pub offered : AreOffered offering first.peer rows
  pub said : UnlessTraceUnsaid result (SaidText a c (rows_text targets 0 rows ++ end_text result))
  pub ends : TraceEnds kind limit first feed a c rows result

pub closes : (offering : Offering) (targets : List SentForm) (kind : FrameKind) (limit : ℕ) (first feed : InletState) (a b c : WorldState) (text : List ℕ) (traced result : Result Unit Untraced) (rows : List TracedRow)
    → TracesOpen offering targets kind limit first feed a b text traced rows → EndsTracing b c text traced result → ClosesWhole offering targets kind limit first feed a c result rows
closes offering targets kind limit first feed a b c text traced result rows o e =
    let says = only-says-then a b c o.says e.says in
    elim e.ends [
      | inl h ↦
          let mine : ClosesWhole offering targets kind limit first feed a c traced rows = record {
            says = says;
            offered = o.offered;
            said = unless-said a b c (rows_text targets 0 rows) text traced o.said h.1;
            ends = caused kind limit first feed a b a c rows traced refl e.says.later o.ends;
          } in
          subst (λ (r : Result Unit Untraced). ClosesWhole offering targets kind limit first feed a c r rows) (sym h.0) mine
      | inr (inl h) ↦
          let mine : ClosesWhole offering targets kind limit first feed a c (Err SayFault) rows = record {
            says = says;
            offered = o.offered;
            said = tt;
            ends = rose-later a.say_faults b.say_faults c.say_faults o.says.later h.1;
          } in
          subst (λ (r : Result Unit Untraced). ClosesWhole offering targets kind limit first feed a c r rows) (sym h.0) mine
      | inr (inr h) ↦
          let mine : ClosesWhole offering targets kind limit first feed a c (Err NoMemory) rows = record {
            says = says;
            offered = o.offered;
            said = tt;
            ends = tt;
          } in
          subst (λ (r : Result Unit Untraced). ClosesWhole offering targets kind limit first feed a c r rows) (sym h) mine
    ]

-- from the opening to the closing
said-from : (result : Result Unit Untraced) (a old c new : WorldState) (text : List ℕ) → a.said ≡ old.said → new.said ≡ c.said → UnlessTraceUnsaid result (SaidText a c text) → UnlessTraceUnsaid result (SaidText old new text)
said-from (Ok done) a old c new text from to h = to ∙ h ∙ ap (option_map (λ said. said ++ text)) from
said-from (Err NotOpened) a old c new text from to h = to ∙ h ∙ ap (option_map (λ said. said ++ text)) from
said-from (Err InletFault) a old c new text from to h = to ∙ h ∙ ap (option_map (λ said. said ++ text)) from
said-from (Err RoundsSpent) a old c new text from to h = to ∙ h ∙ ap (option_map (λ said. said ++ text)) from
said-from (Err SayFault) a old c new text from to h = tt
said-from (Err NoMemory) a old c new text from to h = tt

all-same : (old a c new : WorldState) (spec : InletSpec) (first feed : InletState) → a ≡ record old { inlet_faults = a.inlet_faults; inlets = with_opened old.inlets spec first }
    → c ≡ record a { say_faults = c.say_faults; said = c.said } → new ≡ record c { inlets = with_closed c.inlets feed }
    → new ≡ record old { inlets = with_closed (with_opened old.inlets spec first) feed; inlet_faults = new.inlet_faults; say_faults = new.say_faults; said = new.said }
all-same old a c new spec first feed ea ec en =
    let faults : c.inlet_faults ≡ new.inlet_faults = sym (ap (λ (w : WorldState). w.inlet_faults) en) in
    let says : c.say_faults ≡ new.say_faults = sym (ap (λ (w : WorldState). w.say_faults) en) in
    let told : c.said ≡ new.said = sym (ap (λ (w : WorldState). w.said) en) in
    let here : c.inlet_faults ≡ a.inlet_faults = ap (λ (w : WorldState). w.inlet_faults) ec in
    en
    ∙ ap (λ (w : WorldState). record w { inlets = with_closed w.inlets feed }) ec
    ∙ ap (λ (w : WorldState). record w { say_faults = c.say_faults; said = c.said; inlets = with_closed w.inlets feed }) ea
    ∙ (λ i. record old { inlets = with_closed (with_opened old.inlets spec first) feed; inlet_faults = (sym here ∙ faults) i; say_faults = says i; said = told i })

completes : (kind : FrameKind) (limit : ℕ) (first feed : InletState) (old new : WorldState) (rows : List TracedRow) (result : Result Unit Untraced) → TraceEnds kind limit first feed old new rows result
    → TracesUntroubled old new (Some (record { opened = first; closed = feed })) → WasTraced result
completes kind limit first feed old new rows (Ok done) h u = tt
completes kind limit first feed old new rows (Err NotOpened) h u = h
completes kind limit first feed old new rows (Err InletFault) h u = u.inlet.0 h.1
completes kind limit first feed old new rows (Err RoundsSpent) h u = (let few = u.inlet.1 in let many = h.3 in omega (arith, few, many))
completes kind limit first feed old new rows (Err SayFault) h u = u.say h
completes kind limit first feed old new rows (Err NoMemory) h u = tt

unopened-complete : (kind : FrameKind) (limit : ℕ) (old new : WorldState) (rows : List TracedRow) (result : Result Unit Untraced) → HasTracingCause kind limit old new None rows result → TracesUntroubled old new None → WasTraced result
unopened-complete kind limit old new rows (Ok done) h u = tt
unopened-complete kind limit old new rows (Err NotOpened) h u = u.opening h.1
unopened-complete kind limit old new rows (Err InletFault) h u = h
unopened-complete kind limit old new rows (Err RoundsSpent) h u = h
unopened-complete kind limit old new rows (Err SayFault) h u = u.say h
unopened-complete kind limit old new rows (Err NoMemory) h u = tt

pub traces-file : (offering : Offering) (targets : List SentForm) (kind : FrameKind) (limit : ℕ) (old a b c new : WorldState) (input : List ℕ) (first feed : InletState) (place : ℕ) (text : List ℕ) (traced result : Result Unit Untraced)
    → InletOpens old a (spec_of input limit) 0 first place → TracesTo offering targets kind limit first feed a b text traced → EndsTracing b c text traced result → ClosesInlet c new feed
    → Traces offering targets kind limit old new input result
traces-file offering targets kind limit old a b c new input first feed place text traced result opens (rows, o) e shut =
    let done = closes offering targets kind limit first feed a b c text traced result rows o e in
    let f : Feed = record { opened = first; closed = feed } in
    let from : a.say_faults ≡ old.say_faults = ap (λ (w : WorldState). w.say_faults) opens.0 in
    let to : new.say_faults ≡ c.say_faults = ap (λ (w : WorldState). w.say_faults) shut in
    let told : a.said ≡ old.said = ap (λ (w : WorldState). w.said) opens.0 in
    let telling : new.said ≡ c.said = ap (λ (w : WorldState). w.said) shut in
    let counts : new.inlet_faults ≡ a.inlet_faults = ap (λ (w : WorldState). w.inlet_faults) shut ∙ ap (λ (w : WorldState). w.inlet_faults) done.says.same in
    let same : new ≡ record old { inlets = with_closed (with_opened old.inlets (spec_of input limit) first) feed; inlet_faults = new.inlet_faults; say_faults = new.say_faults; said = new.said } =
    all-same old a c new (spec_of input limit) first feed opens.0 done.says.same shut in
    let why = caused kind limit first feed a c old new rows result from (omega (arith, to)) done.ends in
    let by : TracesBy offering targets kind limit old new input result (Some f) rows = record {
      state = same;
      inlet_later = omega (arith, opens.1, counts);
      say_later = omega (arith, from, to, done.says.later);
      begun = (opens.2, opens.4);
      offered = done.offered;
      cause = why;
      complete = completes kind limit first feed old new rows result why;
      said = said-from result a old c new (rows_text targets 0 rows ++ end_text result) told telling done.said;
    } in
    (Some f, (rows, by))

-- it couldn't be opened
pub traces-unopened : (offering : Offering) (targets : List SentForm) (kind : FrameKind) (limit : ℕ) (old a new : WorldState) (input text : List ℕ) (result : Result Unit Untraced) → text ≡ []
    → (a ≡ record old { inlet_faults = a.inlet_faults }) × (old.inlet_faults ≤ a.inlet_faults) × Rose old.inlet_faults a.inlet_faults → EndsTracing a new text (Err NotOpened) result
    → Traces offering targets kind limit old new input result
traces-unopened offering targets kind limit old a new input text result none refused e =
    let from : a.say_faults ≡ old.say_faults = ap (λ (w : WorldState). w.say_faults) refused.0 in
    let told : a.said ≡ old.said = ap (λ (w : WorldState). w.said) refused.0 in
    let counts : new.inlet_faults ≡ a.inlet_faults = ap (λ (w : WorldState). w.inlet_faults) e.says.same in
    let same : new ≡ record old { inlets = old.inlets; inlet_faults = new.inlet_faults; say_faults = new.say_faults; said = new.said } =
    e.says.same ∙ ap (λ (w : WorldState). record w { say_faults = new.say_faults; said = new.said }) refused.0
    ∙ (λ i. record old { inlet_faults = (sym counts) i; say_faults = new.say_faults; said = new.said }) in
    let by : (r : Result Unit Untraced) → HasTracingCause kind limit old new None [] r → UnlessTraceUnsaid r (SaidText old new (end_text r)) → TracesBy offering targets kind limit old new input r None [] =
    λ r cause said. record {
      state = same;
      inlet_later = omega (arith, refused.1, counts);
      say_later = omega (arith, from, e.says.later);
      begun = tt;
      offered = tt;
      cause = cause;
      said = said;
      complete = unopened-complete kind limit old new [] r cause;
    } in
    elim e.ends [
      | inl h ↦
          let said : SaidText a new ([] ++ end_text (Err NotOpened)) = subst (λ (t : List ℕ). SaidText a new (t ++ end_text (Err NotOpened))) none h.1 in
          subst (λ (r : Result Unit Untraced). Traces offering targets kind limit old new input r) (sym h.0)
          (None, ([], by (Err NotOpened) (refl, subst (λ (n : ℕ). Rose old.inlet_faults n) (sym counts) refused.2) (said-from (Err NotOpened) a old new new (end_text (Err NotOpened)) told refl said)))
      | inr (inl h) ↦
          subst (λ (r : Result Unit Untraced). Traces offering targets kind limit old new input r) (sym h.0)
          (None, ([], by (Err SayFault) (subst (λ (n : ℕ). Rose n new.say_faults) from h.1) tt))
      | inr (inr h) ↦
          subst (λ (r : Result Unit Untraced). Traces offering targets kind limit old new input r) (sym h)
          (None, ([], by (Err NoMemory) tt tt))
    ]

-- there was no memory to begin
pub traces-none : (offering : Offering) (targets : List SentForm) (kind : FrameKind) (limit : ℕ) (old : WorldState) (input : List ℕ) → Traces offering targets kind limit old old input (Err NoMemory)
traces-none offering targets kind limit old input =
    let by : TracesBy offering targets kind limit old old input (Err NoMemory) None [] = record {
      state = refl;
      inlet_later = omega arith;
      say_later = omega arith;
      begun = tt;
      offered = tt;
      cause = tt;
      said = tt;
      complete = λ u. tt;
    } in
    (None, ([], by))
