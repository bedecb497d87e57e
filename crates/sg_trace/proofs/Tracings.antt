-- The trace of an open file, pull after pull.
use Rattle.std.proofs.Common.{◌≡◌, ◌≤◌, ◌<◌, ◌+◌, ◌^◌, ℕ, List, [], ◌++◌, length, Bool, true, false, Ok, Err, inl, inr, sym, ap, ◌∙◌, subst, arith, length-append}
use Rattle.std.proofs.lemmas.List.{append-nil}
use Rattle.sg_device.specs.Inlet.{Stamped, InletState}
use Rattle.sg_frame.specs.declared.kind.FrameKind.{FrameKind}
use Rattle.sg_frame.specs.Framing.{Framing, HasFramed, items_left, open_left}
use Rattle.sg_frame.specs.Items.{Item}
use Rattle.sg_outside.specs.World.{WorldState}
use Rattle.sg_trace.specs.declared.target.SentForm.{SentForm}
use Rattle.sg_trace.specs.declared.tracer.Tracer.{Tracer}
use Rattle.sg_trace.specs.declared.untraced.Untraced.{Untraced}
use Rattle.sg_trace.specs.declared.untraced.Untraced.TheVariants.{NotOpened, InletFault, RoundsSpent, SayFault, NoMemory}
use Rattle.sg_trace.specs.Pulling.{PullsTraced}
use Rattle.sg_trace.specs.Reading.{ReadsSo, ReadsTraced}
use Rattle.sg_trace.specs.Rows.{Offering, AreOffered, items_in, rows_text}
use Rattle.sg_output.specs.Saying.{OnlySays, SaidSome}
use Rattle.sg_trace.specs.Saying.{SaysSomeTraced}
use Rattle.sg_trace.specs.Taking.{IsBadForm, TakesAllItems}
use Rattle.sg_trace.specs.Traces.{AreAll, AreWholeRows, TracesOpen, TracesTo}
use Rattle.sg_trace.specs.Opened.{IsTraceBegun, TracedSo, IsTracing}
use Rattle.sg_trace.proofs.Readings.{reads-begun, whole-items, open-form}
use Rattle.sg_output.proofs.Sayings.{rose-later, says-none, only-says-none, only-says-then, some-then, some-more}
use Rattle.sg_trace.proofs.Takings.{items-append, offered-append, rows-append}

module _ (offering : Offering) (targets : List SentForm) (kind : FrameKind) (limit : ℕ) (first : InletState) (world : WorldState) where
  pub tracing-begun : (tracer : Tracer) → IsTraceBegun kind limit first tracer → IsTracing offering targets kind limit first first world world tracer 0
  tracing-begun tracer b =
      let so : TracedSo offering targets kind limit first first world world tracer 0 [] = record {
        reads = reads-begun kind limit first tracer.framer b.fresh_feed b.from b.parts b.single b.framer;
        none = ap items_left b.framer;
        going = b.fresh_feed.ended;
        pulled = b.fresh_feed.pulls;
        brought = omega (arith, b.parts);
        offered = tt;
        count = b.number;
        says = only-says-none world;
        said = ([], (says-none world, b.text));
      } in
      ([], so)

  module _ (feed : InletState) (now : WorldState) (tracer : Tracer) (pulls : ℕ) where
    -- lack of memory
    pub traces-lacking : (feed' : InletState) (later : WorldState) (text : List ℕ) → IsTracing offering targets kind limit first feed world now tracer pulls → feed.faults ≤ feed'.faults → OnlySays now later
        → TracesTo offering targets kind limit first feed' world later text (Err NoMemory)
    traces-lacking feed' later text (rows, so) faults says =
        let opened : TracesOpen offering targets kind limit first feed' world later text (Err NoMemory) [] = record {
          later = omega (arith, so.reads.1.later, faults);
          says = only-says-then world now later so.says says;
          offered = tt;
          said = tt;
          ends = tt;
        } in
        ([], opened)

    -- the file has ended
    pub traces-ended : (feed' : InletState) (f' : Framing) → IsTracing offering targets kind limit first feed world now tracer pulls → feed.faults ≤ feed'.faults → PullsTraced feed feed' tracer.framer f' (Ok true)
        → TracesTo offering targets kind limit first feed' world now tracer.text.items (Ok tt)
    traces-ended feed' f' (rows, so) faults pull =
        let done = pull kind limit first (items_in rows) so.reads in
        let (bytes, h) = done.0 in
        let none : items_left f' ≡ [] = ap items_left done.2 ∙ so.none in
        let all : AreAll kind limit first feed' rows = record { bytes = bytes; given = h.given; items = whole-items kind limit first feed' f' (items_in rows) bytes h none; over = inl done.1 } in
        let opened : TracesOpen offering targets kind limit first feed' world now tracer.text.items (Ok tt) rows = record {
          later = omega (arith, so.reads.1.later, faults);
          says = so.says;
          offered = so.offered;
          said = so.said;
          ends = all;
        } in
        (rows, opened)

    -- a pull failed, or there was no memory to feed what it brought
    pub traces-failed : (feed' : InletState) (f' : Framing) (why : Untraced) → IsTracing offering targets kind limit first feed world now tracer pulls → feed.faults ≤ feed'.faults → PullsTraced feed feed' tracer.framer f' (Err why)
        → TracesTo offering targets kind limit first feed' world now tracer.text.items (Err why)
    traces-failed feed' f' NotOpened (rows, so) faults pull = absurd (pull kind limit first (items_in rows) so.reads)
    traces-failed feed' f' RoundsSpent (rows, so) faults pull = absurd (pull kind limit first (items_in rows) so.reads)
    traces-failed feed' f' SayFault (rows, so) faults pull = absurd (pull kind limit first (items_in rows) so.reads)
    traces-failed feed' f' NoMemory tracing faults pull = traces-lacking feed' now tracer.text.items tracing faults (only-says-none now)
    traces-failed feed' f' InletFault (rows, so) faults pull =
        let done = pull kind limit first (items_in rows) so.reads in
        let (bytes, h) = done.0 in
        let none : items_left f' ≡ [] = ap items_left done.1 ∙ so.none in
        let whole : AreWholeRows kind limit first feed' rows = record { bytes = bytes; given = h.given; items = whole-items kind limit first feed' f' (items_in rows) bytes h none } in
        let opened : TracesOpen offering targets kind limit first feed' world now tracer.text.items (Err InletFault) rows = record {
          later = omega (arith, so.reads.1.later, faults);
          says = so.says;
          offered = so.offered;
          said = so.said;
          ends = (whole, rose-later first.faults feed.faults feed'.faults so.reads.1.later done.2);
        } in
        (rows, opened)

    -- bytes came, and their items were taken
    pub tracing-taken : (feed' : InletState) (f' : Framing) (new : Tracer) (bad : Bool) (peer : List ℕ) → IsTracing offering targets kind limit first feed world now tracer pulls → PullsTraced feed feed' tracer.framer f' (Ok false)
        → peer ≡ feed'.peer → TakesAllItems offering targets peer (record tracer { framer = f' }) new bad → IsTracing offering targets kind limit first feed' world now new (pulls + 1)
    tracing-taken feed' f' new bad peer (rows, so) pull same takes =
        let done = pull kind limit first (items_in rows) so.reads in
        let (bytes, h) = done.0 in
        let (more, by) = takes.0 in
        let all = rows ++ more in
        let p = by.passes in
        let reads : ReadsSo kind limit first feed' new.framer (items_in all) bytes = record {
          framed = subst (λ (i : List Item). HasFramed bytes i new.framer) (sym (items-append rows more))
              (subst (λ (b : List Stamped). HasFramed b (items_in rows ++ items_in more) new.framer) (append-nil bytes) (p.history bytes (items_in rows) h.framed));
          same_kind = p.same_kind ∙ h.same_kind;
          same_limit = p.same_limit ∙ h.same_limit;
          given = h.given;
          peer = h.peer;
          place = h.place ∙ sym p.same_fed;
          range = h.range;
          single = h.single;
          timely = p.timely h.timely;
          later = h.later;
          fewer = omega (arith, h.fewer, p.later, ap (λ (i : List Item). length i) (items-append rows more), length-append (items_in rows) (items_in more));
        } in
        let number : tracer.number ≡ 0 + length rows = omega (arith, so.count) in
        let text : new.text.items ≡ tracer.text.items ++ rows_text targets (0 + length rows) more = by.said ∙ ap (λ n. tracer.text.items ++ rows_text targets n more) number in
        let said : SaidSome world now (rows_text targets 0 rows ++ rows_text targets (0 + length rows) more) (tracer.text.items ++ rows_text targets (0 + length rows) more) = some-more world now (rows_text targets 0 rows) tracer.text.items (rows_text targets (0 + length rows) more) so.said in
        let traced : TracedSo offering targets kind limit first feed' world now new (pulls + 1) all = record {
          reads = (bytes, reads);
          none = takes.1.none;
          going = done.1;
          pulled = omega (arith, done.2.0, so.pulled);
          brought = omega (arith, done.2.1, so.brought);
          offered = offered-append offering first.peer rows more so.offered (subst (λ (x : List ℕ). AreOffered offering x more) (same ∙ h.peer) by.offered);
          count = omega (arith, by.count, so.count, length-append rows more);
          says = so.says;
          said = subst (λ (x : List ℕ). SaidSome world now (rows_text targets 0 all) x) (sym text) (subst (λ (x : List ℕ). SaidSome world now x (tracer.text.items ++ rows_text targets (0 + length rows) more)) (sym (rows-append targets 0 rows more)) said);
        } in
        (all, traced)

    -- some of the text was said
    pub tracing-said : (later : WorldState) (new : Tracer) → IsTracing offering targets kind limit first feed world now tracer pulls → OnlySays now later → SaysSomeTraced now later tracer.text.items new.text.items (Ok tt)
        → new.framer ≡ tracer.framer → new.number ≡ tracer.number → IsTracing offering targets kind limit first feed world later new pulls
    tracing-said later new (rows, so) says said framer number =
        let traced : TracedSo offering targets kind limit first feed world later new pulls rows = record {
          reads = subst (λ (f : Framing). ReadsTraced kind limit first feed f (items_in rows)) (sym framer) so.reads;
          none = ap items_left framer ∙ so.none;
          going = so.going;
          pulled = so.pulled;
          brought = so.brought;
          offered = so.offered;
          count = number ∙ so.count;
          says = only-says-then world now later so.says says;
          said = some-then world now later (rows_text targets 0 rows) tracer.text.items new.text.items so.said said;
        } in
        (rows, traced)

    -- it couldn't be said
    pub traces-unsaid : (later : WorldState) (text : List ℕ) (why : Untraced) → IsTracing offering targets kind limit first feed world now tracer pulls → OnlySays now later → SaysSomeTraced now later tracer.text.items text (Err why)
        → TracesTo offering targets kind limit first feed world later text (Err why)
    traces-unsaid later text NotOpened tracing says some = absurd some
    traces-unsaid later text InletFault tracing says some = absurd some
    traces-unsaid later text RoundsSpent tracing says some = absurd some
    traces-unsaid later text NoMemory tracing says some = traces-lacking feed later text tracing (omega arith) says
    traces-unsaid later text SayFault (rows, so) says some =
        let opened : TracesOpen offering targets kind limit first feed world later text (Err SayFault) rows = record {
          later = so.reads.1.later;
          says = only-says-then world now later so.says says;
          offered = so.offered;
          said = tt;
          ends = rose-later world.say_faults now.say_faults later.say_faults so.says.later some;
        } in
        (rows, opened)

    -- a bad count follows
    pub traces-bad : IsTracing offering targets kind limit first feed world now tracer pulls → IsBadForm (open_left tracer.framer) → TracesTo offering targets kind limit first feed world now tracer.text.items (Ok tt)
    traces-bad (rows, so) bad =
        let (bytes, h) = so.reads in
        let all : AreAll kind limit first feed rows = record {
          bytes = bytes;
          given = h.given;
          items = whole-items kind limit first feed tracer.framer (items_in rows) bytes h so.none;
          over = inr (subst IsBadForm (sym (open-form kind limit first feed tracer.framer (items_in rows) bytes h)) bad);
        } in
        let opened : TracesOpen offering targets kind limit first feed world now tracer.text.items (Ok tt) rows = record {
          later = h.later;
          says = so.says;
          offered = so.offered;
          said = so.said;
          ends = all;
        } in
        (rows, opened)

    -- too many pulls were made
    pub traces-spent : IsTracing offering targets kind limit first feed world now tracer pulls → pulls ≡ 2 ^ 36 → TracesTo offering targets kind limit first feed world now tracer.text.items (Err RoundsSpent)
    traces-spent (rows, so) all =
        let (bytes, h) = so.reads in
        let whole : AreWholeRows kind limit first feed rows = record { bytes = bytes; given = h.given; items = whole-items kind limit first feed tracer.framer (items_in rows) bytes h so.none } in
        let spent : 2 ^ 36 < feed.bytes + feed.parts + feed.idles = omega (arith, all, so.brought) in
        let opened : TracesOpen offering targets kind limit first feed world now tracer.text.items (Err RoundsSpent) rows = record {
          later = h.later;
          says = so.says;
          offered = so.offered;
          said = so.said;
          ends = (whole, so.pulled ∙ all, so.going, spent);
        } in
        (rows, opened)
