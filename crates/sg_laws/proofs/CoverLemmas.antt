-- What one run leaves is covered.
use Rattle.std.proofs.Common.{◌≡◌, ℕ, ◌+◌, ◌<◌, ◌≤◌, List, [], ◌∷◌, ◌++◌, map, Some, None, Option, Bool, true, false, refl, sym, ap, ◌∙◌, subst, arith, inl, inr, ◌⊎◌, if◌then◌else◌, slice_get, append_assoc}
use Rattle.std.specs.Prelude.{Contains, is_some, nat_le, option_and_then, option_to_list}
use Rattle.std.proofs.lemmas.List.Elements.{Contains-append_left, Contains-append_right, Contains-append_cases}
use Rattle.sg_list.proofs.ListLemmas.{slice_get-some, slice_get-below, some-same}
use Rattle.sg_msg.specs.declared.offer.Offer.{Offer}
use Rattle.sg_machine.specs.declared.event.Event.{Event}
use Rattle.sg_machine.specs.declared.setup.DestSetup.{DestSetup}
use Rattle.sg_machine.specs.declared.setup.Setup.{Setup}
use Rattle.sg_machine.specs.declared.setup.SourceSetup.{SourceSetup}
use Rattle.sg_machine.specs.declared.state.Dest.{Dest}
use Rattle.sg_machine.specs.declared.state.DestEntry.{DestEntry}
use Rattle.sg_machine.specs.declared.state.InletRecords.{InletRecords}
use Rattle.sg_machine.specs.declared.state.State.{State}
use Rattle.sg_machine.specs.Verdicts.{is_listed}
use Rattle.sg_machine.specs.Legal.{is_legal}
use Rattle.sg_machine.specs.Runs.{BufferedEntry, opened_inlet, opened_dest, opened, are_legal}
use Rattle.sg_machine.specs.Counts.{as_kept, kept_of, kept_entries, ends_by, ends_admitted, opening_from}
use Rattle.sg_machine.specs.Safe.{Images, first_of, failing_position, failed_position, failed_entries, running_position, rises, settled_by, left_by, held_in}
use Rattle.sg_machine.proofs.RunLemmas.{are_legal-parts, both-true}
use Rattle.sg_machine.proofs.CountLemmas.{counts-dest}
use Rattle.sg_machine.proofs.InletLemmas.{counts-inlet}
use Rattle.sg_machine.proofs.PositionLemmas.{KeepsPosition, keeps-all, keeps-opened, position-reached}
use Rattle.sg_laws.specs.Pieces.{Piece, behind}
use Rattle.sg_laws.specs.Covered.{Pass, Delivery, Offers, IsFile, as_stored, entry_of, taking_of, list_at, IsOfferHeld, IsKeptSafe, IsPassed, IsOffered, Covered}
use Rattle.sg_laws.specs.Passes.{AreAdmitted, pieces_of, Stopped, state_at, taken_in, IsStoppedRun}
use Rattle.sg_laws.specs.Adding.{Grow}
use Rattle.sg_laws.proofs.HasLemmas.{has-nil, has-map, has-mapped}
use Rattle.sg_laws.proofs.PieceLemmas.{last_of, ends, ends-append, behind-has, behind-in, behind-rises, rising, rises-first, above-zero, among-first, among-old}
use Rattle.sg_laws.proofs.BoundEventLemmas.{dests-all}
use Rattle.sg_laws.proofs.PassLemmas.{admitted-split, pieces-append, admitted-ends, piece-pass, admitted-kept}
use Rattle.sg_laws.proofs.EntryLemmas.{EventsHold, state-holds, failed-hold, safe-holds}
use Rattle.sg_laws.proofs.PassPlaceLemmas.{InletHolds, places-hold, running-holds, position-holds, opening-or-zero}
use Rattle.sg_laws.proofs.LeftLemmas.{earlier-all, was-settled, kept-safe}
use Rattle.sg_laws.proofs.BeginLemmas.{opened-inlet-at, opens-dest, kept-opened, length-opened, opened-earlier, list-here, is-listed, begins-hold}
use Rattle.sg_laws.proofs.OfferLemmas.{offered-more, IsOfferGiven, events-given, events-weaken, events-split}
use Rattle.sg_machine.proofs.SafeLemmas.{failed_position-push}
use Rattle.sg_machine.proofs.HeldLemmas.{split-by}

abbrev pub start_of : Setup → Stopped → State
start_of setup run = opened setup run.opening

-- an inlet of a file, at first and at the stop
pub record FileAt (setup : Setup) (before : Images) (run : Stopped) (i : ℕ) : Type 0 where
  pub place : ℕ
  pub was : slice_get before.positions i ≡ Some place
  pub first : InletRecords
  pub at_first : slice_get (start_of setup run).inlets i ≡ Some first
  pub begins : first.opening ≡ place
  pub stands : first.stored ≡ place
  pub none : first.ends ≡ []
  pub inlet : InletRecords
  pub at : slice_get (state_at setup run).inlets i ≡ Some inlet
  pub store : is_some inlet.setup.store ≡ true
  pub ends : inlet.ends ≡ ends_admitted i run.events
  pub opening : inlet.opening ≡ opening_from i place run.events

-- a destination, at first and at the stop, and its image
pub record DestAt (setup : Setup) (before : Images) (run : Stopped) (d : ℕ) (s : DestSetup) : Type 0 where
  pub first : Dest
  pub at_first : slice_get (start_of setup run).dests d ≡ Some first
  pub was : (k : BufferedEntry) → Contains (list_at setup before d) k → Contains (kept_of first) k
  pub dest : Dest
  pub at : slice_get (state_at setup run).dests d ≡ Some dest
  pub stays : dest.setup ≡ s
  pub kept : kept_of dest ≡ kept_of first ++ kept_entries d run.events
  pub list : List BufferedEntry
  pub image : slice_get run.images.lists d ≡ Some list
  pub held : held_in list dest ≡ list_at setup run.images d

legal-events : (setup : Setup) (offers : Offers) (before : Images) (run : Stopped) → IsStoppedRun setup offers before run → are_legal (start_of setup run) run.events ≡ true
legal-events setup offers before run h = (are_legal-parts (start_of setup run) run.events (run.event ∷ []) h.legal).0

legal-event : (setup : Setup) (offers : Offers) (before : Images) (run : Stopped) → IsStoppedRun setup offers before run → is_legal (state_at setup run) run.event ≡ true
legal-event setup offers before run h = (both-true (is_legal (state_at setup run) run.event) true (are_legal-parts (start_of setup run) run.events (run.event ∷ []) h.legal).1).0

pub file-at : (setup : Setup) (offers : Offers) (before : Images) (run : Stopped) (i : ℕ) → IsStoppedRun setup offers before run → IsFile setup i → FileAt setup before run i
file-at setup offers before run i h f =
    let many = h.begins.every_position in
    let below = slice_get-below setup.sources i f.source f.at in
    let p = slice_get-some before.positions i (omega (arith, many, below)) in
    let at = opened-inlet-at setup.sources run.opening.places i f.source p.0 f.at (h.begins.places i p.0 f p.1) in
    let c = counts-inlet (start_of setup run) run.events i (opened_inlet f.source p.0) (legal-events setup offers before run h) at in
    let same : c.0.setup.store ≡ f.source.store = ap (λ (x : SourceSetup). x.store) c.2.setup in
    record {
      place = p.0;
      was = p.1;
      first = opened_inlet f.source p.0;
      at_first = at;
      begins = refl;
      stands = refl;
      none = refl;
      inlet = c.0;
      at = c.1;
      store = ap is_some same ∙ f.stored;
      ends = c.2.ends;
      opening = c.2.opening;
    }

dest-at : (setup : Setup) (offers : Offers) (before : Images) (run : Stopped) (d : ℕ) (s : DestSetup) → IsStoppedRun setup offers before run → slice_get setup.dests d ≡ Some s → DestAt setup before run d s
dest-at setup offers before run d s h q =
    let o = opens-dest setup.dests run.opening.entries d s q in
    let first = opened_dest s o.list in
    let c = counts-dest (start_of setup run) run.events d first (legal-events setup offers before run h) o.at in
    let many = h.safe.images_at.every_list in
    let long = dests-all run.events (start_of setup run) in
    let wide = length-opened setup.dests run.opening.entries in
    let below = slice_get-below setup.dests d s q in
    let l = slice_get-some run.images.lists d (omega (arith, many, long, wide, below)) in
    record {
      first = first;
      at_first = o.at;
      was = λ k m.
          (let x = is-listed (slice_get setup.dests d) (slice_get before.lists d) k m in
          let same : x.s ≡ s = some-same x.s s (sym x.is ∙ q) in
          let buffer : is_some s.buffer ≡ true = sym (ap (λ (y : DestSetup). is_some y.buffer) same) ∙ x.buffer in
          let list : x.list ≡ o.list = o.is x.list (h.begins.lists d s x.list q buffer x.here) in
          let P : List BufferedEntry → Type 0 = λ ks. Contains ks k in
          subst P (list ∙ sym (kept-opened s o.list)) x.has);
      dest = c.0;
      at = c.1;
      stays = c.2.setup;
      kept = c.2.kept;
      list = l.0;
      image = l.1;
      held = ap (λ (y : DestSetup). let ks : List BufferedEntry = (if is_some y.buffer then l.0 else []) in ks) c.2.setup ∙ sym (list-here setup run.images d s l.0 q l.1);
    }

-- the passes of the events, and those of the one that was on
pub record Halves (offers : Offers) (run : Stopped) : Type 0 where
  pub done : List Pass
  pub on : List Pass
  pub are : run.passes ≡ done ++ on
  pub admitted : AreAdmitted offers run.events done

halves : (setup : Setup) (offers : Offers) (before : Images) (run : Stopped) → IsStoppedRun setup offers before run → Halves offers run
halves setup offers before run h =
    let r = admitted-split offers run.events (run.event ∷ []) run.passes h.admits in
    record { done = r.0; on = r.1.0; are = r.1.1.0; admitted = r.1.1.1 }

-- Of a file: the ends of what came in are those of the first items behind its opening place.
pub record ReadsOf (setup : Setup) (offers : Offers) (run : Stopped) (i : ℕ) (inlet : InletRecords) (done : List Pass) : Type 0 where
  pub later : List Piece
  pub are : behind inlet.opening (run.files i) ≡ pieces_of i done ++ later
  pub ends_are : inlet.ends ≡ ends (pieces_of i done)
  pub rise : rises inlet.opening (ends (pieces_of i done ++ later)) ≡ true
  pub rising : rises inlet.opening inlet.ends ≡ true

reads-of : (setup : Setup) (offers : Offers) (before : Images) (run : Stopped) (i : ℕ) (h : IsStoppedRun setup offers before run) → IsFile setup i → (f : FileAt setup before run i) → (p : Halves offers run) → ReadsOf setup offers run i f.inlet p.done
reads-of setup offers before run i h file f p =
    let r = h.reads i f.inlet file f.at in
    let later = pieces_of i p.on ++ r.0 in
    let are : behind f.inlet.opening (run.files i) ≡ pieces_of i p.done ++ later =
    r.1 ∙ ap (λ (ps : List Pass). pieces_of i ps ++ r.0) p.are ∙ ap (λ (xs : List Piece). xs ++ r.0) (pieces-append i p.done p.on) ∙ append_assoc (pieces_of i p.done) (pieces_of i p.on) r.0 in
    let ends_are : f.inlet.ends ≡ ends (pieces_of i p.done) = f.ends ∙ sym (admitted-ends offers i run.events p.done p.admitted) in
    let P : List Piece → Type 0 = λ xs. rises f.inlet.opening (ends xs) ≡ true in
    let rise : rises f.inlet.opening (ends (pieces_of i p.done ++ later)) ≡ true = subst P are (behind-rises f.inlet.opening 0 (run.files i) (rising 0 (run.files i) (h.rising i))) in
    let Q : List ℕ → Type 0 = λ xs. rises f.inlet.opening xs ≡ true in
    let first = rises-first f.inlet.opening (ends (pieces_of i p.done)) (ends later) (subst Q (ends-append (pieces_of i p.done) later) rise) in
    record { later = later; are = are; ends_are = ends_are; rise = rise; rising = subst Q (sym ends_are) first }

-- A kept entry with flow-control of a record that the position has passed is held.
held : (setup : Setup) (offers : Offers) (before : Images) (run : Stopped) (i position d : ℕ) (s : DestSetup) (k : BufferedEntry) → IsStoppedRun setup offers before run → IsFile setup i → slice_get run.images.positions i ≡ Some position → slice_get setup.dests d ≡ Some s
    → (at : DestAt setup before run d s) → Contains (kept_of at.dest) k → k.inlet ≡ i → k.flow ≡ true → k.end ≤ position
    → Contains (taken_in setup run) (record { dest = d; message = k.message }) ⊎ Contains (list_at setup run.images d) k
held setup offers before run i position d s k h file hp hd at c inlet flow end =
    let f = file-at setup offers before run i h file in
    let r = reads-of setup offers before run i h file f (halves setup offers before run h) in
    let early = earlier-all (start_of setup run) run.events (opened-earlier setup.dests run.opening.entries (λ e x l a b g. h.begins.bare e x l a b g)) in
    let held = h.safe.covers i f.inlet position d at.dest at.list f.at f.store r.rising hp at.at at.image in
    let safe = kept-safe i position run.event.act (state_at setup run).dests d at.dest _ _ at.list k at.at early c held (λ b. h.safe.images_at.safe_lists d at.dest at.list at.at b at.image) inlet flow end in
    let P : List BufferedEntry → Type 0 = λ ks. Contains ks k in
    elim safe [ inl t ↦ inl t | inr m ↦ inr (subst P at.held m) ]

-- as an offer of a pass
offer-held : (setup : Setup) (offers : Offers) (before : Images) (run : Stopped) (taken : List Delivery) (i position : ℕ) (s : DestSetup) (p : Pass) (o : Offer) → IsStoppedRun setup offers before run → IsFile setup i → slice_get run.images.positions i ≡ Some position
    → slice_get setup.dests o.dest ≡ Some s → (at : DestAt setup before run o.dest s) → Contains (kept_of at.dest) (entry_of p o) → p.inlet ≡ i → o.flow ≡ true → p.end ≤ position → IsOfferHeld setup (taken ++ taken_in setup run) run.images p o
offer-held setup offers before run taken i position s p o h file hp hd at c inlet flow end =
    elim (held setup offers before run i position o.dest s (entry_of p o) h file hp hd at c inlet flow end) [
      | inl t ↦ inl (Contains-append_right taken (taken_in setup run) (taking_of o) t)
      | inr m ↦ inr m
    ]

-- what was held before the run is held behind it
was-held : (setup : Setup) (offers : Offers) (before : Images) (run : Stopped) (taken : List Delivery) (i position : ℕ) (p : Pass) (o : Offer) → IsStoppedRun setup offers before run → IsFile setup i → slice_get run.images.positions i ≡ Some position
    → p.inlet ≡ i → o.flow ≡ true → p.end ≤ position → IsOfferHeld setup taken before p o → IsOfferHeld setup (taken ++ taken_in setup run) run.images p o
was-held setup offers before run taken i position p o h file hp inlet flow end (inl t) = inl (Contains-append_left taken (taken_in setup run) (taking_of o) t)
was-held setup offers before run taken i position p o h file hp inlet flow end (inr m) =
    let x = is-listed (slice_get setup.dests o.dest) (slice_get before.lists o.dest) (entry_of p o) m in
    let at = dest-at setup offers before run o.dest x.s h x.is in
    let P : List BufferedEntry → Type 0 = λ ks. Contains ks (entry_of p o) in
    let c = subst P (sym at.kept) (Contains-append_left (kept_of at.first) (kept_entries o.dest run.events) (entry_of p o) (at.was (entry_of p o) m)) in
    offer-held setup offers before run taken i position x.s p o h file hp x.is at c inlet flow end

was-safe : (setup : Setup) (offers : Offers) (before : Images) (run : Stopped) (taken : List Delivery) (i position old : ℕ) (p : Pass) (o : Offer) → IsStoppedRun setup offers before run → IsFile setup i → slice_get run.images.positions i ≡ Some position
    → p.inlet ≡ i → o.flow ≡ true → p.end ≤ position → IsKeptSafe setup taken before old p o → IsKeptSafe setup (taken ++ taken_in setup run) run.images old p o
was-safe setup offers before run taken i position old p o h file hp inlet flow end (inl a) = inl (was-held setup offers before run taken i position p o h file hp inlet flow end a)
was-safe setup offers before run taken i position old p o h file hp inlet flow end (inr b) = inr (b.0, was-held setup offers before run taken i position p (as_stored o) h file hp inlet flow end b.1)

-- The items that a position has passed.

-- those that the position before had passed
old-items : (setup : Setup) (offers : Offers) (files : ℕ → List Piece) (taken : List Delivery) (passes : List Pass) (old : ℕ → ℕ) (before : Images) (run : Stopped) (i position place : ℕ) (x : Piece) → Covered setup offers files taken passes old before → Grow files run.files
    → IsStoppedRun setup offers before run → IsFile setup i → slice_get before.positions i ≡ Some place → slice_get run.images.positions i ≡ Some position → Contains (run.files i) x → x.end ≤ place → x.end ≤ position
    → IsPassed offers (IsKeptSafe setup (taken ++ taken_in setup run) run.images (old i)) (passes ++ run.passes) i x
old-items setup offers files taken passes old before run i position place x covered grow h file was now c low high =
    let g = grow i in
    let P : List Piece → Type 0 = λ xs. Contains xs x in
    let Q : List Piece → Type 0 = λ xs. rises 0 (ends xs) ≡ true in
    let here = subst P g.1 c in
    let rise = subst Q g.1 (rising 0 (run.files i) (h.rising i)) in
    let above = above-zero (files i ++ g.0) x rise here in
    let among : Contains (files i) x =
    elim (covered.positions i place file was) [
      | inl none ↦ absurd (omega (arith, none, above, low))
      | inr y ↦ (let same = y.1.1 in among-old 0 (files i) g.0 x y.0 rise here y.1.0 (omega (arith, same, low)))
    ] in
    let r = covered.items i place x file was among low in
    let end = r.is.end in
    record {
      pass = r.pass;
      had = Contains-append_left passes run.passes r.pass r.had;
      is = r.is;
      given = r.given;
      gives = r.gives;
      each = λ o m f. was-safe setup offers before run taken i position (old i) r.pass o h file now r.is.inlet f (omega (arith, end, high)) (r.each o m f);
    }

-- those behind it
new-items : (setup : Setup) (offers : Offers) (taken : List Delivery) (passes : List Pass) (old : ℕ → ℕ) (before : Images) (run : Stopped) (i position place : ℕ) (x : Piece) → IsStoppedRun setup offers before run → IsFile setup i → slice_get before.positions i ≡ Some place
    → slice_get run.images.positions i ≡ Some position → Contains (run.files i) x → place < x.end → x.end ≤ position → IsPassed offers (IsKeptSafe setup (taken ++ taken_in setup run) run.images (old i)) (passes ++ run.passes) i x
new-items setup offers taken passes old before run i position place x h file was now c low high =
    let start = start_of setup run in
    let f = file-at setup offers before run i h file in
    let p = halves setup offers before run h in
    let r = reads-of setup offers before run i h file f p in
    let first : f.place ≡ place = some-same f.place place (sym f.was ∙ was) in
    let opening = f.opening in
    let below : f.inlet.opening < x.end =
    elim (opening-or-zero i f.place run.events) [
      | inl e ↦ omega (arith, first, opening, e, low)
      | inr e ↦ omega (arith, opening, e, low)
    ] in
    let P : List Piece → Type 0 = λ xs. Contains xs x in
    let behind_it = subst P r.are (behind-has f.inlet.opening (run.files i) x below c) in
    let kept = keeps-all start run.events None i f.first (legal-events setup offers before run h) f.at_first (keeps-opened setup run.opening i f.first f.at_first) in
    let same : kept.0 ≡ f.inlet = some-same kept.0 f.inlet (sym kept.1 ∙ f.at) in
    let K : InletRecords → Type 0 = λ y. KeepsPosition (state_at setup run) (failed_position start run.events i) i y in
    let keeps = subst K same kept.2 in
    let pushed : failed_position start (run.events ++ run.event ∷ []) i ≡ first_of (failed_position start run.events i) (failing_position (state_at setup run) run.event i f.inlet) =
    failed_position-push start run.events run.event i ∙ ap (λ (o : Option InletRecords). first_of (failed_position start run.events i) (option_and_then (failing_position (state_at setup run) run.event i) o)) f.at in
    let L : Option ℕ → Type 0 = λ o. is_listed position (f.inlet.stored ∷ option_to_list (running_position run.event.act i) ++ option_to_list o) ≡ true in
    let listed = subst L pushed (h.safe.images_at.stored i f.inlet position f.at f.store now) in
    let reached = position-reached (state_at setup run) run.event (failed_position start run.events i) i f.inlet position (legal-event setup offers before run h) f.at keeps listed r.rising in
    let E : List ℕ → Type 0 = λ xs. position ≤ last_of f.inlet.opening xs in
    let within = subst E r.ends_are reached.within in
    let came = among-first f.inlet.opening (pieces_of i p.done) r.later x r.rise behind_it (omega (arith, high, within)) in
    let q = piece-pass i p.done x came in
    let kept_by = admitted-kept offers start run.events p.done q.0 (legal-events setup offers before run h) p.admitted q.1.0 in
    let R : List Pass → Type 0 = λ ps. Contains ps q.0 in
    let had = subst R (sym p.are) (Contains-append_left p.done p.on q.0 q.1.0) in
    let end : q.0.end ≡ x.end = ap (λ (y : Piece). y.end) q.1.1.1 in
    record {
      pass = q.0;
      had = Contains-append_right passes run.passes q.0 had;
      is = record { inlet = q.1.1.0; end = end; text = ap (λ (y : Piece). y.text) q.1.1.1 };
      given = kept_by.given;
      gives = kept_by.gives;
      each = λ o m flow.
          (let k = kept_by.kept o m flow in
          let many = length-opened setup.dests run.opening.entries in
          let at_most = k.1 in
          let s = slice_get-some setup.dests o.dest (omega (arith, many, at_most)) in
          let at = dest-at setup offers before run o.dest s.0 h s.1 in
          let S : List BufferedEntry → Type 0 = λ ks. Contains ks (entry_of q.0 o) in
          let c = subst S (sym at.kept) (Contains-append_right (kept_of at.first) (kept_entries o.dest run.events) (entry_of q.0 o) k.0) in
          inl (offer-held setup offers before run taken i position s.0 q.0 o h file now s.1 at c q.1.1.0 flow (omega (arith, end, high))));
    }

le-true : (a b : ℕ) → nat_le a b ≡ true → a ≤ b
le-true a b h = grind (arith, h)

le-false : (a b : ℕ) → nat_le a b ≡ false → b < a
le-false a b h = grind (arith, h)

items-if : (setup : Setup) (offers : Offers) (files : ℕ → List Piece) (taken : List Delivery) (passes : List Pass) (old : ℕ → ℕ) (before : Images) (run : Stopped) (i position place : ℕ) (x : Piece) (b : Bool) → nat_le x.end place ≡ b → Covered setup offers files taken passes old before
    → Grow files run.files → IsStoppedRun setup offers before run → IsFile setup i → slice_get before.positions i ≡ Some place → slice_get run.images.positions i ≡ Some position → Contains (run.files i) x → x.end ≤ position
    → IsPassed offers (IsKeptSafe setup (taken ++ taken_in setup run) run.images (old i)) (passes ++ run.passes) i x
items-if setup offers files taken passes old before run i position place x true q covered grow h file was now c high = old-items setup offers files taken passes old before run i position place x covered grow h file was now c (le-true x.end place q) high
items-if setup offers files taken passes old before run i position place x false q covered grow h file was now c high = new-items setup offers taken passes old before run i position place x h file was now c (le-false x.end place q) high

-- Positions.

abbrev IsPlace : List Piece → ℕ → Type 0
IsPlace pieces w = (w ≡ 0) ⊎ ((piece : Piece) × (Contains pieces piece × (piece.end ≡ w)))

grown-place : (old new more : List Piece) (w : ℕ) → new ≡ old ++ more → IsPlace old w → IsPlace new w
grown-place old new more w g (inl z) = inl z
grown-place old new more w g (inr y) = let P : List Piece → Type 0 = λ xs. Contains xs y.0 in inr (y.0, (subst P (sym g) (Contains-append_left old more y.0 y.1.0), y.1.1))

ends-among : (i : ℕ) (es fs : List Event) (x : ℕ) → Contains (ends_admitted i es) x → Contains (ends_admitted i (es ++ fs)) x
ends-among i [] fs x m = absurd (has-nil x m)
ends-among i (e ∷ es) fs x m =
    elim (Contains-append_cases (ends_by i e.act) (ends_admitted i es) x m) [
      | inl a ↦ Contains-append_left (ends_by i e.act) (ends_admitted i (es ++ fs)) x a
      | inr b ↦ Contains-append_right (ends_by i e.act) (ends_admitted i (es ++ fs)) x (ends-among i es fs x b)
    ]

-- what holds of 0, of the position before, and of each end that came in holds of the position
pub place-by : (Q : ℕ → Type 0) (setup : Setup) (offers : Offers) (before : Images) (run : Stopped) (i position : ℕ) → IsStoppedRun setup offers before run → IsFile setup i → slice_get run.images.positions i ≡ Some position → Q 0
    → ((place : ℕ) → slice_get before.positions i ≡ Some place → Q place) → ((x : ℕ) → Contains (ends_admitted i (run.events ++ run.event ∷ [])) x → Q x) → Q position
place-by Q setup offers before run i position h file now none was ended =
    let start = start_of setup run in
    let f = file-at setup offers before run i h file in
    let first : Q f.place = was f.place f.was in
    let holds : InletHolds Q f.first = record {
      opening = subst Q (sym f.begins) first;
      stored = subst Q (sym f.stands) first;
      ends = λ x m. (let P : List ℕ → Type 0 = λ xs. Contains xs x in absurd (has-nil x (subst P f.none m)));
    } in
    let now_at = places-hold Q start run.events i f.first none (legal-events setup offers before run h) f.at_first holds (λ x m. ended x (ends-among i run.events (run.event ∷ []) x m)) in
    let same : now_at.new ≡ f.inlet = some-same now_at.new f.inlet (sym now_at.at ∙ f.at) in
    let H : InletRecords → Type 0 = λ y. InletHolds Q y in
    let at_stop = subst H same now_at.holds in
    let whole = places-hold Q start (run.events ++ run.event ∷ []) i f.first none h.legal f.at_first holds ended in
    position-holds Q f.inlet.stored position (running_position run.event.act i) (failed_position start (run.events ++ run.event ∷ []) i) at_stop.stored
    (running-holds Q (state_at setup run) run.event.act run.event.failed i f.inlet none (legal-event setup offers before run h) f.at at_stop) whole.tried
    (h.safe.images_at.stored i f.inlet position f.at f.store now)

place-new : (setup : Setup) (offers : Offers) (files : ℕ → List Piece) (before : Images) (run : Stopped) (i position : ℕ) → ((place : ℕ) → slice_get before.positions i ≡ Some place → IsPlace (files i) place) → Grow files run.files
    → IsStoppedRun setup offers before run → IsFile setup i → slice_get run.images.positions i ≡ Some position → IsPlace (run.files i) position
place-new setup offers files before run i position covered grow h file now =
    let f = file-at setup offers before run i h file in
    let Q : ℕ → Type 0 = IsPlace (run.files i) in
    let g = grow i in
    let r = h.reads i f.inlet file f.at in
    let ended : (x : ℕ) → Contains (ends_admitted i (run.events ++ run.event ∷ [])) x → Q x =
    λ x m.
    let P : List ℕ → Type 0 = λ xs. Contains xs x in
    let y = has-mapped (λ (z : Piece). z.end) (pieces_of i run.passes) x (subst P (sym (admitted-ends offers i (run.events ++ run.event ∷ []) run.passes h.admits)) m) in
    let R : List Piece → Type 0 = λ xs. Contains xs y.0 in
    let b = subst R (sym r.1) (Contains-append_left (pieces_of i run.passes) r.0 y.0 y.1.0) in
    inr (y.0, (behind-in f.inlet.opening (run.files i) y.0 b, y.1.1)) in
    let none : Q 0 = inl refl in
    place-by Q setup offers before run i position h file now none (λ place was. grown-place (files i) (run.files i) g.0 place g.1 (covered place was)) ended

-- Entries.

-- what holds of the entries in the stores at first and of each offer that came in holds of the entries left, and of what was taken
pub record RunHolds (P : ℕ → BufferedEntry → Type 0) (setup : Setup) (run : Stopped) : Type 0 where
  pub lists : (d : ℕ) (k : BufferedEntry) → Contains (list_at setup run.images d) k → P d k
  pub taken : (t : Delivery) → Contains (taken_in setup run) t → (k : BufferedEntry) × (P t.dest k × (t ≡ record { dest = t.dest; message = k.message }))

pub run-holds : (P : ℕ → BufferedEntry → Type 0) (setup : Setup) (offers : Offers) (before : Images) (run : Stopped) → IsStoppedRun setup offers before run → ((d : ℕ) (k : BufferedEntry) → Contains (list_at setup before d) k → P d k)
    → EventsHold P (run.events ++ run.event ∷ []) → RunHolds P setup run
run-holds P setup offers before run h first events =
    let start = start_of setup run in
    let begins = begins-hold P setup before run.opening h.begins first in
    let parts = events-split P run.events (run.event ∷ []) events in
    let state = state-holds P start run.events (legal-events setup offers before run h) parts.0 begins in
    record {
      lists = λ d k c.
          (let x = is-listed (slice_get setup.dests d) (slice_get run.images.lists d) k c in
          let at = dest-at setup offers before run d x.s h x.is in
          let buffer : is_some at.dest.setup.buffer ≡ true = ap (λ (y : DestSetup). is_some y.buffer) at.stays ∙ x.buffer in
          let safe = h.safe.images_at.safe_lists d at.dest x.list at.at buffer x.here in
          safe-holds P at.dest d run.event.act _ (failed_entries start (run.events ++ run.event ∷ []) d) x.list parts.1.0 (state d at.dest at.at) (failed-hold P start (run.events ++ run.event ∷ []) d h.legal events begins) safe k x.has);
      taken = λ t c.
          (let w = was-settled run.event.act 0 (state_at setup run).dests t c in
          let kept = state w.k w.dest w.at in
          let e = as_kept w.e in
          let A : List DestEntry → Type 0 = λ es. Contains (map as_kept es) e in
          let among : Contains (map as_kept (settled_by run.event.act (0 + w.k) w.dest ++ left_by run.event.act (0 + w.k) w.dest)) e =
          has-map as_kept (settled_by run.event.act (0 + w.k) w.dest ++ left_by run.event.act (0 + w.k) w.dest) w.e (Contains-append_left (settled_by run.event.act (0 + w.k) w.dest) (left_by run.event.act (0 + w.k) w.dest) w.e w.settled) in
          let holds : P w.k e = kept e (subst A (split-by run.event.act (0 + w.k) w.dest) among) in
          let place : w.k ≡ t.dest = (let z : w.k ≡ 0 + w.k = omega arith in z ∙ sym (ap (λ (y : Delivery). y.dest) w.is)) in
          let M : ℕ → Type 0 = λ n. P n e in
          (e, (subst M place holds, w.is ∙ ap (λ (n : ℕ). let y : Delivery = record { dest = n; message = w.e.message } in y) (sym (ap (λ (y : Delivery). y.dest) w.is)))));
    }

-- The whole.

pub covers-run : (setup : Setup) (offers : Offers) (files : ℕ → List Piece) (taken : List Delivery) (passes : List Pass) (old : ℕ → ℕ) (before : Images) (run : Stopped) → Covered setup offers files taken passes old before → Grow files run.files → IsStoppedRun setup offers before run
    → Covered setup offers run.files (taken ++ taken_in setup run) (passes ++ run.passes) old run.images
covers-run setup offers files taken passes old before run covered grow h =
    let P : ℕ → BufferedEntry → Type 0 = λ d k. IsOffered offers (passes ++ run.passes) d k in
    let given = events-given offers (run.events ++ run.event ∷ []) (passes ++ run.passes) run.passes (λ p c. Contains-append_right passes run.passes p c) h.admits in
    let events = events-weaken (IsOfferGiven offers (passes ++ run.passes)) P (run.events ++ run.event ∷ []) (λ d k o. inl o) given in
    let first : (d : ℕ) (k : BufferedEntry) → Contains (list_at setup before d) k → P d k = λ d k c. offered-more offers passes (passes ++ run.passes) d k (λ p m. Contains-append_left passes run.passes p m) (covered.entries d k c) in
    let entries = run-holds P setup offers before run h first events in
    record {
      positions = λ i position file now. place-new setup offers files before run i position (λ place was. covered.positions i place file was) grow h file now;
      items = λ i position x file now c high.
          (let f = file-at setup offers before run i h file in
          items-if setup offers files taken passes old before run i position f.place x (nat_le x.end f.place) refl covered grow h file f.was now c high);
      entries = entries.lists;
    }
