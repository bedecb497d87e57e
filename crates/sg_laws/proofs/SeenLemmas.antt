-- All calls, seen by one destination.
use Rattle.std.proofs.Common.{◌≡◌, ℕ, ◌+◌, List, [], ◌∷◌, ◌++◌, length, length-append, Some, Option, Bool, true, false, refl, sym, ap, ◌∙◌, arith, map, take, drop, subst}
use Rattle.std.specs.Prelude.{slice_get}
use Rattle.std.specs.Option.{option_map}
use Rattle.std.proofs.lemmas.List.{map-append, take-map, drop-map, length-map}
use Rattle.std.proofs.Math.Seq.{drop-append_seam}
use Rattle.sg_list.proofs.ListLemmas.{some-same}
use Rattle.sg_msg.specs.Message.{Content}
use Rattle.sg_machine.specs.declared.event.Act.{Act}
use Rattle.sg_machine.specs.declared.event.Act.TheVariants.{Admit, Settle, Refill, Store, Rewind, Look}
use Rattle.sg_machine.specs.declared.event.Event.{Event}
use Rattle.sg_machine.specs.declared.setup.BufferSetup.{BufferSetup}
use Rattle.sg_machine.specs.declared.setup.DestSetup.{DestSetup}
use Rattle.sg_machine.specs.declared.state.Dest.{Dest}
use Rattle.sg_machine.specs.declared.state.DestEntry.{DestEntry}
use Rattle.sg_machine.specs.declared.state.State.{State}
use Rattle.sg_machine.specs.Effects.{after, after_act}
use Rattle.sg_machine.specs.Runs.{after_all}
use Rattle.sg_machine.proofs.RunLemmas.{after_all-append}
use Rattle.sg_counter.specs.Exchanges.{Exchange, Makes, OfDest, caller_of, same_caller, calls_by}
use Rattle.sg_stores.specs.Stores.{StoreState}
use Rattle.sg_standing.specs.States.{CoreState}
use Rattle.sg_standing.specs.Standing.{IsAt}
use Rattle.sg_core.specs.Answers.{IsBufferTold}
use Rattle.sg_core.specs.Calls.{Serves, acts_in, acts_of}
use Rattle.sg_laws.specs.Calls.{Ran}
use Rattle.sg_laws.specs.Fronts.{IsDestThroughout, FrontsAreNext, FramesAreSettled}
use Rattle.sg_laws.proofs.ViewLemmas.{RunViewed, grows-none, run-before, turns-add, turns-count, turns-taken, shown-next}
use Rattle.sg_laws.proofs.ServeLemmas.{message_of, view, others-call, own-call}

-- What the calls come to at d, from a state on.
pub record EndedSeen (T : Type 0) (s : State) (made : List Exchange) (d : ℕ) (x : Dest) : Type 0 where
  pub events : List Event
  pub acts : map (λ (e : Event). e.act) events ≡ acts_of made
  pub dest : Dest
  pub there : slice_get (after_all s events).dests d ≡ Some dest
  pub run : RunViewed T (view x) (calls_by (OfDest d) made) (view dest)

pub kept-own : (d : ℕ) (e : Exchange) (rest : List Exchange) → same_caller (OfDest d) (caller_of e.call) ≡ true → calls_by (OfDest d) (e ∷ rest) ≡ e ∷ calls_by (OfDest d) rest
kept-own d e rest h = rw h refl

left-out : (d : ℕ) (e : Exchange) (rest : List Exchange) → same_caller (OfDest d) (caller_of e.call) ≡ false → calls_by (OfDest d) (e ∷ rest) ≡ calls_by (OfDest d) rest
left-out d e rest h = rw h refl

joined-acts : (es fs : List Event) (e : Exchange) (rest : List Exchange) → map (λ (v : Event). v.act) es ≡ acts_in e.call e.reply → map (λ (v : Event). v.act) fs ≡ acts_of rest → map (λ (v : Event). v.act) (es ++ fs) ≡ acts_of (e ∷ rest)
joined-acts es fs e rest a b = map-append (λ (v : Event). v.act) es fs ∙ ap (λ xs. xs ++ map (λ (v : Event). v.act) fs) a ∙ ap (λ xs. acts_in e.call e.reply ++ xs) b

joined-there : (s : State) (es fs : List Event) (d : ℕ) (y : Dest) → slice_get (after_all (after_all s es) fs).dests d ≡ Some y → slice_get (after_all s (es ++ fs)).dests d ≡ Some y
joined-there s es fs d y h = ap (λ (t : State). slice_get t.dests d) (after_all-append s es fs) ∙ h

-- the calls behind, from each state that the core may then be at
abbrev RestOfSeen : Type 0 → ℕ → CoreState → List Exchange → Type 0
RestOfSeen T d between rest = (s : State) (x : Dest) → IsAt between s → slice_get s.dests d ≡ Some x → (T → IsBufferTold between.stores x.setup.buffer) → EndedSeen T s rest d x

told-on : (T : Type 0) (olds news : List StoreState) (x y : Dest) → y.setup ≡ x.setup → ((buffer : Option BufferSetup) → IsBufferTold olds buffer → IsBufferTold news buffer) → (T → IsBufferTold olds x.setup.buffer) → T → IsBufferTold news y.setup.buffer
told-on T olds news x y same tells told t = subst (λ (u : DestSetup). IsBufferTold news u.buffer) (sym same) (tells x.setup.buffer (told t))

ends-by : (T : Type 0) (d : ℕ) (old between : CoreState) (e : Exchange) (rest : List Exchange) (s : State) (x : Dest) (b : Bool) → same_caller (OfDest d) (caller_of e.call) ≡ b → Serves old e.call e.reply between → IsAt old s
    → slice_get s.dests d ≡ Some x → (T → IsBufferTold old.stores x.setup.buffer) → RestOfSeen T d between rest → EndedSeen T s (e ∷ rest) d x
ends-by T d old between e rest s x true own step at h told more =
    let c = own-call T old between e.call e.reply s d x step at h own told in
    let r = more (after_all s c.events) c.dest c.at c.there (told-on T old.stores between.stores x c.dest c.does.setup c.tells told) in
    record {
      events = c.events ++ r.events;
      acts = joined-acts c.events r.events e rest c.acts_are r.acts;
      dest = r.dest;
      there = joined-there s c.events r.events d r.dest r.there;
      run = subst (λ es. RunViewed T (view x) es (view r.dest)) (sym (kept-own d e rest own)) (view x, (grows-none (view x), (view c.dest, (c.does.step, r.run))));
    }
ends-by T d old between e rest s x false own step at h told more =
    let c = others-call old between e.call e.reply s d x step at h own in
    let r = more (after_all s c.events) c.dest c.at c.there (told-on T old.stores between.stores x c.dest c.does.setup c.tells told) in
    record {
      events = c.events ++ r.events;
      acts = joined-acts c.events r.events e rest c.acts_are r.acts;
      dest = r.dest;
      there = joined-there s c.events r.events d r.dest r.there;
      run = subst (λ es. RunViewed T (view x) es (view r.dest)) (sym (left-out d e rest own)) (run-before T (view x) (view c.dest) (view r.dest) (calls_by (OfDest d) rest) c.does.grows r.run);
    }

pub ends : (T : Type 0) (d : ℕ) (old new : CoreState) (made : List Exchange) (s : State) (x : Dest) → Makes Serves old made new → IsAt old s → slice_get s.dests d ≡ Some x → (T → IsBufferTold old.stores x.setup.buffer) → EndedSeen T s made d x
ends T d old new [] s x makes at h told = record { events = []; acts = refl; dest = x; there = h; run = grows-none (view x) }
ends T d old new (e ∷ rest) s x (between, step, makes) at h told = ends-by T d old between e rest s x (same_caller (OfDest d) (caller_of e.call)) refl step at h told (λ t y a b c. ends T d between new rest t y makes a b c)

-- The destinations after events are those after others with the same acts.

record Alike (s t : State) : Type 0 where
  inlets : s.inlets ≡ t.inlets
  dests : s.dests ≡ t.dests

alike-act : (s t : State) (act : Act) (failed more : List ℕ) → Alike s t → Alike (after_act s act failed) (after_act t act more)
alike-act s t (Admit i records verdicts) failed more a = record { inlets = rw a.inlets refl; dests = rw (a.inlets, a.dests) refl }
alike-act s t (Settle d n) failed more a = record { inlets = a.inlets; dests = rw a.dests refl }
alike-act s t (Refill d n) failed more a = record { inlets = a.inlets; dests = rw a.dests refl }
alike-act s t (Store i w) failed more a = record { inlets = rw a.inlets refl; dests = a.dests }
alike-act s t (Rewind i) failed more a = record { inlets = rw a.inlets refl; dests = a.dests }
alike-act s t Look failed more a = record { inlets = a.inlets; dests = a.dests }

first-act : (a b : Act) (as' bs : List Act) → a ∷ as' ≡ b ∷ bs → a ≡ b
first-act a b as' bs h = cc

rest-acts : (a b : Act) (as' bs : List Act) → a ∷ as' ≡ b ∷ bs → as' ≡ bs
rest-acts a b as' bs h = cc

no-acts : (b : Act) (bs : List Act) → [] ≡ b ∷ bs → ⊥
no-acts b bs h = cc

alike-all : (es fs : List Event) (s t : State) → Alike s t → map (λ (v : Event). v.act) es ≡ map (λ (v : Event). v.act) fs → Alike (after_all s es) (after_all t fs)
alike-all [] [] s t a h = a
alike-all [] (f ∷ fs) s t a h = absurd (no-acts f.act (map (λ (v : Event). v.act) fs) h)
alike-all (e ∷ es) [] s t a h = absurd (no-acts e.act (map (λ (v : Event). v.act) es) (sym h))
alike-all (e ∷ es) (f ∷ fs) s t a h =
    let one = first-act e.act f.act (map (λ (v : Event). v.act) es) (map (λ (v : Event). v.act) fs) h in
    let rest = rest-acts e.act f.act (map (λ (v : Event). v.act) es) (map (λ (v : Event). v.act) fs) h in
    let next = subst (λ (act : Act). Alike (after_act s e.act e.failed) (after_act t act f.failed)) one (alike-act s t e.act e.failed f.failed a) in
    alike-all es fs (after s e) (after t f) next rest

-- The laws.

seen : (old new : CoreState) (made : List Exchange) (start : State) (before events : List Event) (d : ℕ) (first last : Dest) → Ran old new made start before events → IsDestThroughout start before events d first last
    → RunViewed (IsBufferTold old.stores first.setup.buffer) (view first) (calls_by (OfDest d) made) (view last)
seen old new made start before events d first last ran is =
    let s = after_all start before in
    let T : Type 0 = IsBufferTold old.stores first.setup.buffer in
    let e = ends T d old new made s first ran.makes ran.stood.at is.at_first (λ t. t) in
    let same = alike-all e.events events s s (record { inlets = refl; dests = refl }) (e.acts ∙ sym ran.acts) in
    let there : slice_get (after_all start (before ++ events)).dests d ≡ Some e.dest =
    ap (λ (t : State). slice_get t.dests d) (after_all-append start before events) ∙ ap (λ ds. slice_get ds d) (sym same.dests) ∙ e.there in
    subst (λ (y : Dest). RunViewed T (view first) (calls_by (OfDest d) made) (view y)) (some-same e.dest last (sym there ∙ is.at_last)) e.run

pub fronts-next : FrontsAreNext
fronts-next old new made start before events d first last ran is earlier later most place n count messages answer calls few =
    let T : Type 0 = IsBufferTold old.stores first.setup.buffer in
    let run = subst (λ es. RunViewed T (view first) es (view last)) calls (seen old new made start before events d first last ran is) in
    let next = shown-next T (view first) (view last) d most place n count messages answer earlier later run few in
    record {
      settles = next.0;
      shown = λ t. sym (take-map message_of n (drop place last.settled)) ∙ ap (take n) (sym (drop-map message_of place last.settled)) ∙ next.1 t;
    }

frames-of : (frame : Content → List ℕ) (es : List DestEntry) → map (λ (e : DestEntry). frame e.message) es ≡ map frame (map message_of es)
frames-of frame [] = refl
frames-of frame (e ∷ es) = ap (λ fs. frame e.message ∷ fs) (frames-of frame es)

added-behind : (first last : Dest) (added : List Content) → map message_of last.settled ≡ map message_of first.settled ++ added → map message_of (drop (length first.settled) last.settled) ≡ added
added-behind first last added h =
    sym (drop-map message_of (length first.settled) last.settled)
    ∙ ap (drop (length first.settled)) h
    ∙ ap (λ k. drop k (map message_of first.settled ++ added)) (sym (length-map first.settled message_of))
    ∙ drop-append_seam (map message_of first.settled) added

settled-count : (first last : Dest) (added : List Content) → map message_of last.settled ≡ map message_of first.settled ++ added → length last.settled ≡ length first.settled + length added
settled-count first last added h =
    sym (length-map last.settled message_of) ∙ ap length h ∙ length-append (map message_of first.settled) added ∙ ap (λ k. k + length added) (length-map first.settled message_of)

pub frames-settled : FramesAreSettled
frames-settled old new made start before events d first last ran is frame turns drain drain' calls are =
    let T : Type 0 = IsBufferTold old.stores first.setup.buffer in
    let run = subst (λ es. RunViewed T (view first) es (view last)) calls (seen old new made start before events d first last ran is) in
    let adds = turns-add T frame d turns drain drain' (view first) (view last) are run in
    let behind = added-behind first last adds.added adds.settled in
    let sum = settled-count first last adds.added adds.settled in
    let taken = turns-count frame d turns drain drain' are in
    let many = adds.count in
    record {
      count = omega (arith, sum, taken, many);
      told = λ t.
          turns-taken frame d turns drain drain' are
          ∙ ap (λ ms. option_map (λ (zs : List (List ℕ)). zs ++ map frame ms) drain.taken) (sym (adds.told t) ∙ sym behind)
          ∙ ap (λ fs. option_map (λ (zs : List (List ℕ)). zs ++ fs) drain.taken) (sym (frames-of frame (drop (length first.settled) last.settled)));
    }
