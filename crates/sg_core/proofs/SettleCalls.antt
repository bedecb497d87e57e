-- A settle is one event.
use Rattle.std.proofs.Common.{◌≡◌, ℕ, ◌+◌, ◌-◌, ◌<◌, ◌≤◌, List, [], ◌∷◌, ◌++◌, length, take, drop, Some, None, Option, Bool, true, false, not, refl, sym, ap, ◌∙◌, arith, suc, zero, map, slice_get, subst, ◌⊎◌, inl, inr, min, if◌then◌else◌}
use Rattle.std.specs.Prelude.{◌==◌, nat_lt, nat_le}
use Rattle.std.proofs.lemmas.List.{append-nil, length-map}
use Rattle.sg_list.specs.Lists.{change}
use Rattle.sg_list.proofs.ListLemmas.{get-change-same, map-kept}
use Rattle.sg_device.specs.Disk.{Within}
use Rattle.sg_queue.specs.declared.entry.Entry.{Entry as Waiting}
use Rattle.sg_machine.specs.declared.event.Act.{Act}
use Rattle.sg_machine.specs.declared.event.Act.TheVariants.{Settle}
use Rattle.sg_machine.specs.declared.event.Event.{Event}
use Rattle.sg_machine.specs.declared.setup.BufferSetup.{BufferSetup}
use Rattle.sg_machine.specs.declared.state.Dest.{Dest}
use Rattle.sg_machine.specs.declared.state.DestEntry.{DestEntry}
use Rattle.sg_machine.specs.declared.state.State.{State}
use Rattle.sg_machine.specs.Effects.{settled_some}
use Rattle.sg_machine.specs.Legal.{is_legal_act, works, at_most_this, may_settle, store_of}
use Rattle.sg_machine.specs.Runs.{BufferedEntry, after_all}
use Rattle.sg_machine.specs.Safe.{failed_entries, spooled_of}
use Rattle.sg_machine.specs.Verdicts.{is_listed}
use Rattle.sg_machine.proofs.MoveLemmas.{settle-some, change-twice, change-self}
use Rattle.sg_sinks.specs.Fitting.{space}
use Rattle.sg_sinks.specs.Laws.{Settling}
use Rattle.sg_sinks.specs.Settling.{settled_first}
use Rattle.sg_sinks.specs.Standing.{are_split, is_split_by, lengths_of, waiting_from, sink_of}
use Rattle.sg_sinks.specs.States.{SinkState, with_broken}
use Rattle.sg_sinks.proofs.LeftLemmas.{waiting-split}
use Rattle.sg_sinks.proofs.SettleSteps.{lengths-drop, settling}
use Rattle.sg_stores.specs.Advancing.{IsListOrRest, AdvancesStore, AdvancesAt}
use Rattle.sg_stores.specs.Stores.{StoreState, HasBufferSize, HoldsEntries, length_of}
use Rattle.sg_standing.specs.Sources.{acked_at, acks, acks_all}
use Rattle.sg_standing.specs.States.{CoreState}
use Rattle.sg_standing.specs.Standing.{IsAt, AreSpellable, IsBufferOf, IsBacked, IsSafeStore, DoesAct, is_broken, sources_from, failed_then}
use Rattle.sg_standing.specs.declared.source.Source.{Source}
use Rattle.sg_standing.proofs.Calls.{does-of, quiet, all-go-touched, risen-none, risen-touched, positions-buffer, lists-buffer}
use Rattle.sg_standing.proofs.More.{backed, within-map}
use Rattle.sg_standing.proofs.Safes.{safe-same}
use Rattle.sg_core.specs.Parts.{CanAckAll}
use Rattle.sg_core.specs.Steps.{TakesOff}
use Rattle.sg_core.specs.Whole.{IsWholeCore}
use Rattle.sg_core.proofs.AtSteps.{setup-parts, listed-last, listed-other}
use Rattle.sg_core.proofs.DestSteps.{at-dest, dest-of, leaves-same, leaves-one, broken-listed}
use Rattle.sg_core.proofs.Fits.{left-length}
use Rattle.sg_core.proofs.SettleSteps.{settles-all}
use Rattle.sg_core.proofs.Spooled.{lengths-spooled, spooled-drop, safe-dropped}

pub any-split : (o : Option BufferSetup) (left : List DestEntry) → is_split_by o left ≡ true → are_split left ≡ true
any-split None left h = waiting-split left h
any-split (Some b) left h = h

drop-spells : (o : Option BufferSetup) (n : ℕ) (es : List DestEntry) → AreSpellable o es → AreSpellable o (drop n es)
drop-spells o zero es h = h
drop-spells o (suc n) [] h = tt
drop-spells o (suc n) (e ∷ es) h = drop-spells o n es h.1

-- What is settled at a state that a core is at.

pub record SettlesAt (old new : CoreState) (s : State) (d n : ℕ) (sink : SinkState) : Type 0 where
  pub dest : Dest
  pub there : slice_get s.dests d ≡ Some dest
  pub shown : sink ≡ sink_of (is_broken s.failed dest) dest
  pub few : n ≤ length dest.left
  pub split : are_split dest.left ≡ true
  pub can : CanAckAll old.sources (take (n - length sink.lengths) sink.entries)
  pub sources : new.sources ≡ acks_all old.sources (take (n - length sink.lengths) sink.entries) → new.sources ≡ sources_from (change s.dests d (settled_some n)) 0 s.inlets
  pub settles : Settling dest (is_broken s.failed dest) n
  pub spells : AreSpellable dest.setup.buffer (drop n dest.left)

pub settles-at : (old new : CoreState) (s : State) (d n : ℕ) (sink : SinkState) → IsAt old s → slice_get old.sinks d ≡ Some sink → n ≤ length sink.lengths + length sink.entries → SettlesAt old new s d n sink
settles-at old new s d n sink at there l =
    let v = dest-of old s d sink at there in
    let p : ℕ = length (v.dest).settled + length (lengths_of (v.dest).left) in
    let len = left-length p (v.dest).left in
    let ls : sink.lengths ≡ lengths_of (v.dest).left = ap (λ (k : SinkState). k.lengths) v.shown in
    let es : sink.entries ≡ waiting_from p (v.dest).left = ap (λ (k : SinkState). k.entries) v.shown in
    let lsl = ap length ls in
    let esl = ap length es in
    let few : n ≤ length (v.dest).left = omega (arith, l, len, lsl, esl) in
    let split = any-split (v.dest).setup.buffer (v.dest).left (at.sound.split d v.dest v.there) in
    let a = settles-all n s d p v.dest at.sound.replayed v.there split few in
    let waits : take (n - length sink.lengths) sink.entries ≡ take (n - length (lengths_of (v.dest).left)) (waiting_from p (v.dest).left) =
    ap (λ ks. take (n - length ks) sink.entries) ls ∙ ap (λ ks. take (n - length (lengths_of (v.dest).left)) ks) es in
    record {
      dest = v.dest;
      there = v.there;
      shown = v.shown;
      few = few;
      split = split;
      can = subst (λ (ks : List Waiting). CanAckAll old.sources ks) (sym waits) (subst (λ (xs : List Source). CanAckAll xs (take (n - length (lengths_of (v.dest).left)) (waiting_from p (v.dest).left))) (sym at.sources) a.can);
      sources = λ h. h ∙ ap (λ xs. acks_all xs (take (n - length sink.lengths) sink.entries)) at.sources ∙ ap (acks_all (sources_from s.dests 0 s.inlets)) waits ∙ sym a.after;
      settles = settling v.dest (is_broken s.failed v.dest) n few (at.sound.split d v.dest v.there);
      spells = drop-spells (v.dest).setup.buffer n (v.dest).left (at.sound.spellable d v.dest v.there);
    }

-- Whether it is legal.

may-settle : (n : ℕ) (dest : Dest) → 0 < n → n ≤ length dest.left → may_settle n dest ≡ true
may-settle n dest some few =
    let a : nat_lt 0 n ≡ true = grind (arith, some) in
    let b : nat_le n (length dest.left) ≡ true = grind (arith, few) in
    rw (a, b) refl

legal-by : (s : State) (d n : ℕ) (dest : Dest) (failed : List ℕ) → slice_get s.dests d ≡ Some dest → may_settle n dest ≡ true → at_most_this s.failed (store_of dest) failed ≡ true → is_legal_act s (Settle d n) failed ≡ true
legal-by s d n dest failed there may most = rw (there, may, most) refl

fails-this : (failed : List ℕ) (dest : Dest) (b : BufferSetup) → dest.setup.buffer ≡ Some b → is_listed b.store failed ≡ false → at_most_this failed (store_of dest) (b.store ∷ []) ≡ true
fails-this failed dest b has l =
    let q : (b.store == b.store) ≡ true = grind arith in
    rw (has, l, q) refl

-- The setup stays.

settled-setup : (sinks : List SinkState) (d n : ℕ) → map (λ (k : SinkState). k.setup) (change sinks d (settled_first n)) ≡ map (λ (k : SinkState). k.setup) sinks
settled-setup sinks d n = map-kept (λ (k : SinkState). k.setup) (settled_first n) sinks d (λ k. refl)

ack-setup : (xs : List Source) (e : Waiting) (b : Bool) → map (λ (x : Source). x.setup) (if b then change xs e.inlet (acked_at e.number) else xs) ≡ map (λ (x : Source). x.setup) xs
ack-setup xs e true = map-kept (λ (x : Source). x.setup) (acked_at e.number) xs e.inlet (λ x. refl)
ack-setup xs e false = refl

pub acks-setup : (xs : List Source) (es : List Waiting) → map (λ (x : Source). x.setup) (acks_all xs es) ≡ map (λ (x : Source). x.setup) xs
acks-setup xs [] = refl
acks-setup xs (e ∷ es) = acks-setup (acks xs e) es ∙ ack-setup xs e e.flow

-- Stores that stay.

drop-all : (n : ℕ) (ns : List ℕ) → min (length ns) n ≡ 0 → drop n ns ≡ ns
drop-all zero ns h = refl
drop-all (suc n) [] h = refl
drop-all (suc n) (x ∷ ns) h = absurd (omega (arith, h))

drop-kept : (n : ℕ) (ks : List BufferedEntry) → min (length ks) n ≡ 0 → drop n ks ≡ ks
drop-kept zero ks h = refl
drop-kept (suc n) [] h = refl
drop-kept (suc n) (x ∷ ks) h = absurd (omega (arith, h))

-- a destination that settles nothing of its disk
still-backed : (stores : List StoreState) (failed : List ℕ) (b : BufferSetup) (dest : Dest) (n : ℕ) → are_split dest.left ≡ true → is_listed b.store failed ≡ true ⊎ (min (length (lengths_of dest.left)) n ≡ 0) → IsBacked stores failed b dest → IsBacked stores failed b (settled_some n dest)
still-backed stores failed b dest n split why h = record {
  store = h.store;
  there = h.there;
  is = record {
    failed_is = (h.is).failed_is;
    sized = λ w. elim why [
      | inl broken ↦ (let wrong : true ≡ false = sym ((h.is).failed_is ∙ broken) ∙ w in cc)
      | inr none ↦ (
          let same : lengths_of (drop n dest.left) ≡ lengths_of dest.left = lengths-drop n dest.left split ∙ drop-all n (lengths_of dest.left) none in
          subst (λ (ns : List ℕ). HasBufferSize b.capacity ns (h.store).buffer) (sym same) ((h.is).sized w))
    ];
    works = λ w. elim why [
      | inl broken ↦ (let wrong : true ≡ false = sym ((h.is).failed_is ∙ broken) ∙ w in cc)
      | inr none ↦ (
          let len : length (lengths_of dest.left) ≡ length (spooled_of dest.left) = ap length (lengths-spooled dest.left) ∙ length-map (spooled_of dest.left) length_of in
          let few : min (length (spooled_of dest.left)) n ≡ 0 = ap (λ m. min m n) (sym len) ∙ none in
          let same : spooled_of (drop n dest.left) ≡ spooled_of dest.left = spooled-drop n dest.left split ∙ drop-kept n (spooled_of dest.left) few in
          subst (λ (ks : List BufferedEntry). HoldsEntries h.store ks []) (sym same) ((h.is).works w))
    ];
  };
}

-- the broken ones stay broken
with-broken : (sink : SinkState) (n : ℕ) → sink.broken ≡ true → with_broken (settled_first n sink) ≡ settled_first n sink
with-broken sink n h = rw h refl

-- a settle that leaves all stores
quiet-settle : (old new : CoreState) (d n : ℕ) (sink : SinkState) → slice_get old.sinks d ≡ Some sink → 0 < n → n ≤ length sink.lengths + length sink.entries → new.sources ≡ acks_all old.sources (take (n - length sink.lengths) sink.entries)
    → new.sinks ≡ change old.sinks d (settled_first n) → new.stores ≡ old.stores → new.calls ≡ old.calls + 1 → ((b : BufferSetup) → sink.setup.buffer ≡ Some b → (sink.broken ≡ true) ⊎ (min (length sink.lengths) n ≡ 0)) → DoesAct old new (Settle d n)
quiet-settle old new d n sink there some l sources sinks stores calls why =
    quiet old new (Settle d n) stores calls (setup-parts old new (ap (map (λ (x : Source). x.setup)) sources ∙ acks-setup old.sources (take (n - length sink.lengths) sink.entries)) (ap (map (λ (k : SinkState). k.setup)) sinks ∙ settled-setup old.sinks d n))
    (λ s at.
    let v = settles-at old new s d n sink at there l in
    let dest = v.dest in
    let one = settle-some s d n dest at.sound.replayed v.there v.few in
    let nil = append-nil s.failed in
    let shown : sink_of (is_broken (s.failed ++ []) (settled_some n dest)) (settled_some n dest) ≡ settled_first n (sink_of (is_broken s.failed dest) dest) =
    ap (λ fs. sink_of (is_broken fs dest) (settled_some n dest)) nil ∙ (v.settles).seen in
    let leaves = leaves-same old.stores new.stores s.failed (settled_some n dest) stores (λ b h.
    let has : sink.setup.buffer ≡ Some b = ap (λ (k : SinkState). k.setup.buffer) v.shown ∙ h in
    let ls : sink.lengths ≡ lengths_of dest.left = ap (λ (k : SinkState). k.lengths) v.shown in
    let br : sink.broken ≡ is_listed b.store s.failed = ap (λ (k : SinkState). k.broken) v.shown ∙ broken-listed s.failed dest b h in
    still-backed old.stores s.failed b dest n v.split (elim (why b has) [
      | inl q ↦ inl (sym br ∙ q)
      | inr q ↦ inr (ap (λ ks. min (length ks) n) (sym ls) ∙ q)
    ]) (at.buffers d dest b v.there h)) in
    (legal-by s d n dest [] v.there (may-settle n dest some v.few) refl, at-dest old new s d (settled_some n) dest (settled_first n) [] at v.there (λ x. refl) (v.settles).split v.spells one.sound (v.sources sources) sinks shown leaves))

-- Stores that advance.

rest-safe : (dest : Dest) (d n k : ℕ) (failed : List ℕ) (tried : List BufferedEntry) (bytes : List ℕ) → are_split dest.left ≡ true → k ≡ min n (length (spooled_of dest.left)) → IsListOrRest k (spooled_of dest.left) bytes → IsSafeStore dest d (Settle d n) failed tried bytes
rest-safe dest d n k failed tried bytes split at h =
    elim h [
      | inl whole ↦ record { list = spooled_of dest.left; entries = whole; safe = safe-same dest d (Settle d n) failed tried }
      | inr rest ↦ record { list = drop k (spooled_of dest.left); entries = rest; safe = safe-dropped dest d n k failed tried split at }
    ]

pub drop-min : {A : Type 0} (n : ℕ) (xs : List A) → drop (min (length xs) n) xs ≡ drop n xs
drop-min zero xs = let z : min (length xs) 0 ≡ 0 = omega arith in rw z refl
drop-min (suc n) [] = let z : min 0 (suc n) ≡ 0 = omega arith in rw z refl
drop-min (suc n) (x ∷ xs) = let z : min (suc (length xs)) (suc n) ≡ suc (min (length xs) n) = omega arith in rw z (drop-min n xs)

pub take-min : {A : Type 0} (n : ℕ) (xs : List A) → take (min (length xs) n) xs ≡ take n xs
take-min zero xs = let z : min (length xs) 0 ≡ 0 = omega arith in rw z refl
take-min (suc n) [] = let z : min 0 (suc n) ≡ 0 = omega arith in rw z refl
take-min (suc n) (x ∷ xs) = let z : min (suc (length xs)) (suc n) ≡ suc (min (length xs) n) = omega arith in rw z (ap (λ ys. x ∷ ys) (take-min n xs))

-- the store of the destination's disk-buffer, which works
pub record IsWorking (old : CoreState) (s : State) (dest : Dest) (b : BufferSetup) (was : StoreState) : Type 0 where
  pub unlisted : is_listed b.store s.failed ≡ false
  pub running : was.failed ≡ false
  pub sized : HasBufferSize b.capacity (lengths_of dest.left) was.buffer
  pub holds : HoldsEntries was (spooled_of dest.left) []

pub working : (old : CoreState) (s : State) (d : ℕ) (dest : Dest) (b : BufferSetup) (sink : SinkState) (was : StoreState) → IsAt old s → slice_get s.dests d ≡ Some dest → sink ≡ sink_of (is_broken s.failed dest) dest → dest.setup.buffer ≡ Some b → sink.broken ≡ false
    → slice_get old.stores b.store ≡ Some was → IsWorking old s dest b was
working old s d dest b sink was at there shown has works get =
    let backed_by = at.buffers d dest b there has in
    let same = backed old s d dest b was at there has get in
    let unlisted : is_listed b.store s.failed ≡ false = sym (broken-listed s.failed dest b has) ∙ ap (λ (k : SinkState). k.broken) (sym shown) ∙ works in
    let is : IsBufferOf was b dest (is_listed b.store s.failed) = subst (λ (x : StoreState). IsBufferOf x b dest (is_listed b.store s.failed)) same backed_by.is in
    let running : was.failed ≡ false = is.failed_is ∙ unlisted in
    record { unlisted = unlisted; running = running; sized = is.sized running; holds = is.works running }

settled-within : (old : CoreState) (start : State) (events : List Event) (e : Event) (d n k : ℕ) (dest : Dest) (b : BufferSetup) (was now : StoreState) (size : ℕ) → e.act ≡ Settle d n → are_split dest.left ≡ true → k ≡ min n (length (spooled_of dest.left)) → HoldsEntries was (spooled_of dest.left) []
    → AdvancesStore was now k size → Within was.disk now.disk (IsSafeStore dest d e.act (failed_then start events e) (failed_entries start (events ++ e ∷ []) d))
settled-within old start events e d n k dest b was now size act split at holds a =
    let tried = failed_entries start (events ++ e ∷ []) d in
    let w = within-map was.disk now.disk (IsListOrRest k (spooled_of dest.left)) (IsSafeStore dest d (Settle d n) (failed_then start events e) tried) (λ bytes h. rest-safe dest d n k (failed_then start events e) tried bytes split at h) (a.within (spooled_of dest.left) holds) in
    subst (λ (x : Act). Within was.disk now.disk (IsSafeStore dest d x (failed_then start events e) tried)) (sym act) w

least-of : (dest : Dest) (k n : ℕ) (sink : SinkState) → sink.lengths ≡ lengths_of dest.left → k ≡ min (length sink.lengths) n → k ≡ min n (length (spooled_of dest.left))
least-of dest k n sink ls at =
    let a : length sink.lengths ≡ length (lengths_of dest.left) = ap length ls in
    let c : length (lengths_of dest.left) ≡ length (spooled_of dest.left) = ap length (lengths-spooled dest.left) ∙ length-map (spooled_of dest.left) length_of in
    omega (arith, at, a, c)

-- what the store has then
advanced-buffer : (dest : Dest) (b : BufferSetup) (was now : StoreState) (k n size : ℕ) (sink : SinkState) (broken : Bool) → are_split dest.left ≡ true → sink.lengths ≡ lengths_of dest.left → k ≡ min (length sink.lengths) n → size ≡ space (take n sink.lengths) → HasBufferSize b.capacity (lengths_of dest.left) was.buffer
    → HoldsEntries was (spooled_of dest.left) [] → now.failed ≡ false → broken ≡ false → AdvancesStore was now k size → IsBufferOf now b (settled_some n dest) broken
advanced-buffer dest b was now k n size sink broken split ls at sized has_size holds works unbroken a =
    let kl : k ≡ min (length (lengths_of dest.left)) n = at ∙ ap (λ ks. min (length ks) n) ls in
    let ks : k ≡ min (length (spooled_of dest.left)) n = (let l = least-of dest k n sink ls at in omega (arith, l)) in
    let spaced : size ≡ space (take k (lengths_of dest.left)) = sized ∙ ap (λ ns. space (take n ns)) ls ∙ ap space (sym (take-min n (lengths_of dest.left))) ∙ ap (λ m. space (take m (lengths_of dest.left))) (sym kl) in
    let lengths : drop k (lengths_of dest.left) ≡ lengths_of (drop n dest.left) = ap (λ m. drop m (lengths_of dest.left)) kl ∙ drop-min n (lengths_of dest.left) ∙ sym (lengths-drop n dest.left split) in
    let list : drop k (spooled_of dest.left) ≡ spooled_of (drop n dest.left) = ap (λ m. drop m (spooled_of dest.left)) ks ∙ drop-min n (spooled_of dest.left) ∙ sym (spooled-drop n dest.left split) in
    record {
      failed_is = works ∙ sym unbroken;
      sized = λ w. subst (λ (ns : List ℕ). HasBufferSize b.capacity ns now.buffer) lengths (a.sized works b.capacity (lengths_of dest.left) has_size spaced);
      works = λ w. subst (λ (es : List BufferedEntry). HoldsEntries now es []) list (a.holds works (spooled_of dest.left) holds);
    }

pub failed-buffer : (dest : Dest) (b : BufferSetup) (now : StoreState) (broken : Bool) → now.failed ≡ true → broken ≡ true → IsBufferOf now b dest broken
failed-buffer dest b now broken fails is = record {
  failed_is = fails ∙ sym is;
  sized = λ w. let wrong : true ≡ false = sym fails ∙ w in cc;
  works = λ w. let wrong : true ≡ false = sym fails ∙ w in cc;
}

-- the parts that each settle has
record SettleParts (old new : CoreState) (d n k size : ℕ) (sink : SinkState) : Type 0 where
  there : slice_get old.sinks d ≡ Some sink
  some : 0 < n
  few : n ≤ length sink.lengths + length sink.entries
  least : k ≡ min (length sink.lengths) n
  sized : size ≡ space (take n sink.lengths)
  sources : new.sources ≡ acks_all old.sources (take (n - length sink.lengths) sink.entries)
  calls : new.calls ≡ old.calls + 1

pub buffer-of : (s : State) (dest : Dest) (sink : SinkState) (b : BufferSetup) → sink ≡ sink_of (is_broken s.failed dest) dest → sink.setup.buffer ≡ Some b → dest.setup.buffer ≡ Some b
buffer-of s dest sink b shown h = ap (λ (k : SinkState). k.setup.buffer) (sym shown) ∙ h

pub not-true : (f : Bool) → true ≡ not f → f ≡ false
not-true true h = h
not-true false h = refl

pub not-false : (f : Bool) → false ≡ not f → f ≡ true
not-false true h = refl
not-false false h = h

advance-does : (old new : CoreState) (d n k size : ℕ) (sink : SinkState) (b : BufferSetup) (a : AdvancesAt old.stores new.stores b.store k size true) → SettleParts old new d n k size sink → sink.setup.buffer ≡ Some b → sink.broken ≡ false → new.sinks ≡ change old.sinks d (settled_first n)
    → DoesAct old new (Settle d n)
advance-does old new d n k size sink b a p has works sinks =
    let fine : (a.new).failed ≡ false = not-true (a.new).failed a.answer in
    does-of old new (Settle d n) [] (risen-none old.stores new.stores) (all-go-touched old.stores new.stores b.store a.old a.new a.was a.others (a.advances).goes) p.calls
    (setup-parts old new (ap (map (λ (x : Source). x.setup)) p.sources ∙ acks-setup old.sources (take (n - length sink.lengths) sink.entries)) (ap (map (λ (k : SinkState). k.setup)) sinks ∙ settled-setup old.sinks d n))
    (λ s at.
    let v = settles-at old new s d n sink at p.there p.few in
    let dest = v.dest in
    let had = buffer-of s dest sink b v.shown has in
    let w = working old s d dest b sink a.old at v.there v.shown had works a.was in
    let one = settle-some s d n dest at.sound.replayed v.there v.few in
    let nil = append-nil s.failed in
    let ls : sink.lengths ≡ lengths_of dest.left = ap (λ (k : SinkState). k.lengths) v.shown in
    let unlisted : is_listed b.store (s.failed ++ []) ≡ false = ap (is_listed b.store) nil ∙ w.unlisted in
    let is = advanced-buffer dest b a.old a.new k n size sink (is_listed b.store (s.failed ++ [])) v.split ls p.least p.sized w.sized w.holds fine unlisted a.advances in
    let leaves = leaves-one old.stores new.stores s.failed [] (settled_some n dest) b a.old a.new had a.was a.others is (λ u ne. ap (is_listed u) nil) in
    let shown : sink_of (is_broken (s.failed ++ []) (settled_some n dest)) (settled_some n dest) ≡ settled_first n (sink_of (is_broken s.failed dest) dest) =
    ap (λ fs. sink_of (is_broken fs dest) (settled_some n dest)) nil ∙ (v.settles).seen in
    (legal-by s d n dest [] v.there (may-settle n dest p.some v.few) refl, at-dest old new s d (settled_some n) dest (settled_first n) [] at v.there (λ x. refl) (v.settles).split v.spells one.sound (v.sources p.sources) sinks shown leaves))
    (λ start events h.
    let s = after_all start events in
    let v = settles-at old new s d n sink h.at p.there p.few in
    positions-buffer old new.stores start events (record { act = Settle d n; failed = [] }) d v.dest b a.old a.new h v.there (buffer-of s v.dest sink b v.shown has) a.was a.others)
    (λ start events h.
    let s = after_all start events in
    let e : Event = record { act = Settle d n; failed = [] } in
    let v = settles-at old new s d n sink h.at p.there p.few in
    let had = buffer-of s v.dest sink b v.shown has in
    let w = working old s d v.dest b sink a.old h.at v.there v.shown had works a.was in
    let ls : sink.lengths ≡ lengths_of (v.dest).left = ap (λ (k : SinkState). k.lengths) v.shown in
    lists-buffer old new.stores start events e d v.dest b a.old a.new h v.there had a.was a.others (inr (settled-within old start events e d n k v.dest b a.old a.new size refl v.split (least-of v.dest k n sink ls p.least) w.holds a.advances)))

fail-does : (old new : CoreState) (d n k size : ℕ) (sink : SinkState) (b : BufferSetup) (whole : IsWholeCore old) (a : AdvancesAt old.stores new.stores b.store k size false) → SettleParts old new d n k size sink → sink.setup.buffer ≡ Some b → sink.broken ≡ false
    → new.sinks ≡ change (change old.sinks d (settled_first n)) d with_broken → DoesAct old new (Settle d n)
fail-does old new d n k size sink b whole a p has works sinks =
    let seen = dest-of old whole.state d sink whole.at p.there in
    let runs = working old whole.state d seen.dest b sink a.old whole.at seen.there seen.shown (buffer-of whole.state seen.dest sink b seen.shown has) works a.was in
    let fails : (a.new).failed ≡ true = not-false (a.new).failed a.answer in
    let u : ℕ = b.store in
    let both : new.sinks ≡ change old.sinks d (λ (x : SinkState). with_broken (settled_first n x)) = sinks ∙ change-twice old.sinks d (settled_first n) with_broken in
    does-of old new (Settle d n) (u ∷ []) (risen-touched old.stores new.stores u a.old a.new a.was a.others ((a.advances).cause runs.running fails)) (all-go-touched old.stores new.stores u a.old a.new a.was a.others (a.advances).goes) p.calls
    (setup-parts old new (ap (map (λ (x : Source). x.setup)) p.sources ∙ acks-setup old.sources (take (n - length sink.lengths) sink.entries)) (ap (map (λ (x : SinkState). x.setup)) both ∙ map-kept (λ (x : SinkState). x.setup) (λ (x : SinkState). with_broken (settled_first n x)) old.sinks d (λ x. refl)))
    (λ s at.
    let v = settles-at old new s d n sink at p.there p.few in
    let dest = v.dest in
    let had = buffer-of s dest sink b v.shown has in
    let w = working old s d dest b sink a.old at v.there v.shown had works a.was in
    let one = settle-some s d n dest at.sound.replayed v.there v.few in
    let listed = listed-last s.failed u in
    let is = failed-buffer (settled_some n dest) b a.new (is_listed u (s.failed ++ u ∷ [])) fails listed in
    let leaves = leaves-one old.stores new.stores s.failed (u ∷ []) (settled_some n dest) b a.old a.new had a.was a.others is (λ x ne. listed-other s.failed u x ne) in
    let shown : sink_of (is_broken (s.failed ++ u ∷ []) (settled_some n dest)) (settled_some n dest) ≡ with_broken (settled_first n (sink_of (is_broken s.failed dest) dest)) =
    ap (λ x. sink_of x (settled_some n dest)) (broken-listed (s.failed ++ u ∷ []) dest b had ∙ listed) ∙ ap with_broken (v.settles).seen in
    (legal-by s d n dest (u ∷ []) v.there (may-settle n dest p.some v.few) (fails-this s.failed dest b had w.unlisted), at-dest old new s d (settled_some n) dest (λ (x : SinkState). with_broken (settled_first n x)) (u ∷ []) at v.there (λ x. refl) (v.settles).split v.spells one.sound (v.sources p.sources) both shown leaves))
    (λ start events h.
    let s = after_all start events in
    let v = settles-at old new s d n sink h.at p.there p.few in
    positions-buffer old new.stores start events (record { act = Settle d n; failed = u ∷ [] }) d v.dest b a.old a.new h v.there (buffer-of s v.dest sink b v.shown has) a.was a.others)
    (λ start events h.
    let s = after_all start events in
    let e : Event = record { act = Settle d n; failed = u ∷ [] } in
    let v = settles-at old new s d n sink h.at p.there p.few in
    let had = buffer-of s v.dest sink b v.shown has in
    let w = working old s d v.dest b sink a.old h.at v.there v.shown had works a.was in
    let ls : sink.lengths ≡ lengths_of (v.dest).left = ap (λ (k : SinkState). k.lengths) v.shown in
    lists-buffer old new.stores start events e d v.dest b a.old a.new h v.there had a.was a.others (inr (settled-within old start events e d n k v.dest b a.old a.new size refl v.split (least-of v.dest k n sink ls p.least) w.holds a.advances)))

-- The call, by what its store does.

-- whether the store works decides what is left of the destination
abbrev pub settled_sinks : Bool → List SinkState → ℕ → ℕ → List SinkState
settled_sinks true sinks d n = change sinks d (settled_first n)
settled_sinks false sinks d n = change (change sinks d (settled_first n)) d with_broken

change-same-at : {A : Type 0} (xs : List A) (d : ℕ) (f : A → A) (x : A) → slice_get xs d ≡ Some x → f x ≡ x → change xs d f ≡ xs
change-same-at xs d f x h same = change-self xs d f x h same

advances-by : (old new : CoreState) (d n k size : ℕ) (sink : SinkState) (b : BufferSetup) (whole : IsWholeCore old) → SettleParts old new d n k size sink → sink.setup.buffer ≡ Some b → sink.broken ≡ false → (works : Bool)
    → AdvancesAt old.stores new.stores b.store k size works → new.sinks ≡ settled_sinks works old.sinks d n → DoesAct old new (Settle d n)
advances-by old new d n k size sink b whole p has is true a sinks = advance-does old new d n k size sink b a p has is sinks
advances-by old new d n k size sink b whole p has is false a sinks = fail-does old new d n k size sink b whole a p has is sinks

settle-by : (old new : CoreState) (d n k size : ℕ) (sink : SinkState) (whole : IsWholeCore old) (works : Bool) → SettleParts old new d n k size sink → (o : Option BufferSetup) → sink.setup.buffer ≡ o → (broken : Bool) → sink.broken ≡ broken
    → TakesOff old.stores new.stores o broken k size works → new.sinks ≡ settled_sinks works old.sinks d n → DoesAct old new (Settle d n)
settle-by old new d n k size sink whole works p None has broken is t sinks =
    let all : new.sinks ≡ change old.sinks d (settled_first n) = sinks ∙ ap (λ w. settled_sinks w old.sinks d n) t.1 in
    quiet-settle old new d n sink p.there p.some p.few p.sources all t.0 p.calls (λ b h. let wrong : None ≡ Some b = sym has ∙ h in cc)
settle-by old new d n k size sink whole works p (Some b) has true is t sinks =
    let done = get-change-same old.sinks d (settled_first n) sink p.there in
    let all : new.sinks ≡ change old.sinks d (settled_first n) =
    sinks ∙ ap (λ w. settled_sinks w old.sinks d n) t.1 ∙ change-same-at (change old.sinks d (settled_first n)) d with_broken (settled_first n sink) done (with-broken sink n is) in
    quiet-settle old new d n sink p.there p.some p.few p.sources all t.0 p.calls (λ c h. inl is)
settle-by old new d n k size sink whole works p (Some b) has false is t sinks =
    elim t [
      | inl none ↦ (
          let all : new.sinks ≡ change old.sinks d (settled_first n) = sinks ∙ ap (λ w. settled_sinks w old.sinks d n) none.2 in
          quiet-settle old new d n sink p.there p.some p.few p.sources all none.1 p.calls (λ c h. inr (sym p.least ∙ none.0)))
      | inr some ↦ advances-by old new d n k size sink b whole p has is works some.1 sinks
    ]

pub settle-does : (old new : CoreState) (d n k size : ℕ) (sink : SinkState) (whole : IsWholeCore old) (works : Bool) → slice_get old.sinks d ≡ Some sink → 0 < n → n ≤ length sink.lengths + length sink.entries → k ≡ min (length sink.lengths) n → size ≡ space (take n sink.lengths)
    → new.sources ≡ acks_all old.sources (take (n - length sink.lengths) sink.entries) → new.calls ≡ old.calls + 1 → TakesOff old.stores new.stores sink.setup.buffer sink.broken k size works → new.sinks ≡ settled_sinks works old.sinks d n → DoesAct old new (Settle d n)
settle-does old new d n k size sink whole works there some few least sized sources calls t sinks =
    settle-by old new d n k size sink whole works (record { there = there; some = some; few = few; least = least; sized = sized; sources = sources; calls = calls }) sink.setup.buffer refl sink.broken refl t sinks
