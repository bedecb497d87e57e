-- A refill is one event.
use Rattle.std.proofs.Common.{◌≡◌, ℕ, ◌+◌, ◌-◌, ◌<◌, ◌≤◌, ◌^◌, List, [], ◌∷◌, ◌++◌, length, take, drop, Some, Option, Bool, true, false, refl, sym, ap, ◌∙◌, arith, suc, zero, map, slice_get, subst, inr, min, if◌then◌else◌}
use Rattle.std.specs.Prelude.{◌==◌, nat_lt, nat_le}
use Rattle.std.specs.Option.{option_map_or}
use Rattle.std.proofs.lemmas.List.{append-nil}
use Rattle.sg_list.specs.Lists.{change}
use Rattle.sg_msg.specs.Length.{encoded_len}
use Rattle.sg_device.specs.Disk.{Within}
use Rattle.sg_queue.specs.declared.entry.Entry.{Entry as Waiting}
use Rattle.sg_machine.specs.declared.event.Act.{Act}
use Rattle.sg_machine.specs.declared.event.Act.TheVariants.{Refill, Look}
use Rattle.sg_machine.specs.declared.event.Event.{Event}
use Rattle.sg_machine.specs.declared.setup.BufferSetup.{BufferSetup}
use Rattle.sg_machine.specs.declared.state.Dest.{Dest}
use Rattle.sg_machine.specs.declared.state.DestEntry.{DestEntry}
use Rattle.sg_machine.specs.declared.state.State.{State}
use Rattle.sg_machine.specs.Effects.{refilled_some, spool_first, spool_some}
use Rattle.sg_machine.specs.Legal.{is_legal_act, works, may_refill, fit_in_turn, store_of}
use Rattle.sg_machine.specs.Runs.{BufferedEntry, after_all, are_legal}
use Rattle.sg_machine.specs.Safe.{IsSafeList, appends, settled_by, failed_entries, spooled_of, waiting, has_failed}
use Rattle.sg_machine.specs.Verdicts.{is_listed}
use Rattle.sg_machine.proofs.MoveLemmas.{move-some}
use Rattle.sg_sinks.specs.Fitting.{space}
use Rattle.sg_sinks.specs.Standing.{are_split, lengths_of, waiting_from, sink_of, blocks_of}
use Rattle.sg_sinks.specs.States.{SinkState, with_broken}
use Rattle.sg_stores.specs.Appending.{IsListWithSome, IsAppended}
use Rattle.sg_stores.specs.Stores.{StoreState, HasBufferSize, HoldsEntries, length_of}
use Rattle.sg_standing.specs.Sources.{acks_all}
use Rattle.sg_standing.specs.States.{CoreState}
use Rattle.sg_standing.specs.Standing.{IsAt, AreSpellable, IsBufferOf, IsSafeStore, DoesAct, is_broken, sources_from, failed_then}
use Rattle.sg_standing.specs.declared.source.Source.{Source}
use Rattle.sg_standing.proofs.Calls.{does-of, all-go-touched, risen-none, risen-touched, positions-buffer, lists-buffer}
use Rattle.sg_standing.proofs.More.{within-map, broken-store}
use Rattle.sg_standing.proofs.Safes.{spooled-left}
use Rattle.sg_standing.proofs.Unfailed.{entries-now}
use Rattle.sg_core.specs.Parts.{CanAckAll, FitSome, moved_some}
use Rattle.sg_core.specs.Steps.{AreNext, AppendsAt}
use Rattle.sg_core.specs.Whole.{IsWholeCore}
use Rattle.sg_core.proofs.AtSteps.{look-dest, listed-last, listed-other, setup-parts}
use Rattle.sg_core.proofs.DestSteps.{at-dest, dest-of, leaves-one, broken-listed}
use Rattle.sg_core.proofs.FrontCalls.{look-at}
use Rattle.sg_core.proofs.RefillSteps.{moves-sink, moves-acks, are-next}
use Rattle.sg_core.proofs.SettleCalls.{IsWorking, working, buffer-of, any-split, failed-buffer, acks-setup, not-true, not-false}
use Rattle.sg_core.proofs.Waits.{spooled-some, waits-length, waits-lengths}
use Rattle.sg_list.proofs.ListLemmas.{map-kept}

-- what the parts of a refill did
pub record RefillParts (old : CoreState) (news : List StoreState) (d n : ℕ) (answer : Bool) : Type 0 where
  pub sink : SinkState
  pub buffer : BufferSetup
  pub there : slice_get old.sinks d ≡ Some sink
  pub has : sink.setup.buffer ≡ Some buffer
  pub works : sink.broken ≡ false
  pub small : buffer.capacity ≤ 2 ^ 30
  pub some : 0 < n
  pub most : n ≤ 1000
  pub few : n ≤ length sink.entries
  pub fits : FitSome n buffer.capacity (space sink.lengths) sink.entries
  pub appends : AppendsAt old.stores news buffer.store sink.blocks n answer

length-taken : (n : ℕ) (ks : List BufferedEntry) → n ≤ length ks → length (take n ks) ≡ n
length-taken zero ks l = refl
length-taken (suc n) [] l = absurd (omega (arith, l))
length-taken (suc n) (k ∷ ks) l = ap suc (length-taken n ks (omega (arith, l)))

-- the destination at a state that the core is at
pub record RefillAt (old : CoreState) (news : List StoreState) (s : State) (d n : ℕ) (answer : Bool) (t : RefillParts old news d n answer) : Type 0 where
  pub dest : Dest
  pub there : slice_get s.dests d ≡ Some dest
  pub shown : (t.sink) ≡ sink_of (is_broken s.failed dest) dest
  pub had : dest.setup.buffer ≡ Some t.buffer
  pub split : are_split dest.left ≡ true
  pub p : ℕ
  pub entries : (t.sink).entries ≡ waiting_from p dest.left
  pub few : n ≤ length (waiting_from p dest.left)
  pub working_then : IsWorking old s dest t.buffer (t.appends).old
  pub appended : IsAppended (t.appends).old (t.appends).new (take n (waiting dest.left))

refill-at : (old : CoreState) (news : List StoreState) (s : State) (d n : ℕ) (answer : Bool) (t : RefillParts old news d n answer) → IsAt old s → RefillAt old news s d n answer t
refill-at old news s d n answer t at =
    let v = dest-of old s d t.sink at t.there in
    let dest = v.dest in
    let b = t.buffer in
    let had = buffer-of s dest t.sink b v.shown t.has in
    let p : ℕ = length dest.settled + length (lengths_of dest.left) in
    let es : (t.sink).entries ≡ waiting_from p dest.left = ap (λ (z : SinkState). z.entries) v.shown in
    let ls : (t.sink).lengths ≡ lengths_of dest.left = ap (λ (z : SinkState). z.lengths) v.shown in
    let bs : (t.sink).blocks ≡ blocks_of (Some b) dest.left = ap (λ (z : SinkState). z.blocks) v.shown ∙ ap (λ o. blocks_of o dest.left) had in
    let w = working old s d dest b t.sink (t.appends).old at v.there v.shown had t.works (t.appends).was in
    let few : n ≤ length (waiting_from p dest.left) = subst (λ (xs : List Waiting). n ≤ length xs) es t.few in
    let spells : AreSpellable (Some b) dest.left = subst (λ (o : Option BufferSetup). AreSpellable o dest.left) had (at.sound.spellable d dest v.there) in
    let nil : lengths_of dest.left ++ [] ≡ lengths_of dest.left = append-nil (lengths_of dest.left) in
    let fit : FitSome n b.capacity (space (lengths_of dest.left ++ [])) (waiting_from p dest.left) =
    subst (λ (xs : List Waiting). FitSome n b.capacity (space (lengths_of dest.left ++ [])) xs) es (subst (λ (ns : List ℕ). FitSome n b.capacity (space ns) (t.sink).entries) (ls ∙ sym nil) t.fits) in
    let next = are-next dest.left n b (t.appends).old (lengths_of dest.left) [] p t.small w.sized spells fit in
    let len : length (take n (waiting dest.left)) ≡ n = length-taken n (waiting dest.left) (let e = waits-length p dest.left in omega (arith, e, few)) in
    record {
      dest = dest;
      there = v.there;
      shown = v.shown;
      had = had;
      split = any-split dest.setup.buffer dest.left (at.sound.split d dest v.there);
      p = p;
      entries = es;
      few = few;
      working_then = w;
      appended = (t.appends).appends (take n (waiting dest.left)) len w.running (subst (λ (os : List (Option (List ℕ))). AreNext (t.appends).old [] os (take n (waiting dest.left))) (sym bs) next);
    }

-- The store works.

works-this : (failed : List ℕ) (dest : Dest) (b : BufferSetup) → dest.setup.buffer ≡ Some b → is_listed b.store failed ≡ false → works failed (store_of dest) ≡ true
works-this failed dest b has l = rw (has, l) refl

legal-refill : (s : State) (d n : ℕ) (dest : Dest) (b : BufferSetup) → slice_get s.dests d ≡ Some dest → dest.setup.buffer ≡ Some b → is_listed b.store s.failed ≡ false → 0 < n → n ≤ 1000 → fit_in_turn n b.capacity dest.left ≡ true → is_legal_act s (Refill d n) [] ≡ true
legal-refill s d n dest b there has l some most fits =
    let a = works-this s.failed dest b has l in
    let c : nat_lt 0 n ≡ true = grind (arith, some) in
    let e : nat_le n 1000 ≡ true = grind (arith, most) in
    let f : option_map_or (λ (x : BufferSetup). fit_in_turn n x.capacity dest.left) dest.setup.buffer false ≡ true = rw has fits in
    let may : may_refill n s.failed dest ≡ true = rw (a, c, e, f) refl in
    rw (there, may) refl

appended-safe : (dest : Dest) (d k : ℕ) (act : Act) (failed : List ℕ) (tried more list : List BufferedEntry) → list ≡ spooled_of dest.left ++ take k more → (if has_failed failed (store_of dest) then tried else appends act d dest) ≡ more → settled_by act d dest ≡ dest.settled
    → IsSafeList dest d act failed tried list
appended-safe dest d k act failed tried more list e h settled = record {
  gone = length (spooled_of dest.settled);
  added = k;
  parts = e ∙ ap (λ ks. ks ++ take k more) (sym (spooled-left dest)) ∙ ap (λ ks. drop (length (spooled_of dest.settled)) (spooled_of (dest.settled ++ dest.left)) ++ take k ks) (sym h);
  settled = let same = ap (λ (es : List DestEntry). length (spooled_of es)) settled in omega (arith, same);
  all_settled = λ f s. refl;
}

take-twice : (j n : ℕ) (ks : List BufferedEntry) → take j (take n ks) ≡ take (min j n) ks
take-twice zero n ks = let z : min 0 n ≡ 0 = omega arith in rw z refl
take-twice (suc j) zero ks = let z : min (suc j) 0 ≡ 0 = omega arith in rw z refl
take-twice (suc j) (suc n) [] = let z : min (suc j) (suc n) ≡ suc (min j n) = omega arith in rw z refl
take-twice (suc j) (suc n) (k ∷ ks) = let z : min (suc j) (suc n) ≡ suc (min j n) = omega arith in rw z (ap (λ xs. k ∷ xs) (take-twice j n ks))

not-failed : (failed : List ℕ) (dest : Dest) (b : BufferSetup) → dest.setup.buffer ≡ Some b → is_listed b.store failed ≡ false → has_failed failed (store_of dest) ≡ false
not-failed failed dest b has l = rw (has, l) refl

refills-here : (d n : ℕ) (dest : Dest) → appends (Refill d n) d dest ≡ take n (waiting dest.left)
refills-here d n dest = let q : (d == d) ≡ true = grind arith in rw q refl

-- within it each image has the list with the first of what is moved
moved-within : (start : State) (events : List Event) (d n : ℕ) (dest : Dest) (b : BufferSetup) (was now : StoreState) → dest.setup.buffer ≡ Some b → is_listed b.store (after_all start events).failed ≡ false → HoldsEntries was (spooled_of dest.left) [] → IsAppended was now (take n (waiting dest.left))
    → Within was.disk now.disk (IsSafeStore dest d (Refill d n) (failed_then start events (record { act = Refill d n; failed = [] })) (failed_entries start (events ++ record { act = Refill d n; failed = [] } ∷ []) d))
moved-within start events d n dest b was now has l holds a =
    let e : Event = record { act = Refill d n; failed = [] } in
    let tried = failed_entries start (events ++ e ∷ []) d in
    let unlisted : is_listed b.store (failed_then start events e) ≡ false = ap (is_listed b.store) (append-nil (after_all start events).failed) ∙ l in
    let fine = not-failed (failed_then start events e) dest b has unlisted in
    let more : (if has_failed (failed_then start events e) (store_of dest) then tried else appends (Refill d n) d dest) ≡ take n (waiting dest.left) = ap (λ f. if f then tried else appends (Refill d n) d dest) fine ∙ refills-here d n dest in
    within-map was.disk now.disk (IsListWithSome (spooled_of dest.left) (take n (waiting dest.left))) (IsSafeStore dest d (Refill d n) (failed_then start events e) tried)
    (λ bytes h. record { list = spooled_of dest.left ++ take h.taken (take n (waiting dest.left)); entries = h.entries; safe = appended-safe dest d h.taken (Refill d n) (failed_then start events e) tried (take n (waiting dest.left)) _ refl more refl })
    (a.within (spooled_of dest.left) holds)

-- and so it is where the store fails
unmoved-within : (start : State) (events : List Event) (d n : ℕ) (dest : Dest) (b : BufferSetup) (was now : StoreState) → are_legal start events ≡ true → slice_get (after_all start events).dests d ≡ Some dest → dest.setup.buffer ≡ Some b → is_listed b.store (after_all start events).failed ≡ false
    → HoldsEntries was (spooled_of dest.left) [] → IsAppended was now (take n (waiting dest.left))
    → Within was.disk now.disk (IsSafeStore dest d Look (failed_then start events (record { act = Look; failed = b.store ∷ [] })) (failed_entries start (events ++ record { act = Look; failed = b.store ∷ [] } ∷ []) d))
unmoved-within start events d n dest b was now legal there has l holds a =
    let e : Event = record { act = Look; failed = b.store ∷ [] } in
    let tried = failed_entries start (events ++ e ∷ []) d in
    let this : is_listed b.store (b.store ∷ []) ≡ true = (let q : (b.store == b.store) ≡ true = grind arith in rw q refl) in
    let is : tried ≡ waiting dest.left = entries-now start events e d dest b legal there has l this in
    let fails = broken-store dest b (failed_then start events e) has (listed-last (after_all start events).failed b.store) in
    let more : (if has_failed (failed_then start events e) (store_of dest) then tried else appends Look d dest) ≡ waiting dest.left = ap (λ f. if f then tried else appends Look d dest) fails ∙ is in
    within-map was.disk now.disk (IsListWithSome (spooled_of dest.left) (take n (waiting dest.left))) (IsSafeStore dest d Look (failed_then start events e) tried)
    (λ bytes h. record {
      list = spooled_of dest.left ++ take h.taken (take n (waiting dest.left));
      entries = h.entries;
      safe = appended-safe dest d (min h.taken n) Look (failed_then start events e) tried (waiting dest.left) _ (ap (λ ks. spooled_of dest.left ++ ks) (take-twice h.taken n (waiting dest.left))) more refl;
    })
    (a.within (spooled_of dest.left) holds)

-- what the store has then
moved-buffer : (dest : Dest) (b : BufferSetup) (was now : StoreState) (n p : ℕ) (broken : Bool) → are_split dest.left ≡ true → n ≤ length (waiting_from p dest.left) → lengths_of (spool_some n dest.left) ≡ lengths_of dest.left ++ map (λ (x : Waiting). encoded_len x.message) (take n (waiting_from p dest.left))
    → HasBufferSize b.capacity (lengths_of dest.left) was.buffer → HoldsEntries was (spooled_of dest.left) [] → now.failed ≡ false → broken ≡ false → IsAppended was now (take n (waiting dest.left)) → IsBufferOf now b (refilled_some n dest) broken
moved-buffer dest b was now n p broken split few lengths sized holds fine unbroken a = record {
  failed_is = fine ∙ sym unbroken;
  sized = λ w.
      let ns : lengths_of dest.left ++ map length_of (take n (waiting dest.left)) ≡ lengths_of (spool_some n dest.left) = ap (λ xs. lengths_of dest.left ++ xs) (waits-lengths dest.left n p) ∙ sym lengths in
      subst (λ (xs : List ℕ). HasBufferSize b.capacity xs now.buffer) ns (a.sized fine b.capacity (lengths_of dest.left) sized);
  works = λ w. subst (λ (ks : List BufferedEntry). HoldsEntries now ks []) (sym (spooled-some n dest.left p split few)) (a.holds fine (spooled_of dest.left) holds);
}

spell-by : (b : Bool) (o : Option BufferSetup) (e : DestEntry) (es : List DestEntry) → e.spooled ≡ b → AreSpellable o (e ∷ es) → AreSpellable o (spool_first es) → AreSpellable o (spool_first (e ∷ es))
spell-by true o e es h all rest = rw h (all.0, rest)
spell-by false o e es h all rest = rw h (all.0, all.1)

spell-first : (o : Option BufferSetup) (es : List DestEntry) → AreSpellable o es → AreSpellable o (spool_first es)
spell-first o [] h = tt
spell-first o (e ∷ es) h = spell-by e.spooled o e es refl h (spell-first o es h.1)

spell-some : (o : Option BufferSetup) (n : ℕ) (es : List DestEntry) → AreSpellable o es → AreSpellable o (spool_some n es)
spell-some o zero es h = h
spell-some o (suc n) es h = spell-some o n (spool_first es) (spell-first o es h)

pub refill-does : (old new : CoreState) (d n : ℕ) (t : RefillParts old new.stores d n true) → new.sources ≡ acks_all old.sources (take n (t.sink).entries) → new.sinks ≡ change old.sinks d (moved_some n) → new.calls ≡ old.calls + 1 → DoesAct old new (Refill d n)
refill-does old new d n t sources sinks calls =
    let a = t.appends in
    let b = t.buffer in
    let fine : (a.new).failed ≡ false = not-true (a.new).failed a.works in
    does-of old new (Refill d n) [] (risen-none old.stores new.stores) (all-go-touched old.stores new.stores b.store a.old a.new a.was a.others a.goes) calls
    (setup-parts old new (ap (map (λ (x : Source). x.setup)) sources ∙ acks-setup old.sources (take n (t.sink).entries)) (ap (map (λ (k : SinkState). k.setup)) sinks ∙ map-kept (λ (k : SinkState). k.setup) (moved_some n) old.sinks d (λ k. refl)))
    (λ s at.
    let r = refill-at old new.stores s d n true t at in
    let dest = r.dest in
    let w = r.working_then in
    let nil = append-nil s.failed in
    let fit : FitSome n b.capacity (space (sink_of (is_broken s.failed dest) dest).lengths) (sink_of (is_broken s.failed dest) dest).entries = subst (λ (z : SinkState). FitSome n b.capacity (space z.lengths) z.entries) r.shown t.fits in
    let m = moves-sink n dest b (is_broken s.failed dest) r.had (at.sound.split d dest r.there) fit in
    let acked = moves-acks n s d r.p b.capacity dest at.sound.replayed r.there r.split m.fits r.few in
    let replayed = (move-some s d n b.capacity dest at.sound.replayed r.there).sound m.fits in
    let unlisted : is_listed b.store (s.failed ++ []) ≡ false = ap (is_listed b.store) nil ∙ w.unlisted in
    let es : (sink_of (is_broken s.failed dest) dest).entries ≡ waiting_from r.p dest.left = ap (λ (z : SinkState). z.entries) (sym r.shown) ∙ r.entries in
    let lengths : lengths_of (spool_some n dest.left) ≡ lengths_of dest.left ++ map (λ (x : Waiting). encoded_len x.message) (take n (waiting_from r.p dest.left)) =
    ap (λ (z : SinkState). z.lengths) m.seen ∙ ap (λ xs. lengths_of dest.left ++ map (λ (x : Waiting). encoded_len x.message) (take n xs)) es in
    let is = moved-buffer dest b a.old a.new n r.p (is_listed b.store (s.failed ++ [])) r.split r.few lengths w.sized w.holds fine unlisted r.appended in
    let leaves = leaves-one old.stores new.stores s.failed [] (refilled_some n dest) b a.old a.new r.had a.was a.others is (λ u ne. ap (is_listed u) nil) in
    let shown : sink_of (is_broken (s.failed ++ []) (refilled_some n dest)) (refilled_some n dest) ≡ moved_some n (sink_of (is_broken s.failed dest) dest) = ap (λ fs. sink_of (is_broken fs dest) (refilled_some n dest)) nil ∙ m.seen in
    let sources_then : new.sources ≡ sources_from (change s.dests d (refilled_some n)) 0 s.inlets =
    sources ∙ ap (λ xs. acks_all xs (take n (t.sink).entries)) at.sources ∙ ap (λ xs. acks_all (sources_from s.dests 0 s.inlets) (take n xs)) r.entries ∙ sym acked.after in
    (legal-refill s d n dest b r.there r.had w.unlisted t.some t.most m.fits, at-dest old new s d (refilled_some n) dest (moved_some n) [] at r.there (λ x. refl) m.split (spell-some dest.setup.buffer n dest.left (at.sound.spellable d dest r.there)) replayed sources_then sinks shown leaves))
    (λ start events h.
    let r = refill-at old new.stores (after_all start events) d n true t h.at in
    positions-buffer old new.stores start events (record { act = Refill d n; failed = [] }) d r.dest b a.old a.new h r.there r.had a.was a.others)
    (λ start events h.
    let r = refill-at old new.stores (after_all start events) d n true t h.at in
    lists-buffer old new.stores start events (record { act = Refill d n; failed = [] }) d r.dest b a.old a.new h r.there r.had a.was a.others
    (inr (moved-within start events d n r.dest b a.old a.new r.had (r.working_then).unlisted (r.working_then).holds r.appended)))

pub unfilled-does : (old new : CoreState) (d n : ℕ) (whole : IsWholeCore old) (t : RefillParts old new.stores d n false) → new.sources ≡ old.sources → new.sinks ≡ change old.sinks d with_broken → new.calls ≡ old.calls + 1 → DoesAct old new Look
unfilled-does old new d n whole t sources sinks calls =
    let a = t.appends in
    let b = t.buffer in
    let u : ℕ = b.store in
    let fails : (a.new).failed ≡ true = not-false (a.new).failed a.works in
    let now = refill-at old new.stores whole.state d n false t whole.at in
    does-of old new Look (u ∷ []) (risen-touched old.stores new.stores u a.old a.new a.was a.others ((now.appended).cause fails)) (all-go-touched old.stores new.stores u a.old a.new a.was a.others a.goes) calls
    (setup-parts old new (ap (map (λ (x : Source). x.setup)) sources) (ap (map (λ (x : SinkState). x.setup)) sinks ∙ map-kept (λ (x : SinkState). x.setup) with_broken old.sinks d (λ x. refl)))
    (λ s at.
    let r = refill-at old new.stores s d n false t at in
    let dest = r.dest in
    let w = r.working_then in
    let listed = listed-last s.failed u in
    let is = failed-buffer dest b a.new (is_listed u (s.failed ++ u ∷ [])) fails listed in
    let leaves = leaves-one old.stores new.stores s.failed (u ∷ []) dest b a.old a.new r.had a.was a.others is (λ x ne. listed-other s.failed u x ne) in
    (look-dest s d dest b r.there r.had w.unlisted, look-at old new s d t.sink dest with_broken (u ∷ []) at r.there r.shown t.there sources sinks (ap (λ x. sink_of x dest) (broken-listed (s.failed ++ u ∷ []) dest b r.had ∙ listed)) leaves))
    (λ start events h.
    let r = refill-at old new.stores (after_all start events) d n false t h.at in
    positions-buffer old new.stores start events (record { act = Look; failed = u ∷ [] }) d r.dest b a.old a.new h r.there r.had a.was a.others)
    (λ start events h.
    let r = refill-at old new.stores (after_all start events) d n false t h.at in
    lists-buffer old new.stores start events (record { act = Look; failed = u ∷ [] }) d r.dest b a.old a.new h r.there r.had a.was a.others
    (inr (unmoved-within start events d n r.dest b a.old a.new h.legal r.there r.had (r.working_then).unlisted (r.working_then).holds r.appended)))

-- what the first n can be acknowledged by
pub refill-acks : (old : CoreState) (news : List StoreState) (s : State) (d n : ℕ) (answer : Bool) (t : RefillParts old news d n answer) → IsAt old s → CanAckAll old.sources (take n (t.sink).entries)
refill-acks old news s d n answer t at =
    let r = refill-at old news s d n answer t at in
    let dest = r.dest in
    let b = t.buffer in
    let fit : FitSome n b.capacity (space (sink_of (is_broken s.failed dest) dest).lengths) (sink_of (is_broken s.failed dest) dest).entries = subst (λ (z : SinkState). FitSome n b.capacity (space z.lengths) z.entries) r.shown t.fits in
    let m = moves-sink n dest b (is_broken s.failed dest) r.had (at.sound.split d dest r.there) fit in
    let acked = moves-acks n s d r.p b.capacity dest at.sound.replayed r.there r.split m.fits r.few in
    subst (λ (es : List Waiting). CanAckAll old.sources es) (ap (take n) (sym r.entries)) (subst (λ (xs : List Source). CanAckAll xs (take n (waiting_from r.p dest.left))) (sym at.sources) acked.can)
