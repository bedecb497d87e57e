-- An admit, as one event.
use Rattle.std.proofs.Common.{◌≡◌, ℕ, ◌+◌, ◌-◌, ◌≤◌, List, [], ◌∷◌, ◌++◌, length, Option, Some, None, Bool, true, false, ◌||◌, refl, sym, ap, ◌∙◌, arith, suc, zero, map, take, drop, slice_get, subst, if◌then◌else◌, inl, inr, ◌⊎◌}
use Rattle.std.specs.Option.{option_map_or}
use Rattle.sg_list.proofs.ListLemmas.{some-same, map-kept}
use Rattle.sg_device.specs.Disk.{Within}
use Rattle.sg_device.specs.Faults.{Rose}
use Rattle.sg_window.specs.Window.{outstanding as waiting_of}
use Rattle.sg_window.specs.declared.tracker.BegunRecord.{BegunRecord}
use Rattle.sg_machine.specs.declared.event.Act.{Act}
use Rattle.sg_machine.specs.declared.event.Act.TheVariants.{Admit}
use Rattle.sg_machine.specs.declared.event.Admission.{Admission}
use Rattle.sg_machine.specs.declared.event.Event.{Event}
use Rattle.sg_machine.specs.declared.event.Verdict.{Verdict}
use Rattle.sg_machine.specs.declared.setup.BufferSetup.{BufferSetup}
use Rattle.sg_machine.specs.declared.state.Dest.{Dest}
use Rattle.sg_machine.specs.declared.state.InletRecords.{InletRecords}
use Rattle.sg_machine.specs.declared.state.State.{State}
use Rattle.sg_machine.specs.Effects.{next_of}
use Rattle.sg_machine.specs.Legal.{store_of}
use Rattle.sg_machine.specs.Marks.{outstanding_of}
use Rattle.sg_machine.specs.Running.{records_from}
use Rattle.sg_machine.specs.Runs.{BufferedEntry, after_all}
use Rattle.sg_machine.specs.Safe.{has_failed, appends, spooled_of, spooled_offers, would_spool, failed_entries}
use Rattle.sg_machine.specs.Verdicts.{Claim, claims_of, is_listed}
use Rattle.sg_sinks.specs.States.{SinkState}
use Rattle.sg_stores.specs.Appending.{IsAppended, IsListWithSome}
use Rattle.sg_stores.specs.Stores.{StoreState}
use Rattle.sg_offers.specs.Answering.{sinks_then, sinks_after, offered_by, failing_in, begun_of}
use Rattle.sg_offers.specs.Laws.{Judged}
use Rattle.sg_offers.specs.Payloads.{buffers_of}
use Rattle.sg_offers.specs.declared.batch.Payload.{Payload}
use Rattle.sg_offers.proofs.JudgeSteps.{listed-append}
use Rattle.sg_offers.proofs.SinkLemmas.{offered-setup}
use Rattle.sg_standing.specs.Sources.{begun_at, begun_all}
use Rattle.sg_standing.specs.States.{CoreState, setup_of}
use Rattle.sg_standing.specs.Standing.{IsAt, IsSafeStore, StandsFor, HaveRisen, DoesAct, buffer_in, failed_then}
use Rattle.sg_standing.specs.declared.source.Source.{Source}
use Rattle.sg_standing.proofs.Calls.{does-of, stays-refl, positions-by, lists-by}
use Rattle.sg_standing.proofs.More.{within-map}
use Rattle.sg_standing.proofs.Safes.{spooled-left, settled-most}
use Rattle.sg_standing.proofs.Still.{StaysSame}
use Rattle.sg_standing.proofs.Unfailed.{entries-now}
use Rattle.sg_core.specs.Admits.{blocks_for}
use Rattle.sg_core.proofs.AtSteps.{setup-parts}
use Rattle.sg_core.proofs.Fits.{outstanding-same}
use Rattle.sg_core.proofs.PositionSteps.{behind}
use Rattle.sg_core.proofs.AdmitSteps.{Admitting, dest-of, takes-of, is-nil, failing-of}
use Rattle.sg_core.proofs.AdmitAt.{AdmitsAt, admit-judged, legal-admit, at-admit, store-stays, spooled-takes, staged-worked}

-- Setups stay.

begun-setup : (bs : List BegunRecord) (source : Source) → (begun_all bs source).setup ≡ source.setup
begun-setup [] source = refl
begun-setup (b ∷ bs) source = begun-setup bs (begun_at b.end b.left source)

sinks-setup : (fails : List Bool) (i next : ℕ) (sinks : List SinkState) (cs : List Claim) → map (λ (k : SinkState). k.setup) (sinks_after fails i next sinks cs) ≡ map (λ (k : SinkState). k.setup) sinks
sinks-setup fails i next sinks [] = refl
sinks-setup fails i next sinks (c ∷ cs) = sinks-setup fails i next (sinks_then fails i next sinks c) cs ∙ map-kept (λ (k : SinkState). k.setup) (offered_by fails i next c) sinks c.offer.dest (λ k. offered-setup fails i next c k)

pub setup-admit : (old new : CoreState) (i next : ℕ) (records : List Admission) (vs : List Verdict) (fails : List Bool) (payloads : List Payload) → Admitting old new i next records vs fails payloads → setup_of new ≡ setup_of old
setup-admit old new i next records vs fails payloads a =
    setup-parts old new
    (ap (map (λ (x : Source). x.setup)) a.sources ∙ map-kept (λ (x : Source). x.setup) (begun_all (begun_of records vs)) old.sources i (λ x. begun-setup (begun_of records vs) x))
    (ap (map (λ (k : SinkState). k.setup)) a.sinks ∙ sinks-setup fails i next old.sinks (claims_of records))

-- At each state.

number-is : (core : CoreState) (s : State) (i : ℕ) (source : Source) → IsAt core s → slice_get core.sources i ≡ Some source → source.tracker.begun ≡ next_of s i
number-is core s i source at h =
    let b = behind core s i source at h in
    let next : next_of s i ≡ length (b.inlet).ends = rw b.there refl in
    ap (λ (x : Source). x.tracker.begun) b.shown ∙ sym next

pub record AdmitsIn (old new : CoreState) (s : State) (i : ℕ) (records : List Admission) (vs : List Verdict) (fails : List Bool) (payloads : List Payload) (newly : List ℕ) : Type 0 where
  pub inlet : InletRecords
  pub admits_at : AdmitsAt old new s i inlet records vs fails payloads newly

pub admits-in : (old new : CoreState) (s : State) (i : ℕ) (source : Source) (records : List Admission) (vs : List Verdict) (fails : List Bool) (payloads : List Payload) → slice_get old.sources i ≡ Some source → length source.tracker.waiting + length records ≤ source.tracker.limit
    → Admitting old new i source.tracker.begun records vs fails payloads → IsAt old s → AdmitsIn old new s i records vs fails payloads (failing_in fails i source.tracker.begun old.sinks (claims_of records))
admits-in old new s i source records vs fails payloads h credit adm at =
    let claims = claims_of records in
    let next = source.tracker.begun in
    let b = behind old s i source at h in
    let is = number-is old s i source at h in
    let here = subst (λ (n : ℕ). Admitting old new i n records vs fails payloads) is adm in
    let judged_so = subst (λ (n : ℕ). Judged fails i (next_of s i) s.dests s.failed claims vs (failing_in fails i n old.sinks claims)) (sym is) (admit-judged old new s i records vs fails payloads here at) in
    let waiting : length source.tracker.waiting ≡ length (waiting_of (records_from s.dests i 0 (b.inlet).ends)) = ap (λ (x : Source). length x.tracker.waiting) b.shown in
    let ends = outstanding-same s.dests i 0 (b.inlet).ends in
    let limit : source.tracker.limit ≡ (b.inlet).setup.window = ap (λ (x : Source). x.tracker.limit) b.shown in
    let room : outstanding_of s.dests i b.inlet + length records ≤ (b.inlet).setup.window = omega arith in
    record {
      inlet = b.inlet;
      admits_at = record {
        admitting = here;
        at = at;
        there = b.there;
        judged_so = judged_so;
        legal = legal-admit s i b.inlet records vs (failing_in fails i next old.sinks claims) (length old.sinks) b.there adm.some adm.few room adm.enter judged_so.right;
      };
    }

-- Images of the disk-buffers.

pick : (b : Bool) (xs ys ks : List BufferedEntry) → (b ≡ true → xs ≡ ks) → (b ≡ false → ys ≡ ks) → (if b then xs else ys) ≡ ks
pick true xs ys ks f g = f refl
pick false xs ys ks f g = g refl

failed-store : (failed : List ℕ) (dest : Dest) (buffer : BufferSetup) → dest.setup.buffer ≡ Some buffer → has_failed failed (store_of dest) ≡ is_listed buffer.store failed
failed-store failed dest buffer has = rw has refl

-- the list with the first of what is tried is safe
safe-some : (x : Dest) (d : ℕ) (act : Act) (failed : List ℕ) (tried ks : List BufferedEntry) (bytes : List ℕ) → (if has_failed failed (store_of x) then tried else appends act d x) ≡ ks → IsListWithSome (spooled_of x.left) ks bytes → IsSafeStore x d act failed tried bytes
safe-some x d act failed tried ks bytes e h = record {
  list = spooled_of x.left ++ take h.taken ks;
  entries = h.entries;
  safe = record {
    gone = length (spooled_of x.settled);
    added = h.taken;
    parts = ap (λ (js : List BufferedEntry). js ++ take h.taken ks) (sym (spooled-left x)) ∙ ap (λ (js : List BufferedEntry). drop (length (spooled_of x.settled)) (spooled_of (x.settled ++ x.left)) ++ take h.taken js) (sym e);
    settled = settled-most act d x;
    all_settled = λ f s. refl;
  };
}

list-admit : (old new : CoreState) (start : State) (events : List Event) (i : ℕ) (records : List Admission) (vs : List Verdict) (fails : List Bool) (payloads : List Payload) (newly : List ℕ) → StandsFor old start events
    → AdmitsIn old new (after_all start events) i records vs fails payloads newly → (d : ℕ) (x : Dest) (buffer : BufferSetup) (o n : StoreState) → slice_get (after_all start events).dests d ≡ Some x → x.setup.buffer ≡ Some buffer
    → slice_get old.stores buffer.store ≡ Some o → slice_get new.stores buffer.store ≡ Some n
    → StaysSame o n ⊎ Within o.disk n.disk (IsSafeStore x d (Admit i records vs) (failed_then start events (record { act = Admit i records vs; failed = newly })) (failed_entries start (events ++ record { act = Admit i records vs; failed = newly } ∷ []) d))
list-admit old new start events i records vs fails payloads newly h all d x buffer o n there has go gn =
    let s = after_all start events in
    let a = all.admits_at in
    let e : Event = record { act = Admit i records vs; failed = newly } in
    let k = dest-of old new s i (next_of s i) records vs fails payloads d x buffer a.admitting a.at there has in
    let was : k.was ≡ o = some-same k.was o (sym k.was_there ∙ go) in
    let now : k.now ≡ n = some-same k.now n (sym k.now_there ∙ gn) in
    let blocks = blocks_for (buffers_of old.sinks) buffer.store payloads in
    let ks = would_spool d i (next_of s i) buffer x (claims_of records) in
    elim (is-nil blocks) [
      | inl none ↦ inl (stays-refl o n (sym was ∙ sym (k.appended.none none) ∙ now))
      | inr ne ↦ (
          let worked = staged-worked old new s i all.inlet records vs fails payloads newly d x buffer a there has k ne in
          let before : k.was.failed ≡ false = k.is.failed_is ∙ worked in
          let t = takes-of old new s i records vs fails payloads d x buffer a.admitting a.at there has k before in
          let appended : IsAppended k.was k.now ks = k.appended.appends ks t.count ne before t.next in
          let tried = failed_entries start (events ++ e ∷ []) d in
          let failed = failed_then start events e in
          let stored = failed-store failed x buffer has in
          let split = listed-append buffer.store s.failed newly ∙ ap (λ (b : Bool). b || is_listed buffer.store newly) worked in
          let chosen : (if has_failed failed (store_of x) then tried else spooled_offers d i (claims_of records) vs) ≡ ks =
          pick (has_failed failed (store_of x)) tried (spooled_offers d i (claims_of records) vs) ks
          (λ b. entries-now start events e d x buffer h.legal there has worked (sym split ∙ sym stored ∙ b) ∙ rw has refl)
          (λ b. spooled-takes old new s i all.inlet records vs fails payloads newly d x buffer a there has (sym split ∙ sym stored ∙ b) worked) in
          let within = within-map k.was.disk k.now.disk (IsListWithSome (spooled_of x.left) ks) (IsSafeStore x d (Admit i records vs) failed tried)
          (λ bytes w. safe-some x d (Admit i records vs) failed tried ks bytes chosen w) (appended.within (spooled_of x.left) (k.is.works before)) in
          inr (subst (λ (y : StoreState). Within o.disk y.disk (IsSafeStore x d (Admit i records vs) failed tried)) now
          (subst (λ (y : StoreState). Within y.disk k.now.disk (IsSafeStore x d (Admit i records vs) failed tried)) was within)))
    ]

-- Stores that fail.

store-found : (x : Dest) (dests : List Dest) (b : Option BufferSetup) (u : ℕ) → x.setup.buffer ≡ b → option_map_or (λ (y : BufferSetup). Some y.store) b None ≡ Some u
    → (dest : Dest) × (buffer : BufferSetup) × (slice_get (x ∷ dests) 0 ≡ Some dest) × (dest.setup.buffer ≡ Some buffer) × (buffer.store ≡ u)
store-found x dests None u e h = let wrong : None ≡ Some u = h in cc
store-found x dests (Some y) u e h = (x, y, refl, e, some-same y.store u h)

dest-found : (dests : List Dest) (d u : ℕ) → buffer_in dests d ≡ Some u → (dest : Dest) × (buffer : BufferSetup) × (slice_get dests d ≡ Some dest) × (dest.setup.buffer ≡ Some buffer) × (buffer.store ≡ u)
dest-found [] d u h = let wrong : None ≡ Some u = h in cc
dest-found (x ∷ dests) zero u h = store-found x dests x.setup.buffer u refl h
dest-found (x ∷ dests) (suc d) u h = dest-found dests d u h

risen-admit : (old new : CoreState) (s : State) (i : ℕ) (records : List Admission) (vs : List Verdict) (fails : List Bool) (payloads : List Payload) (newly : List ℕ) → AdmitsIn old new s i records vs fails payloads newly → HaveRisen old.stores new.stores newly
risen-admit old new s i records vs fails payloads newly all = λ u o n l go gn.
    let a = all.admits_at in
    let said = a.judged_so.only u l in
    let found = dest-found s.dests said.0 u said.1 in
    let dest = found.0 in
    let buffer = found.1 in
    let k = dest-of old new s i (next_of s i) records vs fails payloads said.0 dest buffer a.admitting a.at found.2 found.3 in
    let f = failing-of old new s i (next_of s i) records vs fails payloads said.0 dest buffer a.admitting a.at found.2 found.3 k said.2 in
    let before : k.was.failed ≡ false = k.is.failed_is ∙ f.worked in
    let t = takes-of old new s i records vs fails payloads said.0 dest buffer a.admitting a.at found.2 found.3 k before in
    let ks = would_spool said.0 i (next_of s i) buffer dest (claims_of records) in
    let appended : IsAppended k.was k.now ks = k.appended.appends ks t.count f.staged before t.next in
    let fails_now : k.now.failed ≡ true = sym (k.appended.some f.staged) ∙ said.2 in
    let was : k.was ≡ o = some-same k.was o (sym k.was_there ∙ ap (slice_get old.stores) found.4 ∙ go) in
    let now : k.now ≡ n = some-same k.now n (sym k.now_there ∙ ap (slice_get new.stores) found.4 ∙ gn) in
    subst (λ (y : StoreState). Rose o.disk.faults y.disk.faults) now (subst (λ (y : StoreState). Rose y.disk.faults k.now.disk.faults) was (appended.cause fails_now))

-- The event.

pub admit-does : (old new : CoreState) (t : State) (i : ℕ) (source : Source) (records : List Admission) (vs : List Verdict) (fails : List Bool) (payloads : List Payload) → IsAt old t → slice_get old.sources i ≡ Some source
    → length source.tracker.waiting + length records ≤ source.tracker.limit → Admitting old new i source.tracker.begun records vs fails payloads → new.calls ≡ old.calls + 1 → DoesAct old new (Admit i records vs)
admit-does old new t i source records vs fails payloads at h credit adm calls =
    let newly = failing_in fails i source.tracker.begun old.sinks (claims_of records) in
    let all : (s : State) → IsAt old s → AdmitsIn old new s i records vs fails payloads newly = λ s at_s. admits-in old new s i source records vs fails payloads h credit adm at_s in
    does-of old new (Admit i records vs) newly (risen-admit old new t i records vs fails payloads newly (all t at)) adm.appended.all_go calls (setup-admit old new i source.tracker.begun records vs fails payloads adm)
    (λ s at_s.
    let a = all s at_s in
    ((a.admits_at).legal, at-admit old new s i a.inlet records vs fails payloads newly a.admits_at))
    (λ start events st. positions-by old new.stores start events (record { act = Admit i records vs; failed = newly }) st (λ j u x o n there has go gn.
    let a = all (after_all start events) st.at in
    let same = store-stays old new (after_all start events) i a.inlet records vs fails payloads newly j u x a.admits_at there has in
    inl (stays-refl o n (some-same o n (sym go ∙ sym same ∙ gn)))))
    (λ start events st. lists-by old new.stores start events (record { act = Admit i records vs; failed = newly }) st (list-admit old new start events i records vs fails payloads newly st (all (after_all start events) st.at)))
