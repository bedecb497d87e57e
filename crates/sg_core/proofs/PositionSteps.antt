-- Positions that are written, and writes that fail, on a state and on what a core keeps of it.
use Rattle.std.proofs.Common.{◌≡◌, ◌≢◌, ℕ, ◌+◌, ◌≤◌, List, [], ◌∷◌, ◌++◌, length, Some, None, Option, Bool, true, false, not, refl, sym, ap, ◌∙◌, arith, suc, zero, slice_get, subst, inl, inr, if◌then◌else◌, map}
use Rattle.std.specs.Prelude.{◌==◌}
use Rattle.std.proofs.lemmas.Bool.{cases_eq}
use Rattle.std.proofs.lemmas.List.{append-nil}
use Rattle.sg_list.specs.Lists.{change, passes_at}
use Rattle.sg_list.proofs.ListLemmas.{some-same, get-change-same, get-change, map-kept}
use Rattle.sg_window.specs.Window.{outstanding as waiting_of, mark_from}
use Rattle.sg_window.specs.declared.tracker.BegunRecord.{BegunRecord}
use Rattle.sg_window.proofs.WindowLemmas.{outstanding-length}
use Rattle.sg_machine.specs.declared.event.Act.TheVariants.{Store, Rewind, Look}
use Rattle.sg_machine.specs.declared.setup.BufferSetup.{BufferSetup}
use Rattle.sg_machine.specs.declared.setup.SourceSetup.{SourceSetup}
use Rattle.sg_machine.specs.declared.state.InletRecords.{InletRecords}
use Rattle.sg_machine.specs.declared.state.Dest.{Dest}
use Rattle.sg_machine.specs.declared.state.State.{State}
use Rattle.sg_machine.specs.Verdicts.{is_listed}
use Rattle.sg_machine.specs.Marks.{mark, mark_of}
use Rattle.sg_machine.specs.Legal.{works, is_nil, may_store, may_rewind, is_legal_act}
use Rattle.sg_machine.specs.Effects.{stored_at, rewound, after_act}
use Rattle.sg_machine.specs.Running.{records_from, ends_at, owed}
use Rattle.sg_machine.proofs.OwedLemmas.{records-length}
use Rattle.sg_machine.proofs.StepLemmas.{mark-same, ends-kept}
use Rattle.sg_sinks.specs.Laws.{is_listed_in}
use Rattle.sg_sinks.specs.Standing.{sink_of}
use Rattle.sg_stores.specs.Stores.{StoreState}
use Rattle.sg_standing.specs.States.{CoreState}
use Rattle.sg_standing.specs.Sources.{mark_at, anew}
use Rattle.sg_standing.specs.Standing.{is_broken, source_of, sources_from, IsPositionAt, HoldsPosition, IsStoredPosition, ArePositionsStored, AreBacked, IsSoundState, IsAt, AreApart}
use Rattle.sg_standing.specs.declared.source.Source.{Source}
use Rattle.sg_standing.proofs.Calls.{apart-both, apart-inlets}
use Rattle.sg_standing.proofs.More.{placed}
use Rattle.sg_core.proofs.AtSteps.{sound-failed, stored-other, backed-other, listed-last, listed-other, look-inlet}

-- Marks.

mark-place-by : (from : ℕ) (r : BegunRecord) (rs : List BegunRecord) (b : Bool) → (r.left == 0) ≡ b → mark_from from (r ∷ rs) ≡ (if length (waiting_of (r ∷ rs)) == length (r ∷ rs) then from else mark_from 0 (r ∷ rs))
mark-place-by from r rs true e =
    let l = outstanding-length rs in
    let ne : (length (waiting_of rs) == suc (length rs)) ≡ false = grind (arith, l) in
    rw e (rw ne refl)
mark-place-by from r rs false e =
    let same : (suc (length rs) == suc (length rs)) ≡ true = grind arith in
    rw e (rw same refl)

-- where no record is acknowledged the mark is the opening place, and else it doesn't depend on that
mark-place : (from : ℕ) (rs : List BegunRecord) → mark_from from rs ≡ (if length (waiting_of rs) == length rs then from else mark_from 0 rs)
mark-place from [] = refl
mark-place from (r ∷ rs) = mark-place-by from r rs (r.left == 0) refl

pub mark-at : (ds : List Dest) (i : ℕ) (inlet : InletRecords) → mark_at (source_of ds i inlet) ≡ mark_of ds i inlet
mark-at ds i inlet =
    let rs = records_from ds i 0 inlet.ends in
    sym (mark-same ds i 0 inlet.opening inlet.ends ∙ mark-place inlet.opening rs ∙ ap (λ n. if length (waiting_of rs) == n then inlet.opening else mark_from 0 rs) (records-length ds i 0 inlet.ends))

-- The inlet behind a source.

pub inlet-of : (ds : List Dest) (i k : ℕ) (inlets : List InletRecords) (s : Source) → slice_get (sources_from ds i inlets) k ≡ Some s → (inlet : InletRecords) × (slice_get inlets k ≡ Some inlet) × (s ≡ source_of ds (i + k) inlet)
inlet-of ds i k [] s h = let wrong : None ≡ Some s = h in cc
inlet-of ds i zero (x ∷ inlets) s h = (x, refl, sym (some-same (source_of ds i x) s h) ∙ ap (λ j. source_of ds j x) (omega arith))
inlet-of ds i (suc k) (x ∷ inlets) s h = let r = inlet-of ds (i + 1) k inlets s h in (r.0, r.1, r.2 ∙ ap (λ j. source_of ds j r.0) (omega arith))

-- the inlet behind a source of a core, and its store
pub record IsBehindPosition (core : CoreState) (s : State) (i : ℕ) (source : Source) : Type 0 where
  pub inlet : InletRecords
  pub there : slice_get s.inlets i ≡ Some inlet
  pub shown : source ≡ source_of s.dests i inlet

pub behind : (core : CoreState) (s : State) (i : ℕ) (source : Source) → IsAt core s → slice_get core.sources i ≡ Some source → IsBehindPosition core s i source
behind core s i source at h =
    let f = inlet-of s.dests 0 i s.inlets source (rw at.sources at h) in
    record { inlet = f.0; there = f.1; shown = f.2 ∙ ap (λ j. source_of s.dests j f.0) (omega arith) }

-- Writes of the inlet's position.

sources-stored : (ds : List Dest) (j k w : ℕ) (inlets : List InletRecords) → sources_from ds j (change inlets k (stored_at w)) ≡ sources_from ds j inlets
sources-stored ds j k w [] = refl
sources-stored ds j zero w (x ∷ inlets) = refl
sources-stored ds j (suc k) w (x ∷ inlets) = ap (λ xs. source_of ds j x ∷ xs) (sources-stored ds (j + 1) k w inlets)

sources-rewound : (ds : List Dest) (j k : ℕ) (inlets : List InletRecords) → sources_from ds j (change inlets k rewound) ≡ change (sources_from ds j inlets) k anew
sources-rewound ds j k [] = refl
sources-rewound ds j zero (x ∷ inlets) = refl
sources-rewound ds j (suc k) (x ∷ inlets) = ap (λ xs. source_of ds j x ∷ xs) (sources-rewound ds (j + 1) k inlets)

-- what a write of the position of i leaves
pub record RewritesPosition (s : State) (i : ℕ) (f : InletRecords → InletRecords) (inlet : InletRecords) (w : ℕ) : Type 0 where
  pub setup : (x : InletRecords) → (f x).setup ≡ x.setup
  pub ends : (x : InletRecords) → (f x).ends ≡ x.ends
  pub stored : (f inlet).stored ≡ w
  pub unmoved : inlet.ends ≡ [] → (f inlet).stored ≡ (f inlet).opening

written-unmoved : (s : State) (i w : ℕ) (f : InletRecords → InletRecords) (inlet : InletRecords) → IsSoundState s → slice_get s.inlets i ≡ Some inlet → RewritesPosition s i f inlet w
    → (j : ℕ) (y : InletRecords) → slice_get (change s.inlets i f) j ≡ Some y → y.ends ≡ [] → y.stored ≡ y.opening
written-unmoved s i w f inlet sound there r j y h none =
    let g = get-change s.inlets i j f y h in
    elim g.2 [
      | inl p ↦ (
          let at_i : slice_get s.inlets i ≡ Some g.0 = ap (λ k. slice_get s.inlets k) (sym p.0) ∙ g.1 in
          let same : g.0 ≡ inlet = some-same g.0 inlet (sym at_i ∙ there) in
          let is : y ≡ f inlet = p.1 ∙ ap f same in
          let no_ends : inlet.ends ≡ [] = sym (r.ends inlet) ∙ ap (λ (x : InletRecords). x.ends) (sym is) ∙ none in
          ap (λ (x : InletRecords). x.stored) is ∙ r.unmoved no_ends ∙ ap (λ (x : InletRecords). x.opening) (sym is))
      | inr p ↦ (
          let no_ends : (g.0).ends ≡ [] = ap (λ (x : InletRecords). x.ends) (sym p.1) ∙ none in
          ap (λ (x : InletRecords). x.stored) p.1 ∙ sound.unmoved j g.0 g.1 no_ends ∙ ap (λ (x : InletRecords). x.opening) (sym p.1))
    ]

written-stores : (core : CoreState) (s : State) (i u w : ℕ) (f : InletRecords → InletRecords) (inlet : InletRecords) (old new : StoreState) → IsAt core s → slice_get s.inlets i ≡ Some inlet → inlet.setup.store ≡ Some u
    → slice_get core.stores u ≡ Some old → IsPositionAt new w (is_listed u s.failed) → RewritesPosition s i f inlet w
    → ArePositionsStored (change core.stores u (λ _. new)) s.failed (change s.inlets i f)
written-stores core s i u w f inlet old new at there has get is_placed r j y h =
    let g = get-change s.inlets i j f y h in
    elim g.2 [
      | inl p ↦ (
          let at_i : slice_get s.inlets i ≡ Some g.0 = ap (λ k. slice_get s.inlets k) (sym p.0) ∙ g.1 in
          let same : g.0 ≡ inlet = some-same g.0 inlet (sym at_i ∙ there) in
          let is : y ≡ f inlet = p.1 ∙ ap f same in
          let store : y.setup.store ≡ Some u = ap (λ (x : InletRecords). x.setup.store) is ∙ ap (λ (x : SourceSetup). x.store) (r.setup inlet) ∙ has in
          let stored : y.stored ≡ w = ap (λ (x : InletRecords). x.stored) is ∙ r.stored in
          let now = get-change-same core.stores u (λ _. new) old get in
          let P : Option ℕ → Type 0 = λ o. IsStoredPosition (change core.stores u (λ _. new)) s.failed o y.stored in
          let Q : Option StoreState → Type 0 = λ o. HoldsPosition o y.stored (is_listed u s.failed) in
          let W : ℕ → Type 0 = λ n. IsPositionAt new n (is_listed u s.failed) in
          subst P (sym store) (subst Q (sym now) (subst W (sym stored) is_placed)))
      | inr p ↦ (
          let before : IsStoredPosition core.stores s.failed (g.0).setup.store (g.0).stored = at.stores j g.0 g.1 in
          let Y : InletRecords → Type 0 = λ x. IsStoredPosition (change core.stores u (λ _. new)) s.failed x.setup.store x.stored in
          subst Y (sym p.1) (stored-other core.stores s.failed s.failed (g.0).setup.store (g.0).stored u new
          (λ v e. apart-inlets s i j u v inlet g.0 at.sound.apart there g.1 has e p.0) (λ v e. refl) before))
    ]

-- the disk-buffers stay
written-buffers : (core : CoreState) (s : State) (i u : ℕ) (inlet : InletRecords) (new : StoreState) → IsAt core s → slice_get s.inlets i ≡ Some inlet → inlet.setup.store ≡ Some u
    → AreBacked (change core.stores u (λ _. new)) s.failed s.dests
written-buffers core s i u inlet new at there has d x b h hb =
    backed-other core.stores s.failed s.failed b x u new (λ e. apart-both s i d u inlet x b at.sound.apart there has h hb (sym e)) refl (at.buffers d x b h hb)

-- the state once the position of i is written
written-sound : (s t : State) (i w : ℕ) (f : InletRecords → InletRecords) (inlet : InletRecords) → IsSoundState s → slice_get s.inlets i ≡ Some inlet → RewritesPosition s i f inlet w → t.inlets ≡ change s.inlets i f → t.dests ≡ s.dests → IsSoundState t
written-sound s t i w f inlet sound there r inlets dests = record {
  replayed = record {
    admitted = λ j n l.
        let P : ℕ → Type 0 = λ m. m ≤ n in
        let e : length (ends_at t.inlets j) ≡ length (ends_at s.inlets j) = ap (λ xs. length (ends_at xs j)) inlets ∙ ap length (ends-kept f r.ends s.inlets i j) in
        ap (λ ds. owed ds j n) dests ∙ sound.replayed.admitted j n (subst P e l);
    split = rw dests sound.replayed.split;
  };
  split = rw dests sound.split;
  spellable = rw dests sound.spellable;
  unmoved = rw inlets (written-unmoved s i w f inlet sound there r);
  apart = record {
    inlets = rw (inlets, map-kept (λ (x : InletRecords). x.setup) f s.inlets i r.setup) sound.apart.inlets;
    dests = rw dests sound.apart.dests;
    both = rw (inlets, dests, map-kept (λ (x : InletRecords). x.setup) f s.inlets i r.setup) sound.apart.both;
  };
}

eq-true : (n m : ℕ) → n ≡ m → (n == m) ≡ true
eq-true n m h = grind arith

ne-true : (n m : ℕ) → n ≢ m → not (n == m) ≡ true
ne-true n m h = grind arith

works-of : (failed : List ℕ) (o : Option ℕ) (u : ℕ) → o ≡ Some u → is_listed u failed ≡ false → works failed o ≡ true
works-of failed o u h l = rw (h, l) refl

pub stores-mark : (core : CoreState) (s : State) (i u w calls : ℕ) (inlet : InletRecords) (old new : StoreState) → IsAt core s → slice_get s.inlets i ≡ Some inlet → inlet.setup.store ≡ Some u
    → slice_get core.stores u ≡ Some old → IsPositionAt new w false → old.failed ≡ false → w ≡ mark_of s.dests i inlet → old.position ≢ w
    → (is_legal_act s (Store i w) [] ≡ true) × IsAt (record { sources = core.sources; sinks = core.sinks; stores = change core.stores u (λ _. new); calls = calls }) (after_act s (Store i w) [])
stores-mark core s i u w calls inlet old new at there has get is worked marked other =
    let held = placed core s i u inlet old at there has get in
    let l : is_listed u s.failed ≡ false = sym held.failed_is ∙ worked in
    let a = works-of s.failed inlet.setup.store u has l in
    let b = eq-true w (mark_of s.dests i inlet) marked in
    let c = ne-true w inlet.stored (λ e. other (held.position_is ∙ sym e)) in
    let may : may_store s i w inlet ≡ true = rw (a, b, c) refl in
    let passes : passes_at s.inlets i (may_store s i w) ≡ true = rw there may in
    let now : IsPositionAt new w (is_listed u s.failed) = subst (λ (f : Bool). IsPositionAt new w f) (sym l) is in
    let r : RewritesPosition s i (stored_at w) inlet w = record { setup = λ x. refl; ends = λ x. refl; stored = refl; unmoved = λ none. marked ∙ ap (λ xs. mark s.dests i 0 inlet.opening xs) none } in
    let core2 : CoreState = record { sources = core.sources; sinks = core.sinks; stores = change core.stores u (λ _. new); calls = calls } in
    let t : State = record s { inlets = change s.inlets i (stored_at w) } in
    let there_at : IsAt core2 t = record {
      sound = written-sound s t i w (stored_at w) inlet at.sound there r refl refl;
      sources = at.sources ∙ sym (sources-stored s.dests 0 i w s.inlets);
      sinks = at.sinks;
      stores = written-stores core s i u w (stored_at w) inlet old new at there has get now r;
      buffers = written-buffers core s i u inlet new at there has;
    } in
    (rw passes refl, subst (λ (xs : List ℕ). IsAt core2 (record t { failed = xs })) (sym (append-nil s.failed)) there_at)

pub rewinds : (core : CoreState) (s : State) (i u calls : ℕ) (inlet : InletRecords) (old new : StoreState) → IsAt core s → slice_get s.inlets i ≡ Some inlet → inlet.setup.store ≡ Some u
    → slice_get core.stores u ≡ Some old → IsPositionAt new 0 false → old.failed ≡ false → length inlet.ends ≡ 0 → old.position ≢ 0
    → (is_legal_act s (Rewind i) [] ≡ true) × IsAt (record { sources = change core.sources i anew; sinks = core.sinks; stores = change core.stores u (λ _. new); calls = calls }) (after_act s (Rewind i) [])
rewinds core s i u calls inlet old new at there has get is worked none other =
    let held = placed core s i u inlet old at there has get in
    let l : is_listed u s.failed ≡ false = sym held.failed_is ∙ worked in
    let a = works-of s.failed inlet.setup.store u has l in
    let b : is_nil inlet.ends ≡ true = eq-true (length inlet.ends) 0 none in
    let c = ne-true inlet.stored 0 (λ e. other (held.position_is ∙ e)) in
    let may : may_rewind s.failed inlet ≡ true = rw (a, b, c) refl in
    let passes : passes_at s.inlets i (may_rewind s.failed) ≡ true = rw there may in
    let now : IsPositionAt new 0 (is_listed u s.failed) = subst (λ (f : Bool). IsPositionAt new 0 f) (sym l) is in
    let r : RewritesPosition s i rewound inlet 0 = record { setup = λ x. refl; ends = λ x. refl; stored = refl; unmoved = λ e. refl } in
    let core2 : CoreState = record { sources = change core.sources i anew; sinks = core.sinks; stores = change core.stores u (λ _. new); calls = calls } in
    let t : State = record s { inlets = change s.inlets i rewound } in
    let there_at : IsAt core2 t = record {
      sound = written-sound s t i 0 rewound inlet at.sound there r refl refl;
      sources = ap (λ xs. change xs i anew) at.sources ∙ sym (sources-rewound s.dests 0 i s.inlets);
      sinks = at.sinks;
      stores = written-stores core s i u 0 rewound inlet old new at there has get now r;
      buffers = written-buffers core s i u inlet new at there has;
    } in
    (rw passes refl, subst (λ (xs : List ℕ). IsAt core2 (record t { failed = xs })) (sym (append-nil s.failed)) there_at)

-- Stores that fail.

failed-stores : (stores : List StoreState) (failed : List ℕ) (o : Option ℕ) (p u : ℕ) (old new : StoreState) → slice_get stores u ≡ Some old → new.buffer ≡ old.buffer → new.position ≡ old.position → new.failed ≡ true
    → IsStoredPosition stores failed o p → IsStoredPosition (change stores u (λ _. new)) (failed ++ u ∷ []) o p
failed-stores stores failed None p u old new get kind position fails h = h
failed-stores stores failed (Some v) p u old new get kind position fails h =
    elim (cases_eq v u) [
      | inl e ↦ (
          let Q : Option StoreState → Type 0 = λ r. HoldsPosition r p (is_listed v failed) in
          let at_v : slice_get stores v ≡ Some old = ap (λ k. slice_get stores k) e ∙ get in
          let before : IsPositionAt old p (is_listed v failed) = subst Q at_v h in
          let now : slice_get (change stores u (λ _. new)) v ≡ Some new = ap (λ k. slice_get (change stores u (λ _. new)) k) e ∙ get-change-same stores u (λ _. new) old get in
          let R : Option StoreState → Type 0 = λ r. HoldsPosition r p (is_listed v (failed ++ u ∷ [])) in
          let listed : is_listed v (failed ++ u ∷ []) ≡ true = ap (λ k. is_listed k (failed ++ u ∷ [])) e ∙ listed-last failed u in
          let is : IsPositionAt new p (is_listed v (failed ++ u ∷ [])) = record {
            kind = kind ∙ before.kind;
            position_is = position ∙ before.position_is;
            failed_is = fails ∙ sym listed;
            works = λ w. let wrong : true ≡ false = sym fails ∙ w in cc;
          } in
          subst R (sym now) is)
      | inr ne ↦ stored-other stores failed (failed ++ u ∷ []) (Some v) p u new (λ k q. subst (λ (m : ℕ). m ≢ u) (some-same v k q) ne) (λ k q. subst (λ (m : ℕ). is_listed m (failed ++ u ∷ []) ≡ is_listed m failed) (some-same v k q) (listed-other failed u v ne)) h
    ]

-- no destination's store is that of an inlet, so none of them fails with it
broken-same : (failed : List ℕ) (u : ℕ) (o : Option BufferSetup) → ((b : BufferSetup) → o ≡ Some b → b.store ≢ u) → is_listed_in o (failed ++ u ∷ []) ≡ is_listed_in o failed
broken-same failed u None ne = refl
broken-same failed u (Some b) ne = listed-other failed u b.store (ne b refl)

sinks-same : (failed : List ℕ) (u : ℕ) (ds : List Dest) → ((d : ℕ) (x : Dest) (b : BufferSetup) → slice_get ds d ≡ Some x → x.setup.buffer ≡ Some b → b.store ≢ u)
    → map (λ (x : Dest). sink_of (is_broken failed x) x) ds ≡ map (λ (x : Dest). sink_of (is_broken (failed ++ u ∷ []) x) x) ds
sinks-same failed u [] ne = refl
sinks-same failed u (x ∷ ds) ne =
    let here = sym (broken-same failed u x.setup.buffer (λ b h. ne 0 x b refl h)) in
    let rest = sinks-same failed u ds (λ d y b g h. ne (suc d) y b g h) in
    ap (λ f. sink_of f x ∷ map (λ (y : Dest). sink_of (is_broken failed y) y) ds) here ∙ ap (λ ks. sink_of (is_broken (failed ++ u ∷ []) x) x ∷ ks) rest

sinks-inlet : (s : State) (i u : ℕ) (x : InletRecords) → AreApart s → slice_get s.inlets i ≡ Some x → x.setup.store ≡ Some u
    → map (λ (y : Dest). sink_of (is_broken s.failed y) y) s.dests ≡ map (λ (y : Dest). sink_of (is_broken (s.failed ++ u ∷ []) y) y) s.dests
sinks-inlet s i u x apart there has = sinks-same s.failed u s.dests (λ d y b h hb e. apart-both s i d u x y b apart there has h hb (sym e))

pub fails : (core : CoreState) (s : State) (i u calls : ℕ) (inlet : InletRecords) (old new : StoreState) → IsAt core s → slice_get s.inlets i ≡ Some inlet → inlet.setup.store ≡ Some u
    → slice_get core.stores u ≡ Some old → new.buffer ≡ old.buffer → new.position ≡ old.position → new.failed ≡ true → old.failed ≡ false
    → (is_legal_act s Look (u ∷ []) ≡ true) × IsAt (record { sources = core.sources; sinks = core.sinks; stores = change core.stores u (λ _. new); calls = calls }) (after_act s Look (u ∷ []))
fails core s i u calls inlet old new at there has get kind position fails_now worked =
    let held = placed core s i u inlet old at there has get in
    let l : is_listed u s.failed ≡ false = sym held.failed_is ∙ worked in (
      look-inlet s i u inlet there has l,
      record {
        sound = sound-failed s (s.failed ++ u ∷ []) at.sound;
        sources = at.sources;
        sinks = at.sinks ∙ sinks-inlet s i u inlet at.sound.apart there has;
        stores = λ j x h. failed-stores core.stores s.failed x.setup.store x.stored u old new get kind position fails_now (at.stores j x h);
        buffers = λ d x b h hb.
            let ne : b.store ≢ u = λ e. apart-both s i d u inlet x b at.sound.apart there has h hb (sym e) in
            backed-other core.stores s.failed (s.failed ++ u ∷ []) b x u new ne (listed-other s.failed u b.store ne) (at.buffers d x b h hb);
      },
    )
