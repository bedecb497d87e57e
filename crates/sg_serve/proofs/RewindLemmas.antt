-- Lemmas on sources that begin anew before the rounds.
use Rattle.std.proofs.Common.{◌≡◌, ◌≤◌, inl, inr, ℕ, ◌+◌, zero, suc, true, false, List, [], ◌∷◌, ◌++◌, length, map, Some, None, Option, append_assoc, refl, sym, ap, ◌∙◌, arith, slice_get, subst}
use Rattle.std.proofs.lemmas.List.{append-nil, length-append}
use Rattle.sg_list.specs.Lists.{change, passes_at}
use Rattle.sg_list.proofs.ListLemmas.{some-same, slice_get-some, slice_get-below, get-change-other, get-change-same, get-change}
use Rattle.sg_device.specs.Disk.{DiskState}
use Rattle.sg_device.specs.Faults.{Rose}
use Rattle.sg_stores.proofs.StoreLemmas.{all_go_trans}
use Rattle.sg_buffer.specs.declared.found.BufferEntries.{BufferEntries}
use Rattle.sg_machine.specs.declared.event.Act.{Act}
use Rattle.sg_machine.specs.declared.event.Act.TheVariants.{Rewind, Look}
use Rattle.sg_machine.specs.declared.event.Event.{Event}
use Rattle.sg_machine.specs.declared.setup.Setup.{Setup}
use Rattle.sg_machine.specs.declared.state.InletRecords.{InletRecords}
use Rattle.sg_machine.specs.declared.state.State.{State}
use Rattle.sg_machine.specs.Effects.{after_act, rewound}
use Rattle.sg_machine.specs.Legal.{is_nil, may_rewind}
use Rattle.sg_machine.specs.Runs.{Opening, opened, after_all}
use Rattle.sg_machine.proofs.RunLemmas.{both-true}
use Rattle.sg_counter.specs.Bringing.{store_in}
use Rattle.sg_stores.specs.Stores.{StoreState}
use Rattle.sg_stores.specs.Positions.{position_of, stored_in}
use Rattle.sg_stores.specs.Opening.{IsOpenedAs}
use Rattle.sg_stores.specs.declared.kind.StoreKind.{StoreKind}
use Rattle.sg_stores.specs.declared.kind.StoreKind.TheVariants.{Position, Buffer}
use Rattle.sg_standing.specs.Sources.{store_at, begun_in}
use Rattle.sg_standing.specs.States.{CoreState, setup_of}
use Rattle.sg_standing.specs.Standing.{IsAt, DoesAct, StandsFor}
use Rattle.sg_standing.specs.declared.source.Source.{Source}
use Rattle.sg_standing.proofs.Calls.{all-go-same}
use Rattle.sg_standing.proofs.ImageLaws.{shows-at}
use Rattle.sg_core.specs.Opening.{IsOpen}
use Rattle.sg_core.proofs.PositionSteps.{behind}
use Rattle.sg_serve.specs.Rewinds.{position_at, rewinds_at, rewinds_from, AreApartIn, BeginsAnew, BeginsSource, HasBegun, FailsBehind, AwaitsFrom}
use Rattle.sg_serve.proofs.DeviceLemmas.{rose-wider}

-- Events before the rounds.

not-nil : {A : Type 0} (xs : List A) (x : A) → xs ++ x ∷ [] ≡ [] → ⊥
not-nil [] x h = let wrong : x ∷ [] ≡ [] = h in cc
not-nil (y ∷ ys) x h = let wrong : y ∷ (ys ++ x ∷ []) ≡ [] = h in cc

pub begun-none : (core : CoreState) → HasBegun core core []
begun-none core = record {
  stands = λ setup opening stands. stands;
  rows = λ setup opening stood k s low. refl;
  goes = all-go-same core.stores core.stores refl;
  setup = refl;
  calls = omega arith;
  still = λ e. refl;
}

pub begun-more : (first mid new : CoreState) (events : List Event) (act : Act) (does : DoesAct mid new act) → HasBegun first mid events
    → HasBegun first new (events ++ (record { act = act; failed = does.failed }) ∷ [])
begun-more first mid new events act does begun = record {
  stands = λ setup opening stands. does.stands (opened setup opening) events (begun.stands setup opening stands);
  rows = λ setup opening stood k s low. does.keeps (opened setup opening) events (begun.stands setup opening stood) k s (omega (arith, low)) ∙ begun.rows setup opening stood k s low;
  goes = all_go_trans first.stores mid.stores new.stores begun.goes does.goes;
  setup = does.setup ∙ begun.setup;
  calls = (let n = does.calls in let m = begun.calls in let k = length-append events ((record { act = act; failed = does.failed }) ∷ []) in omega (arith, n, m, k));
  still = λ e. absurd (not-nil events (record { act = act; failed = does.failed }) e);
}

nil-of : (xs : List ℕ) → is_nil xs ≡ true → xs ≡ []
nil-of [] h = refl
nil-of (x ∷ xs) h = absurd (grind arith)

-- no store fails as a source begins anew
rewind-fails-none : (mid new : CoreState) (s : State) (i : ℕ) (does : DoesAct mid new (Rewind i)) → IsAt mid s → does.failed ≡ []
rewind-fails-none mid new s i does at = nil-of does.failed (both-true (passes_at s.inlets i (may_rewind s.failed)) (is_nil does.failed) (does.step s at).0).1

pub begun-rewind : (first mid new : CoreState) (events : List Event) (setup : Setup) (opening : Opening) (i : ℕ) → DoesAct mid new (Rewind i) → StandsFor first (opened setup opening) [] → HasBegun first mid events
    → HasBegun first new (events ++ (record { act = Rewind i; failed = [] }) ∷ [])
begun-rewind first mid new events setup opening i does stands begun =
    let at = (begun.stands setup opening stands).at in
    let none = rewind-fails-none mid new (after_all (opened setup opening) events) i does at in
    subst (λ failed. HasBegun first new (events ++ (record { act = Rewind i; failed = failed }) ∷ [])) none (begun-more first mid new events (Rewind i) does begun)

-- Sources without records.

same-store : (sources : List Source) (i : ℕ) → store_at sources i ≡ store_in (map (λ (source : Source). source.setup) sources) i
same-store [] i = refl
same-store (x ∷ xs) zero = refl
same-store (x ∷ xs) (suc i) = same-store xs i

pub store-of : (core : CoreState) (i : ℕ) → store_at core.sources i ≡ store_in (setup_of core).sources i
store-of core i = same-store core.sources i

ends-of : (core : CoreState) (s : State) (i : ℕ) (source : Source) (inlet : InletRecords) → IsAt core s → slice_get core.sources i ≡ Some source → slice_get s.inlets i ≡ Some inlet → source.tracker.begun ≡ length inlet.ends
ends-of core s i source inlet at h k =
    let b = behind core s i source at h in
    let same : b.inlet ≡ inlet = some-same b.inlet inlet (sym b.there ∙ k) in
    ap (λ (x : Source). x.tracker.begun) b.shown ∙ ap (λ (y : InletRecords). length y.ends) same

begun-zero : (sources : List Source) (i : ℕ) (o : Option Source) → slice_get sources i ≡ o → ((x : Source) → o ≡ Some x → x.tracker.begun ≡ 0) → begun_in sources i ≡ 0
begun-zero sources i None e h = rw e refl
begun-zero sources i (Some x) e h = rw e (h x refl)

zero-begun : (sources : List Source) (i : ℕ) (x : Source) → slice_get sources i ≡ Some x → begun_in sources i ≡ 0 → x.tracker.begun ≡ 0
zero-begun sources i x e h = rw e at h

-- the inlet before a source began anew
record WasInlet (s : State) (i : ℕ) (new : InletRecords) : Type 0 where
  was : InletRecords
  there : slice_get s.inlets i ≡ Some was
  ends : new.ends ≡ was.ends

was-inlet : (s : State) (n i : ℕ) (failed : List ℕ) (new : InletRecords) → slice_get (after_act s (Rewind n) failed).inlets i ≡ Some new → WasInlet s i new
was-inlet s n i failed new h =
    let r = get-change s.inlets n i rewound new h in
    record { was = r.0; there = r.1; ends = elim r.2 [ inl p ↦ ap (λ (x : InletRecords). x.ends) p.1 | inr p ↦ ap (λ (x : InletRecords). x.ends) p.1 ] }

unbegun-more : (mid new : CoreState) (s : State) (n : ℕ) → DoesAct mid new (Rewind n) → IsAt mid s → ((i : ℕ) → begun_in mid.sources i ≡ 0) → (i : ℕ) → begun_in new.sources i ≡ 0
unbegun-more mid new s n does at none i =
    let now = (does.step s at).1 in
    let s' = after_act s (Rewind n) does.failed in
    begun-zero new.sources i (slice_get new.sources i) refl (λ x e.
    let b = behind new s' i x now e in
    let w = was-inlet s n i does.failed b.inlet b.there in
    let m = (shows-at mid s at).sources i w.was w.there in
    let old = ends-of mid s i m.0 w.was at m.1 w.there in
    let zero-old = zero-begun mid.sources i m.0 m.1 (none i) in
    let new-ends = ends-of new s' i x b.inlet now e b.there in
    new-ends ∙ ap length w.ends ∙ sym old ∙ zero-old)

-- What stays.

position-kept : (stores : List StoreState) (new : StoreState) (o : Option ℕ) (u : ℕ) → (o ≡ Some u → ⊥) → stored_in (change stores u (λ _. new)) o ≡ stored_in stores o
position-kept stores new None u apart = refl
position-kept stores new (Some v) u apart = ap position_of (get-change-other stores u v (λ _. new) (λ e. apart (ap Some e)))

opened-works : (kind : StoreKind) (disk : DiskState) (found : BufferEntries) (store : StoreState) → IsOpenedAs kind disk found store → store.failed ≡ false
opened-works Position disk found store h = h.0.works
opened-works (Buffer capacity) disk found store h = h.works

pub awaits-first : (setup : Setup) (disks : List DiskState) (core : CoreState) → IsOpen setup disks core → AwaitsFrom core core 0
awaits-first setup disks core open' = record {
  positions = λ i h. refl;
  unbegun = open'.unbegun;
  works = λ s store h.
      let low = slice_get-below core.stores s store h in
      let a = open'.stores in
      let disk = slice_get-some disks s (let n = a.count in omega (arith, low, n)) in
      let found = slice_get-some open'.founds s (let n = a.count in let m = a.looked in omega (arith, low, n, m)) in
      let kind = slice_get-some open'.kinds s (let n = a.count in let m = open'.kinds_are.many in omega (arith, low, n, m)) in
      opened-works kind.0 disk.0 found.0 store (a.each s kind.0 disk.0 found.0 store kind.1 disk.1 found.1 h);
}

pub awaits-next : (first now : CoreState) (n : ℕ) → AwaitsFrom first now n → AwaitsFrom first now (n + 1)
awaits-next first now n a = record { positions = λ i h. a.positions i (omega (arith, h)); unbegun = a.unbegun; works = a.works }

pub awaits-rewind : (first mid new : CoreState) (events : List Event) (setup : Setup) (opening : Opening) (n : ℕ) → AreApartIn (setup_of mid).sources → BeginsAnew mid new n → StandsFor first (opened setup opening) []
    → HasBegun first mid events → AwaitsFrom first mid n → AwaitsFrom first new (n + 1)
awaits-rewind first mid new events setup opening n apart anew stands begun a =
    let at = (begun.stands setup opening stands).at in
    let s = after_all (opened setup opening) events in
    let w = anew.writes in
    record {
      positions = λ i h.
          let same : store_at new.sources i ≡ store_at mid.sources i = store-of new i ∙ ap (λ (t : Setup). store_in t.sources i) (anew.does).setup ∙ sym (store-of mid i) in
          let other : store_at mid.sources i ≡ Some anew.store → ⊥ = (λ e.
          let twin : i ≡ n = apart i n anew.store (sym (store-of mid i) ∙ e) (sym (store-of mid n) ∙ anew.has) in omega (arith, h, twin)) in
          ap (stored_in new.stores) same ∙ ap (λ (xs : List StoreState). stored_in xs (store_at mid.sources i)) w.others ∙ position-kept mid.stores w.new (store_at mid.sources i) anew.store other
          ∙ a.positions i (omega (arith, h));
      unbegun = unbegun-more mid new s n anew.does at a.unbegun;
      works = λ u store h.
          let r = get-change mid.stores anew.store u (λ _. w.new) store (ap (λ (xs : List StoreState). slice_get xs u) (sym w.others) ∙ h) in
          elim r.2 [
            | inl p ↦ ap (λ (x : StoreState). x.failed) p.1 ∙ w.writes.2.works
            | inr p ↦ ap (λ (x : StoreState). x.failed) p.1 ∙ a.works u r.0 r.1
          ];
    }

-- One source after another.

pub rewinds-push : (positions : ℕ → ℕ) (k : ℕ) (places : List ℕ) (place : ℕ) → rewinds_from positions k (places ++ place ∷ []) ≡ rewinds_from positions k places ++ rewinds_at (k + length places) (positions (k + length places)) place
rewinds-push positions k [] place = append-nil (rewinds_at k (positions k) place) ∙ ap (λ n. rewinds_at n (positions n) place) (omega arith)
rewinds-push positions k (p ∷ ps) place =
    let at : (k + 1) + length ps ≡ k + suc (length ps) = omega arith in
    ap (λ es. rewinds_at k (positions k) p ++ es) (rewinds-push positions (k + 1) ps place ∙ ap (λ n. rewinds_from positions (k + 1) ps ++ rewinds_at n (positions n) place) at)
    ∙ sym (append_assoc (rewinds_at k (positions k) p) (rewinds_from positions (k + 1) ps) (rewinds_at (k + suc (length ps)) (positions (k + suc (length ps))) place))

-- where a source has begun
pub record StepsRewind (first new : CoreState) (events : List Event) (n : ℕ) : Type 0 where
  pub begun : HasBegun first new events
  pub awaits : AwaitsFrom first new n

pub step-by : (first mid new : CoreState) (events : List Event) (setup : Setup) (opening : Opening) (n p place : ℕ) → AreApartIn (setup_of mid).sources → StandsFor first (opened setup opening) []
    → HasBegun first mid events → AwaitsFrom first mid n → BeginsSource mid new n p place true → StepsRewind first new (events ++ rewinds_at n p place) (n + 1)
step-by first mid new events setup opening n zero place apart stands begun a h =
    let same = sym h.0 in
    record { begun = subst (λ c. HasBegun first c (events ++ [])) same (subst (HasBegun first mid) (sym (append-nil events)) begun); awaits = subst (λ c. AwaitsFrom first c (n + 1)) same (awaits-next first mid n a) }
step-by first mid new events setup opening n (suc p) (suc q) apart stands begun a h =
    let same = sym h.0 in
    record { begun = subst (λ c. HasBegun first c (events ++ [])) same (subst (HasBegun first mid) (sym (append-nil events)) begun); awaits = subst (λ c. AwaitsFrom first c (n + 1)) same (awaits-next first mid n a) }
step-by first mid new events setup opening n (suc p) zero apart stands begun a h =
    record { begun = begun-rewind first mid new events setup opening n h.does stands begun; awaits = awaits-rewind first mid new events setup opening n apart h stands begun a }

pub step : (first mid new : CoreState) (setup : Setup) (opening : Opening) (places : List ℕ) (place : ℕ) → AreApartIn (setup_of mid).sources → StandsFor first (opened setup opening) []
    → HasBegun first mid (rewinds_from (position_at first) 0 places) → AwaitsFrom first mid (length places) → BeginsSource mid new (length places) (position_at mid (length places)) place true
    → StepsRewind first new (rewinds_from (position_at first) 0 (places ++ place ∷ [])) (length places + 1)
step first mid new setup opening places place apart stands begun a h =
    let n = length places in
    let at = a.positions n (omega arith) in
    let h' = subst (λ p. BeginsSource mid new n p place true) at h in
    let push = rewinds-push (position_at first) 0 places place ∙ ap (λ k. rewinds_from (position_at first) 0 places ++ rewinds_at k (position_at first k) place) (let e : 0 + n ≡ n = omega arith in e) in
    subst (λ es. StepsRewind first new es (n + 1)) (sym push) (step-by first mid new (rewinds_from (position_at first) 0 places) setup opening n (position_at first n) place apart stands begun a h')

-- where the store fails
pub fails-by : (first mid new : CoreState) (places : List ℕ) (p place : ℕ) → HasBegun first mid (rewinds_from (position_at first) 0 places) → AwaitsFrom first mid (length places)
    → BeginsSource mid new (length places) p place false → (s : ℕ) × (store_at mid.sources (length places) ≡ Some s) × FailsBehind first new places s
fails-by first mid new places zero place begun a h = absurd (let wrong : false ≡ true = h.1 in cc)
fails-by first mid new places (suc p) (suc q) begun a h = absurd (let wrong : false ≡ true = h.1 in cc)
fails-by first mid new places (suc p) zero begun a h = (
  h.store,
  h.has,
  record {
    failed = (h.does).failed;
    begun = begun-more first mid new (rewinds_from (position_at first) 0 places) Look h.does begun;
    rose = λ old now g k.
        let w = h.writes in
        let works : (w.old).failed ≡ false = a.works h.store w.old w.was in
        let cause = w.writes.1.cause works in
        let later = (begun.goes.each h.store old w.old g w.was).later in
        let there : slice_get new.stores h.store ≡ Some w.new = ap (λ (xs : List StoreState). slice_get xs h.store) w.others ∙ get-change-same mid.stores h.store (λ _. w.new) w.old w.was in
        let same : w.new ≡ now = some-same w.new now (sym there ∙ k) in
        subst (λ (x : StoreState). Rose old.disk.faults x.disk.faults) same (rose-wider old.disk.faults (w.old).disk.faults (w.new).disk.faults (w.new).disk.faults later cause (omega arith));
  },
)

few-at : (i position place : ℕ) → length (rewinds_at i position place) ≤ 1
few-at i zero place = omega arith
few-at i (suc p) (suc q) = omega arith
few-at i (suc p) zero = omega arith

pub few-rewinds : (positions : ℕ → ℕ) (k : ℕ) (places : List ℕ) → length (rewinds_from positions k places) ≤ length places
few-rewinds positions k [] = omega arith
few-rewinds positions k (p ∷ ps) =
    let one = few-at k (positions k) p in
    let rest = few-rewinds positions (k + 1) ps in
    let n = length-append (rewinds_at k (positions k) p) (rewinds_from positions (k + 1) ps) in omega (arith, one, rest, n)
