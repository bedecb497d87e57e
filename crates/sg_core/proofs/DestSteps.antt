-- A state in which one destination has changed, and what a core keeps of it.
use Rattle.std.proofs.Common.{◌≡◌, ◌≢◌, ℕ, ◌+◌, List, [], ◌∷◌, ◌++◌, Some, None, Option, Bool, refl, sym, ap, ◌∙◌, arith, suc, zero, map, slice_get, subst, inl, inr}
use Rattle.std.specs.Option.{option_map_or}
use Rattle.std.proofs.lemmas.List.{append-nil}
use Rattle.sg_list.specs.Lists.{change}
use Rattle.sg_list.proofs.ListLemmas.{some-same, get-change-same, get-change-other, get-change}
use Rattle.sg_machine.specs.declared.setup.BufferSetup.{BufferSetup}
use Rattle.sg_machine.specs.declared.setup.DestSetup.{DestSetup}
use Rattle.sg_machine.specs.declared.state.Dest.{Dest}
use Rattle.sg_machine.specs.declared.state.State.{State}
use Rattle.sg_machine.specs.Legal.{store_of}
use Rattle.sg_machine.specs.Running.{IsSoundReplay as IsReplayed}
use Rattle.sg_machine.specs.Verdicts.{is_listed}
use Rattle.sg_sinks.specs.Laws.{is_listed_in}
use Rattle.sg_sinks.specs.Standing.{IsSplit, sink_of}
use Rattle.sg_sinks.specs.States.{SinkState}
use Rattle.sg_stores.specs.Stores.{StoreState}
use Rattle.sg_standing.specs.States.{CoreState}
use Rattle.sg_standing.specs.Standing.{IsAt, AreApart, AreSpellable, IsBacked, IsBufferOf, IsStoredPosition, HoldsPosition, buffer_in, is_broken, sources_from}
use Rattle.sg_standing.proofs.Calls.{apart-both, apart-dests}
use Rattle.sg_core.proofs.SettleSteps.{with_dests}

-- the store of the destination's disk-buffer is so, and all others are as they were
pub record LeavesDest (olds news : List StoreState) (failed more : List ℕ) (dest : Dest) : Type 0 where
  pub backed : (b : BufferSetup) → dest.setup.buffer ≡ Some b → IsBacked news (failed ++ more) b dest
  pub others : (v : ℕ) → ((b : BufferSetup) → dest.setup.buffer ≡ Some b → v ≢ b.store) → slice_get news v ≡ slice_get olds v
  pub unlisted : (v : ℕ) → ((b : BufferSetup) → dest.setup.buffer ≡ Some b → v ≢ b.store) → is_listed v (failed ++ more) ≡ is_listed v failed

map-same : {A B : Type 0} (F G : A → B) (xs : List A) → ((k : ℕ) (y : A) → slice_get xs k ≡ Some y → G y ≡ F y) → map G xs ≡ map F xs
map-same F G [] h = refl
map-same F G (x ∷ xs) h = ap (λ y. y ∷ map G xs) (h 0 x refl) ∙ ap (λ ys. F x ∷ ys) (map-same F G xs (λ k y g. h (suc k) y g))

pub map-changed : {A B : Type 0} (F G : A → B) (f : A → A) (g : B → B) (xs : List A) (d : ℕ) (x : A) → slice_get xs d ≡ Some x → G (f x) ≡ g (F x) → ((k : ℕ) (y : A) → slice_get xs k ≡ Some y → k ≢ d → G y ≡ F y)
    → map G (change xs d f) ≡ change (map F xs) d g
map-changed F G f g [] d x h here others = let wrong : None ≡ Some x = h in cc
map-changed F G f g (y ∷ xs) zero x h here others =
    let same = some-same y x h in
    let head : G (f y) ≡ g (F y) = rw same here in
    ap (λ z. z ∷ map G xs) head ∙ ap (λ zs. g (F y) ∷ zs) (map-same F G xs (λ k z e. others (suc k) z e (omega arith)))
map-changed F G f g (y ∷ xs) (suc d) x h here others =
    let rest = map-changed F G f g xs d x h here (λ k z e ne. others (suc k) z e (λ q. ne (omega (arith, q)))) in
    ap (λ z. z ∷ map G (change xs d f)) (others 0 y refl (omega arith)) ∙ ap (λ zs. F y ∷ zs) rest

-- no store is another's
store-kept : (x y : Dest) → y.setup ≡ x.setup → store_of y ≡ store_of x
store-kept x y h = ap (λ (z : DestSetup). option_map_or (λ (b : BufferSetup). Some b.store) z.buffer None) h

buffers-kept : (f : Dest → Dest) → ((x : Dest) → (f x).setup ≡ x.setup) → (ds : List Dest) (d e : ℕ) → buffer_in (change ds d f) e ≡ buffer_in ds e
buffers-kept f h [] d e = refl
buffers-kept f h (x ∷ ds) zero zero = store-kept x (f x) (h x)
buffers-kept f h (x ∷ ds) zero (suc e) = refl
buffers-kept f h (x ∷ ds) (suc d) zero = refl
buffers-kept f h (x ∷ ds) (suc d) (suc e) = buffers-kept f h ds d e

apart-kept : (s : State) (d : ℕ) (f : Dest → Dest) → ((x : Dest) → (f x).setup ≡ x.setup) → AreApart s → AreApart (with_dests (change s.dests d f) s)
apart-kept s d f keeps apart = record {
  inlets = apart.inlets;
  dests = λ a b u ha hb. apart.dests a b u (sym (buffers-kept f keeps s.dests d a) ∙ ha) (sym (buffers-kept f keeps s.dests d b) ∙ hb);
  both = λ i a u hi ha. apart.both i a u hi (sym (buffers-kept f keeps s.dests d a) ∙ ha);
}

-- what holds of each destination and of the changed one holds of all
kept-at : (s : State) (d : ℕ) (f : Dest → Dest) (dest : Dest) (P : Dest → Type 0) → slice_get s.dests d ≡ Some dest → P (f dest) → ((e : ℕ) (x : Dest) → slice_get s.dests e ≡ Some x → P x)
    → (e : ℕ) (x : Dest) → slice_get (change s.dests d f) e ≡ Some x → P x
kept-at s d f dest P there here all e x h =
    let g = get-change s.dests d e f x h in
    elim g.2 [
      | inl p ↦ (
          let at_d : slice_get s.dests d ≡ Some g.0 = ap (slice_get s.dests) (sym p.0) ∙ g.1 in
          let same : dest ≡ g.0 = some-same dest g.0 (sym there ∙ at_d) in
          let is : f dest ≡ x = ap f same ∙ sym p.1 in
          subst P is here)
      | inr p ↦ subst P (sym p.1) (all e g.0 g.1)
    ]

-- the stores of a state that other stores are like
kept-stored : (olds news : List StoreState) (failed more : List ℕ) (dest : Dest) (o : Option ℕ) (p : ℕ) → LeavesDest olds news failed more dest → ((v : ℕ) → o ≡ Some v → (b : BufferSetup) → dest.setup.buffer ≡ Some b → v ≢ b.store)
    → IsStoredPosition olds failed o p → IsStoredPosition news (failed ++ more) o p
kept-stored olds news failed more dest None p l ne h = h
kept-stored olds news failed more dest (Some v) p l ne h =
    let P : Option StoreState → Type 0 = λ r. HoldsPosition r p (is_listed v (failed ++ more)) in
    let Q : Bool → Type 0 = λ b. HoldsPosition (slice_get olds v) p b in
    subst P (sym (l.others v (ne v refl))) (subst Q (sym (l.unlisted v (ne v refl))) h)

kept-backed : (olds news : List StoreState) (failed more : List ℕ) (dest : Dest) (c : BufferSetup) (x : Dest) → LeavesDest olds news failed more dest → ((b : BufferSetup) → dest.setup.buffer ≡ Some b → c.store ≢ b.store)
    → IsBacked olds failed c x → IsBacked news (failed ++ more) c x
kept-backed olds news failed more dest c x l ne h = record {
  store = h.store;
  there = l.others c.store ne ∙ h.there;
  is = subst (λ (b : Bool). IsBufferOf h.store c x b) (sym (l.unlisted c.store ne)) h.is;
}

broken-kept : (failed more : List ℕ) (dest : Dest) (olds news : List StoreState) (o : Option BufferSetup) → LeavesDest olds news failed more dest → ((c : BufferSetup) → o ≡ Some c → (b : BufferSetup) → dest.setup.buffer ≡ Some b → c.store ≢ b.store)
    → is_listed_in o (failed ++ more) ≡ is_listed_in o failed
broken-kept failed more dest olds news None l ne = refl
broken-kept failed more dest olds news (Some c) l ne = l.unlisted c.store (ne c refl)

pub at-dest : (core new : CoreState) (s : State) (d : ℕ) (f : Dest → Dest) (dest : Dest) (g : SinkState → SinkState) (more : List ℕ) → IsAt core s → slice_get s.dests d ≡ Some dest → ((x : Dest) → (f x).setup ≡ x.setup) → IsSplit (f dest) → AreSpellable (f dest).setup.buffer (f dest).left
    → IsReplayed (with_dests (change s.dests d f) s) → new.sources ≡ sources_from (change s.dests d f) 0 s.inlets → new.sinks ≡ change core.sinks d g
    → sink_of (is_broken (s.failed ++ more) (f dest)) (f dest) ≡ g (sink_of (is_broken s.failed dest) dest) → LeavesDest core.stores new.stores s.failed more (f dest)
    → IsAt new (record s { dests = change s.dests d f; failed = s.failed ++ more })
at-dest core new s d f dest g more at there keeps split spells replayed sources sinks shown l =
    let setup : (f dest).setup ≡ dest.setup = keeps dest in
    let had : (b : BufferSetup) → (f dest).setup.buffer ≡ Some b → dest.setup.buffer ≡ Some b = λ b h. ap (λ (z : DestSetup). z.buffer) (sym setup) ∙ h in
    record {
      sound = record {
        replayed = record { admitted = replayed.admitted; split = replayed.split };
        split = kept-at s d f dest IsSplit there split at.sound.split;
        spellable = kept-at s d f dest (λ x. AreSpellable x.setup.buffer x.left) there spells at.sound.spellable;
        unmoved = at.sound.unmoved;
        apart = (let a = apart-kept s d f keeps at.sound.apart in record { inlets = a.inlets; dests = a.dests; both = a.both });
      };
      sources = sources;
      sinks = sinks ∙ ap (λ ks. change ks d g) at.sinks
          ∙ sym (map-changed (λ (x : Dest). sink_of (is_broken s.failed x) x) (λ (x : Dest). sink_of (is_broken (s.failed ++ more) x) x) f g s.dests d dest there shown
          (λ e x h ne. ap (λ b. sink_of b x) (broken-kept s.failed more (f dest) core.stores new.stores x.setup.buffer l (λ c hc b hb. apart-dests s d e dest x b c at.sound.apart there h (had b hb) hc ne))));
      stores = λ i x h. kept-stored core.stores new.stores s.failed more (f dest) x.setup.store x.stored l (λ v hv b hb. apart-both s i d v x dest b at.sound.apart h hv there (had b hb)) (at.stores i x h);
      buffers = λ e x c h hc.
          let q = get-change s.dests d e f x h in
          elim q.2 [
            | inl p ↦ (
                let at_d : slice_get s.dests d ≡ Some q.0 = ap (slice_get s.dests) (sym p.0) ∙ q.1 in
                let same : dest ≡ q.0 = some-same dest q.0 (sym there ∙ at_d) in
                let is : f dest ≡ x = ap f same ∙ sym p.1 in
                let has : (f dest).setup.buffer ≡ Some c = ap (λ (z : Dest). z.setup.buffer) is ∙ hc in
                subst (λ (z : Dest). IsBacked new.stores (s.failed ++ more) c z) is (l.backed c has))
            | inr p ↦ (
                let had_c : (q.0).setup.buffer ≡ Some c = ap (λ (z : Dest). z.setup.buffer) (sym p.1) ∙ hc in
                let old = at.buffers e q.0 c q.1 had_c in
                let kept = kept-backed core.stores new.stores s.failed more (f dest) c q.0 l (λ b hb. apart-dests s d e dest q.0 b c at.sound.apart there q.1 (had b hb) had_c p.0) old in
                subst (λ (z : Dest). IsBacked new.stores (s.failed ++ more) c z) (sym p.1) kept)
          ];
    }

-- The stores that a call leaves.

same-buffer : (stores : List StoreState) (failed : List ℕ) (b c : BufferSetup) (x : Dest) → b ≡ c → IsBacked stores failed b x → IsBacked stores failed c x
same-buffer stores failed b c x e h = subst (λ (z : BufferSetup). IsBacked stores failed z x) e h

-- all stay
pub leaves-same : (olds news : List StoreState) (failed : List ℕ) (dest : Dest) → news ≡ olds → ((b : BufferSetup) → dest.setup.buffer ≡ Some b → IsBacked olds failed b dest) → LeavesDest olds news failed [] dest
leaves-same olds news failed dest same backed = record {
  backed = λ b h. subst (λ (xs : List StoreState). IsBacked xs (failed ++ []) b dest) (sym same) (subst (λ (fs : List ℕ). IsBacked olds fs b dest) (sym (append-nil failed)) (backed b h));
  others = λ v ne. ap (λ xs. slice_get xs v) same;
  unlisted = λ v ne. ap (is_listed v) (append-nil failed);
}

-- that of the disk-buffer has changed, and it has failed where it is listed as such
pub leaves-one : (olds news : List StoreState) (failed more : List ℕ) (dest : Dest) (b : BufferSetup) (was now : StoreState) → dest.setup.buffer ≡ Some b → slice_get olds b.store ≡ Some was → news ≡ change olds b.store (λ _. now)
    → IsBufferOf now b dest (is_listed b.store (failed ++ more)) → ((v : ℕ) → v ≢ b.store → is_listed v (failed ++ more) ≡ is_listed v failed) → LeavesDest olds news failed more dest
leaves-one olds news failed more dest b was now has get others is unlisted = record {
  backed = λ c h. same-buffer news (failed ++ more) b c dest (some-same b c (sym has ∙ h)) (record { store = now; there = ap (λ xs. slice_get xs b.store) others ∙ get-change-same olds b.store (λ _. now) was get; is = is });
  others = λ v ne. ap (λ xs. slice_get xs v) others ∙ get-change-other olds b.store v (λ _. now) (ne b has);
  unlisted = λ v ne. unlisted v (ne b has);
}

-- The destination behind what is kept of it.

pub record IsDestShown (core : CoreState) (s : State) (d : ℕ) (sink : SinkState) : Type 0 where
  pub dest : Dest
  pub there : slice_get s.dests d ≡ Some dest
  pub shown : sink ≡ sink_of (is_broken s.failed dest) dest

get-map : {A B : Type 0} (F : A → B) (xs : List A) (k : ℕ) (y : B) → slice_get (map F xs) k ≡ Some y → (x : A) × (slice_get xs k ≡ Some x) × (y ≡ F x)
get-map F [] k y h = let wrong : None ≡ Some y = h in cc
get-map F (x ∷ xs) zero y h = (x, refl, sym (some-same (F x) y h))
get-map F (x ∷ xs) (suc k) y h = get-map F xs k y h

pub dest-of : (core : CoreState) (s : State) (d : ℕ) (sink : SinkState) → IsAt core s → slice_get core.sinks d ≡ Some sink → IsDestShown core s d sink
dest-of core s d sink at h =
    let r = get-map (λ (x : Dest). sink_of (is_broken s.failed x) x) s.dests d sink (ap (λ ks. slice_get ks d) (sym at.sinks) ∙ h) in
    record { dest = r.0; there = r.1; shown = r.2 }

-- whether its store has failed is what the store says
pub broken-listed : (failed : List ℕ) (dest : Dest) (b : BufferSetup) → dest.setup.buffer ≡ Some b → is_broken failed dest ≡ is_listed b.store failed
broken-listed failed dest b has = rw has refl
