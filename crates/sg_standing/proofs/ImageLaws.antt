-- Images of the stores of a core.
use Rattle.std.proofs.Common.{◌≡◌, ℕ, ◌+◌, List, [], ◌∷◌, ◌++◌, length, take, drop, Some, None, Option, Bool, true, false, refl, sym, ap, ◌∙◌, arith, suc, zero, slice_get, subst, inl, inr, map, append_assoc}
use Rattle.std.specs.Prelude.{is_some}
use Rattle.std.specs.Option.{option_map_or}
use Rattle.std.proofs.lemmas.Bool.{cases_eq}
use Rattle.std.proofs.lemmas.List.{length-map}
use Rattle.sg_list.specs.Lists.{change}
use Rattle.sg_list.proofs.ListLemmas.{some-same, slice_get-map, slice_get-some, slice_get-below, get-change-same, get-change-other}
use Rattle.sg_device.specs.Disk.{IsImage, IsImageAt}
use Rattle.sg_stable.specs.Cell.{cell_value}
use Rattle.sg_codec.specs.declared.kept.Kept.{Kept as Coded}
use Rattle.sg_buffer.specs.Entries.{IsListOf}
use Rattle.sg_machine.specs.declared.event.Act.{Act}
use Rattle.sg_machine.specs.declared.event.Act.TheVariants.{Admit, Settle, Refill, Store, Rewind, Look}
use Rattle.sg_machine.specs.declared.event.Event.{Event}
use Rattle.sg_machine.specs.declared.setup.BufferSetup.{BufferSetup}
use Rattle.sg_machine.specs.declared.setup.DestSetup.{DestSetup}
use Rattle.sg_machine.specs.declared.setup.Setup.{Setup}
use Rattle.sg_machine.specs.declared.setup.SourceSetup.{SourceSetup}
use Rattle.sg_machine.specs.declared.state.Dest.{Dest}
use Rattle.sg_machine.specs.declared.state.InletRecords.{InletRecords}
use Rattle.sg_machine.specs.declared.state.State.{State}
use Rattle.sg_machine.specs.Effects.{admitted, stored_at, rewound, after, after_act}
use Rattle.sg_machine.specs.Runs.{BufferedEntry, Opening, opened, after_all, are_legal}
use Rattle.sg_machine.specs.Safe.{Safe, ImagesAt, IsSafeList, nothing, failed_entries}
use Rattle.sg_machine.specs.Verdicts.{is_listed}
use Rattle.sg_machine.proofs.RunLemmas.{after_all-append, are_legal-parts, length-inlets-after_act}
use Rattle.sg_machine.proofs.SafeLemmas.{safe}
use Rattle.sg_sinks.specs.Standing.{sink_of}
use Rattle.sg_sinks.specs.States.{SinkState}
use Rattle.sg_stores.specs.Stores.{StoreState, coded}
use Rattle.sg_standing.specs.States.{CoreState}
use Rattle.sg_standing.specs.Standing.{IsAt, IsPositionOf, IsSafeStore, IsStoredPosition, HoldsPosition, StandsFor, DoesAct, is_broken, source_of, sources_from, positions_within, failed_then}
use Rattle.sg_standing.specs.Images.{position_in, positions_in, AreListsIn, AreImages, AreImagesWithin, AreImagesBetween, AreStores}
use Rattle.sg_standing.specs.declared.source.Source.{Source}
use Rattle.sg_standing.proofs.Frozen.{kept-setup, length-dests}
use Rattle.sg_standing.proofs.More.{legal-more}
use Rattle.sg_standing.proofs.Still.{position-before, list-before}

-- What is kept of a state has its setup.

pub record ShowsImage (core : CoreState) (s : State) : Type 0 where
  pub every_source : length core.sources ≡ length s.inlets
  pub every_sink : length core.sinks ≡ length s.dests
  pub sources : (i : ℕ) (x : InletRecords) → slice_get s.inlets i ≡ Some x → (source : Source) × (slice_get core.sources i ≡ Some source) × (source.setup ≡ x.setup)
  pub sinks : (d : ℕ) (x : Dest) → slice_get s.dests d ≡ Some x → (sink : SinkState) × (slice_get core.sinks d ≡ Some sink) × (sink.setup ≡ x.setup)
  pub positions : (i u : ℕ) (x : InletRecords) → slice_get s.inlets i ≡ Some x → x.setup.store ≡ Some u → (store : StoreState) × (slice_get core.stores u ≡ Some store)
  pub buffers : (d : ℕ) (x : Dest) (buffer : BufferSetup) → slice_get s.dests d ≡ Some x → x.setup.buffer ≡ Some buffer → (store : StoreState) × (slice_get core.stores buffer.store ≡ Some store)

length-sources : (ds : List Dest) (i : ℕ) (inlets : List InletRecords) → length (sources_from ds i inlets) ≡ length inlets
length-sources ds i [] = refl
length-sources ds i (x ∷ inlets) = ap suc (length-sources ds (i + 1) inlets)

get-sources : (ds : List Dest) (j i : ℕ) (inlets : List InletRecords) (x : InletRecords) → slice_get inlets i ≡ Some x → (source : Source) × (slice_get (sources_from ds j inlets) i ≡ Some source) × (source.setup ≡ x.setup)
get-sources ds j i [] x h = let wrong : None ≡ Some x = h in cc
get-sources ds j zero (y ∷ inlets) x h = (source_of ds j y, refl, ap (λ (z : InletRecords). z.setup) (some-same y x h))
get-sources ds j (suc i) (y ∷ inlets) x h = get-sources ds (j + 1) i inlets x h

held-store : (o : Option StoreState) (p : ℕ) (f : Bool) → HoldsPosition o p f → (store : StoreState) × (o ≡ Some store)
held-store None p f h = absurd h
held-store (Some store) p f h = (store, refl)

pub shows-at : (core : CoreState) (s : State) → IsAt core s → ShowsImage core s
shows-at core s at = record {
  every_source = ap length at.sources ∙ length-sources s.dests 0 s.inlets;
  every_sink = ap length at.sinks ∙ length-map s.dests (λ (x : Dest). sink_of (is_broken s.failed x) x);
  sources = λ i x h. let r = get-sources s.dests 0 i s.inlets x h in (r.0, ap (λ xs. slice_get xs i) at.sources ∙ r.1, r.2);
  sinks = λ d x h. (sink_of (is_broken s.failed x) x, ap (λ xs. slice_get xs d) at.sinks ∙ slice_get-map (λ (y : Dest). sink_of (is_broken s.failed y) y) s.dests d x h, refl);
  positions = λ i u x h has.
      let P : Option ℕ → Type 0 = λ o. IsStoredPosition core.stores s.failed o x.stored in
      held-store (slice_get core.stores u) x.stored (is_listed u s.failed) (subst P has (at.stores i x h));
  buffers = λ d x buffer h has. let b = at.buffers d x buffer h has in (b.store, b.there);
}

inlet-change : (xs : List InletRecords) (j i : ℕ) (f : InletRecords → InletRecords) (x : InletRecords) → ((z : InletRecords) → (f z).setup ≡ z.setup) → slice_get xs i ≡ Some x → (y : InletRecords) × (slice_get (change xs j f) i ≡ Some y) × (y.setup ≡ x.setup)
inlet-change xs j i f x keeps h =
    elim (cases_eq j i) [
      | inl p ↦ (f x, rw p (get-change-same xs i f x h), keeps x)
      | inr ne ↦ (x, get-change-other xs j i f (λ p. ne (sym p)) ∙ h, refl)
    ]

pub kept-inlet : (s : State) (act : Act) (failed : List ℕ) (i : ℕ) (x : InletRecords) → slice_get s.inlets i ≡ Some x → (y : InletRecords) × (slice_get (after_act s act failed).inlets i ≡ Some y) × (y.setup ≡ x.setup)
kept-inlet s (Admit j records vs) failed i x h = inlet-change s.inlets j i (admitted records) x (λ z. refl) h
kept-inlet s (Settle d n) failed i x h = (x, h, refl)
kept-inlet s (Refill d n) failed i x h = (x, h, refl)
kept-inlet s (Store j w) failed i x h = inlet-change s.inlets j i (stored_at w) x (λ z. refl) h
kept-inlet s (Rewind j) failed i x h = inlet-change s.inlets j i rewound x (λ z. refl) h
kept-inlet s Look failed i x h = (x, h, refl)

shows-before : (core : CoreState) (s : State) (e : Event) → ShowsImage core (after s e) → ShowsImage core s
shows-before core s e h = record {
  every_source = h.every_source ∙ length-inlets-after_act s e.act e.failed;
  every_sink = h.every_sink ∙ length-dests s e.act e.failed;
  sources = λ i x g.
      let k = kept-inlet s e.act e.failed i x g in
      let r = h.sources i k.0 k.1 in
      (r.0, r.1, r.2 ∙ k.2);
  sinks = λ d x g.
      let k = kept-setup s e.act e.failed d x g in
      let r = h.sinks d k.0 k.1 in
      (r.0, r.1, r.2 ∙ k.2);
  positions = λ i u x g has.
      let k = kept-inlet s e.act e.failed i x g in
      h.positions i u k.0 k.1 (ap (λ (y : SourceSetup). y.store) k.2 ∙ has);
  buffers = λ d x buffer g has.
      let k = kept-setup s e.act e.failed d x g in
      h.buffers d k.0 buffer k.1 (ap (λ (y : DestSetup). y.buffer) k.2 ∙ has);
}

shows-all : (core : CoreState) (s : State) (es : List Event) → ShowsImage core (after_all s es) → ShowsImage core s
shows-all core s [] h = h
shows-all core s (e ∷ es) h = shows-before core s e (shows-all core (after s e) es h)

-- the events up to one of them
split-at : (es : List Event) (k : ℕ) (e : Event) → slice_get es k ≡ Some e → es ≡ (take k es ++ e ∷ []) ++ drop (suc k) es
split-at [] k e h = let wrong : None ≡ Some e = h in cc
split-at (x ∷ es) zero e h = ap (λ y. y ∷ es) (some-same x e h)
split-at (x ∷ es) (suc k) e h = ap (λ xs. x ∷ xs) (split-at es k e h)

shows-then : (core : CoreState) (start : State) (events : List Event) (k : ℕ) (e : Event) → ShowsImage core (after_all start events) → slice_get events k ≡ Some e → ShowsImage core (after_all start (take k events))
shows-then core start events k e h g =
    let rest = e ∷ drop (suc k) events in
    let parts : events ≡ take k events ++ rest = split-at events k e g ∙ append_assoc (take k events) (e ∷ []) (drop (suc k) events) in
    let same : after_all start events ≡ after_all (after_all start (take k events)) rest = ap (after_all start) parts ∙ after_all-append start (take k events) rest in
    shows-all core (after_all start (take k events)) rest (subst (ShowsImage core) same h)

legal-then : (start : State) (events : List Event) (k : ℕ) (e : Event) → are_legal start events ≡ true → slice_get events k ≡ Some e → are_legal start (take k events ++ e ∷ []) ≡ true
legal-then start events k e legal g =
    let all : are_legal start ((take k events ++ e ∷ []) ++ drop (suc k) events) ≡ true = subst (λ (es : List Event). are_legal start es ≡ true) (split-at events k e g) legal in
    (are_legal-parts start (take k events ++ e ∷ []) (drop (suc k) events) all).0

-- What the images have.

-- each image of a store has one of its positions, or a safe list
pub record AreHeld (core : CoreState) (start : State) (events : List Event) (e : Event) (images : List (List ℕ)) : Type 0 where
  pub shows : ShowsImage core (after_all start events)
  pub chosen : (s : ℕ) (store : StoreState) → slice_get core.stores s ≡ Some store → (bytes : List ℕ) × (slice_get images s ≡ Some bytes)
  pub positions : (i u : ℕ) (x : InletRecords) (bytes : List ℕ) → slice_get (after_all start events).inlets i ≡ Some x → x.setup.store ≡ Some u → slice_get images u ≡ Some bytes → IsPositionOf (positions_within start events e i x) bytes
  pub lists : (d : ℕ) (x : Dest) (buffer : BufferSetup) (bytes : List ℕ) → slice_get (after_all start events).dests d ≡ Some x → x.setup.buffer ≡ Some buffer → slice_get images buffer.store ≡ Some bytes
      → IsSafeStore x d e.act (failed_then start events e) (failed_entries start (events ++ e ∷ []) d) bytes

some-of : (o : Option ℕ) → is_some o ≡ true → (n : ℕ) × (o ≡ Some n)
some-of None h = let wrong : false ≡ true = h in cc
some-of (Some n) h = (n, refl)

buffer-of : (o : Option BufferSetup) → is_some o ≡ true → (b : BufferSetup) × (o ≡ Some b)
buffer-of None h = let wrong : false ≡ true = h in cc
buffer-of (Some b) h = (b, refl)

coded-same : (a b : BufferedEntry) → coded a ≡ coded b → a ≡ b
coded-same a b h =
    let inlet : a.inlet ≡ b.inlet = ap (λ (k : Coded). k.source) h in
    let end : a.end ≡ b.end = ap (λ (k : Coded). k.end) h in
    let flow : a.flow ≡ b.flow = ap (λ (k : Coded). k.flow) h in
    let message : a.message ≡ b.message = ap (λ (k : Coded). k.message) h in
    rw (inlet, end, flow, message) refl

head-same : (x y : Coded) (xs ys : List Coded) → x ∷ xs ≡ y ∷ ys → (x ≡ y) × (xs ≡ ys)
head-same x y xs ys h = (cc, cc)

pub codes-same : (a b : List BufferedEntry) → map coded a ≡ map coded b → a ≡ b
codes-same [] [] h = refl
codes-same [] (y ∷ ys) h = let wrong : [] ≡ coded y ∷ map coded ys = h in cc
codes-same (x ∷ xs) [] h = let wrong : coded x ∷ map coded xs ≡ [] = h in cc
codes-same (x ∷ xs) (y ∷ ys) h =
    let p = head-same (coded x) (coded y) (map coded xs) (map coded ys) h in
    rw (coded-same x y p.0, codes-same xs ys p.1) refl

abbrev AreOne : Type 0
AreOne = (a b : List Coded) (bytes : List ℕ) → IsListOf a bytes → IsListOf b bytes → a ≡ b

-- where there is a disk-buffer
abbrev pub AreOneIn : CoreState → Type 0
AreOneIn core = (d : ℕ) (sink : SinkState) (buffer : BufferSetup) → slice_get core.sinks d ≡ Some sink → sink.setup.buffer ≡ Some buffer → AreOne

-- the position of an image is listed
listed-of : (ps : List ℕ) (bytes : List ℕ) → IsPositionOf ps bytes → is_listed (cell_value bytes) ps ≡ true
listed-of ps bytes one = rw one.is_position.holds one.listed

pub images-at : (core : CoreState) (start : State) (events : List Event) (e : Event) (images : List (List ℕ)) (lists : List (List BufferedEntry)) → AreOneIn core → AreHeld core start events e images → AreListsIn core.sinks images lists
    → ImagesAt start events e (record { positions = positions_in core.sources images; lists = lists })
images-at core start events e images lists one h are =
    let s = after_all start events in
    record {
      every_position = length-map core.sources (λ (x : Source). position_in images x.setup.store) ∙ (h.shows).every_source;
      every_list = are.every ∙ (h.shows).every_sink;
      stored = λ i x position there some get.
          let u = some-of x.setup.store some in
          let store = (h.shows).positions i u.0 x there u.1 in
          let image = h.chosen u.0 store.0 store.1 in
          let source = (h.shows).sources i x there in
          let mapped = slice_get-map (λ (y : Source). position_in images y.setup.store) core.sources i source.0 source.1 in
          let has : (source.0).setup.store ≡ Some u.0 = ap (λ (y : SourceSetup). y.store) source.2 ∙ u.1 in
          let is : position ≡ cell_value image.0 =
          some-same position (position_in images (source.0).setup.store) (sym get ∙ mapped) ∙ ap (λ o. position_in images o) has ∙ ap (λ o. option_map_or cell_value o 0) image.1 in
          subst (λ (n : ℕ). is_listed n (positions_within start events e i x) ≡ true) (sym is) (listed-of (positions_within start events e i x) image.0 (h.positions i u.0 x image.0 there u.1 image.1));
      safe_lists = λ d x list there some get.
          let b = buffer-of x.setup.buffer some in
          let store = (h.shows).buffers d x b.0 there b.1 in
          let image = h.chosen (b.0).store store.0 store.1 in
          let sink = (h.shows).sinks d x there in
          let has : (sink.0).setup.buffer ≡ Some b.0 = ap (λ (y : DestSetup). y.buffer) sink.2 ∙ b.1 in
          let held = h.lists d x b.0 image.0 there b.1 image.1 in
          let same = codes-same held.list list (one d sink.0 b.0 sink.1 has (map coded held.list) (map coded list) image.0 held.entries (are.each d sink.0 b.0 list image.0 sink.1 has get image.1)) in
          subst (λ (ks : List BufferedEntry). IsSafeList x d e.act (failed_then start events e) (failed_entries start (events ++ e ∷ []) d) ks) same held.safe;
    }

pub safe-held : (setup : Setup) (opening : Opening) (events : List Event) (e : Event) (core : CoreState) (images : List (List ℕ)) (lists : List (List BufferedEntry)) → AreOne → are_legal (opened setup opening) (events ++ e ∷ []) ≡ true
    → AreHeld core (opened setup opening) events e images → AreListsIn core.sinks images lists → Safe (opened setup opening) events e (record { positions = positions_in core.sources images; lists = lists })
safe-held setup opening events e core images lists one legal h are =
    safe setup opening events e (record { positions = positions_in core.sources images; lists = lists }) legal (images-at core (opened setup opening) events e images lists (λ d sink buffer there has. one) h are)

-- they are position stores and lists of entries
pub stores-held : (core : CoreState) (start : State) (events : List Event) (e : Event) (images : List (List ℕ)) → AreHeld core start events e images → AreStores core images
stores-held core start events e images h =
    let s = after_all start events in
    record {
      positions = λ i source u bytes there has get.
          let below = slice_get-below core.sources i source there in
          let count = (h.shows).every_source in
          let x = slice_get-some s.inlets i (omega (arith, below, count)) in
          let r = (h.shows).sources i x.0 x.1 in
          let same : r.0 ≡ source = some-same r.0 source (sym r.1 ∙ there) in
          let store : (x.0).setup.store ≡ Some u = ap (λ (y : SourceSetup). y.store) (sym r.2) ∙ ap (λ (y : Source). y.setup.store) same ∙ has in
          let one = h.positions i u x.0 bytes x.1 store get in
          (one.position, one.is_position);
      lists = λ d sink buffer bytes there has get.
          let below = slice_get-below core.sinks d sink there in
          let count = (h.shows).every_sink in
          let x = slice_get-some s.dests d (omega (arith, below, count)) in
          let r = (h.shows).sinks d x.0 x.1 in
          let same : r.0 ≡ sink = some-same r.0 sink (sym r.1 ∙ there) in
          let had : (x.0).setup.buffer ≡ Some buffer = ap (λ (y : DestSetup). y.buffer) (sym r.2) ∙ ap (λ (y : SinkState). y.setup.buffer) same ∙ has in
          let held = h.lists d x.0 buffer bytes x.1 had get in
          (held.list, held.entries);
    }

-- Images now, within a call, and between two rows.

pub held-now : (core : CoreState) (start : State) (events : List Event) (images : List (List ℕ)) → StandsFor core start events → AreImages core.stores images → AreHeld core start events nothing images
held-now core start events images h are =
    let s = after_all start events in
    let shows = shows-at core s h.at in
    record {
      shows = shows;
      chosen = λ u store get. let r = are u store get in (r.0, r.1);
      positions = λ i u x bytes there has get.
          let store = shows.positions i u x there has in
          let r = are u store.0 store.1 in
          let same : r.0 ≡ bytes = some-same r.0 bytes (sym r.1 ∙ get) in
          position-before core start events nothing i u x store.0 h there has store.1 bytes (subst (λ (b : List ℕ). IsImage (store.0).disk b) same r.2);
      lists = λ d x buffer bytes there has get.
          let store = shows.buffers d x buffer there has in
          let r = are buffer.store store.0 store.1 in
          let same : r.0 ≡ bytes = some-same r.0 bytes (sym r.1 ∙ get) in
          list-before core start events nothing d x buffer store.0 h there has store.1 bytes (subst (λ (b : List ℕ). IsImage (store.0).disk b) same r.2);
    }

new-store : (olds news : List StoreState) (u : ℕ) (old : StoreState) → length news ≡ length olds → slice_get olds u ≡ Some old → (new : StoreState) × (slice_get news u ≡ Some new)
new-store olds news u old count h = let below = slice_get-below olds u old h in slice_get-some news u (omega (arith, below, count))

pub held-within : (old new : CoreState) (start : State) (events : List Event) (act : Act) (does : DoesAct old new act) (images : List (List ℕ)) → StandsFor old start events → AreImagesWithin old.stores new.stores images
    → AreHeld old start events (record { act = act; failed = does.failed }) images
held-within old new start events act does images h are =
    let s = after_all start events in
    let shows = shows-at old s h.at in
    record {
      shows = shows;
      chosen = λ u store get.
          let now = new-store old.stores new.stores u store (does.goes).count get in
          let r = are u store now.0 get now.1 in (r.bytes, r.chosen);
      positions = λ i u x bytes there has get.
          let store = shows.positions i u x there has in
          let now = new-store old.stores new.stores u store.0 (does.goes).count store.1 in
          let r = are u store.0 now.0 store.1 now.1 in
          let same : r.bytes ≡ bytes = some-same r.bytes bytes (sym r.chosen ∙ get) in
          let within = does.positions start events h i x u store.0 now.0 there has store.1 now.1 in
          within.each r.moment bytes r.since r.before (subst (λ (b : List ℕ). IsImageAt (now.0).disk r.moment b) same r.image);
      lists = λ d x buffer bytes there has get.
          let store = shows.buffers d x buffer there has in
          let now = new-store old.stores new.stores buffer.store store.0 (does.goes).count store.1 in
          let r = are buffer.store store.0 now.0 store.1 now.1 in
          let same : r.bytes ≡ bytes = some-same r.bytes bytes (sym r.chosen ∙ get) in
          let within = does.lists start events h d x buffer store.0 now.0 there has store.1 now.1 in
          within.each r.moment bytes r.since r.before (subst (λ (b : List ℕ). IsImageAt (now.0).disk r.moment b) same r.image);
    }

pub legal-within : (old new : CoreState) (start : State) (events : List Event) (act : Act) (does : DoesAct old new act) → StandsFor old start events → are_legal start (events ++ record { act = act; failed = does.failed } ∷ []) ≡ true
legal-within old new start events act does h = legal-more start events (record { act = act; failed = does.failed }) h.legal (does.step (after_all start events) h.at).0

pub legal-now : (core : CoreState) (start : State) (events : List Event) → StandsFor core start events → are_legal start (events ++ nothing ∷ []) ≡ true
legal-now core start events h = legal-more start events nothing h.legal refl

pub held-between : (core : CoreState) (start : State) (events : List Event) (h : StandsFor core start events) (k : ℕ) (e : Event) (images : List (List ℕ)) → slice_get events k ≡ Some e
    → AreImagesBetween core.stores (h.moments.rows k) (h.moments.rows (k + 1)) images → AreHeld core start (take k events) e images
held-between core start events h k e images g are =
    let shows = shows-then core start events k e (shows-at core (after_all start events) h.at) g in
    record {
      shows = shows;
      chosen = λ u store get. let r = are u store get in (r.bytes, r.chosen);
      positions = λ i u x bytes there has get.
          let store = shows.positions i u x there has in
          let r = are u store.0 store.1 in
          let same : r.bytes ≡ bytes = some-same r.bytes bytes (sym r.chosen ∙ get) in
          h.moments.positions k e g i x u store.0 r.moment bytes there has store.1 r.since r.before (subst (λ (b : List ℕ). IsImageAt (store.0).disk r.moment b) same r.image);
      lists = λ d x buffer bytes there has get.
          let store = shows.buffers d x buffer there has in
          let r = are buffer.store store.0 store.1 in
          let same : r.bytes ≡ bytes = some-same r.bytes bytes (sym r.chosen ∙ get) in
          h.moments.lists k e g d x buffer store.0 r.moment bytes there has store.1 r.since r.before (subst (λ (b : List ℕ). IsImageAt (store.0).disk r.moment b) same r.image);
    }

pub legal-between : (core : CoreState) (start : State) (events : List Event) (k : ℕ) (e : Event) → StandsFor core start events → slice_get events k ≡ Some e → are_legal start (take k events ++ e ∷ []) ≡ true
legal-between core start events k e h g = legal-then start events k e h.legal g
