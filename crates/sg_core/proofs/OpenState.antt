-- The state that a core begins at, over the stores that were opened.
use Rattle.std.proofs.Common.{◌≡◌, ◌≢◌, ℕ, zero, suc, ◌+◌, ◌<◌, List, [], ◌∷◌, ◌++◌, length, map, slice_get, Some, None, Option, refl, sym, ap, ◌∙◌, arith, subst, true, false, Bool, if◌then◌else◌}
use Rattle.std.specs.Prelude.{◌==◌, count_by}
use Rattle.std.specs.Option.{option_map_or}
use Rattle.std.proofs.lemmas.List.{append-nil, append_assoc}
use Rattle.sg_list.proofs.ListLemmas.{some-same, slice_get-some, slice_get-below}
use Rattle.sg_device.specs.Disk.{DiskState, clock, IsImage}
use Rattle.sg_stable.specs.Position.{IsPosition}
use Rattle.sg_buffer.specs.Entries.{AreKept}
use Rattle.sg_buffer.specs.Heads.{head_of}
use Rattle.sg_buffer.specs.declared.found.BufferEntries.{BufferEntries}
use Rattle.sg_buffer.specs.declared.found.EntryHead.{EntryHead}
use Rattle.sg_queue.specs.declared.entry.Entry.{Entry as Waiting}
use Rattle.sg_machine.specs.declared.setup.BufferSetup.{BufferSetup}
use Rattle.sg_machine.specs.declared.setup.SourceSetup.{SourceSetup}
use Rattle.sg_machine.specs.declared.setup.DestSetup.{DestSetup}
use Rattle.sg_machine.specs.declared.setup.Setup.{Setup}
use Rattle.sg_machine.specs.declared.state.InletRecords.{InletRecords}
use Rattle.sg_machine.specs.declared.state.Dest.{Dest}
use Rattle.sg_machine.specs.Marks.{is_owed_to}
use Rattle.sg_machine.specs.Running.{owed, is_split, are_split}
use Rattle.sg_machine.specs.Runs.{BufferedEntry, Opening, opened, opened_inlet, opened_inlets, opened_dest, opened_dests, recovered}
use Rattle.sg_machine.specs.Safe.{spooled_of}
use Rattle.sg_counter.specs.Bringing.{store_in}
use Rattle.sg_sinks.specs.Laws.{is_listed_in}
use Rattle.sg_sinks.specs.Standing.{IsSplit, is_split_by, lengths_of, waiting_from, blocks_of, sink_of}
use Rattle.sg_sinks.specs.Standing.{are_split as are_parted}
use Rattle.sg_sinks.specs.States.{SinkState, fresh_sink, recovered as recovered_sink}
use Rattle.sg_stores.specs.Stores.{StoreState, HoldsEntries, HasBufferSize, coded, length_of}
use Rattle.sg_stores.specs.Positions.{position_of, stored_in}
use Rattle.sg_stores.specs.Opening.{IsOpenedPosition, IsRecovered, IsOpenedAs, AreOpened}
use Rattle.sg_stores.specs.declared.kind.StoreKind.{StoreKind}
use Rattle.sg_stores.specs.declared.kind.StoreKind.TheVariants.{Position, Buffer}
use Rattle.sg_standing.specs.States.{CoreState}
use Rattle.sg_standing.specs.Standing.{sources_from, is_broken, IsPositionAt, HoldsPosition, IsStoredPosition, ArePositionsStored, IsBacked, AreBacked, setups_of, buffer_in, AreSpellable, IsAt, StandsFor}
use Rattle.sg_core.specs.Opening.{NumberStores, buffer_store_in, AreKinds, kind_by, kind_of, recovers, lengths_in, found_at, opened_source, opened_sink}

-- Which store is of which kind.

kind-other : (b : Bool) (capacity : ℕ) (kind : StoreKind) → b ≡ false → (if b then Buffer capacity else kind) ≡ kind
kind-other true capacity kind e = absurd (let wrong : true ≡ false = e in cc)
kind-other false capacity kind e = refl

kind-past : (buffer : Option BufferSetup) (s : ℕ) (kind : StoreKind) → ((other : BufferSetup) → buffer ≡ Some other → other.store ≡ s → ⊥) → kind_by buffer s kind ≡ kind
kind-past None s kind none = refl
kind-past (Some other) s kind none = kind-other (other.store == s) other.capacity kind (let ne : other.store ≢ s = none other refl in grind (arith, ne))

pub kind-found : (dests : List DestSetup) (d : ℕ) (dest : DestSetup) (buffer : BufferSetup) → slice_get dests d ≡ Some dest → dest.buffer ≡ Some buffer
    → ((e : ℕ) → buffer_store_in dests e ≡ Some buffer.store → e ≡ d) → kind_of dests buffer.store ≡ Buffer buffer.capacity
kind-found [] d dest buffer h b one = absurd (let no : None ≡ Some dest = h in cc)
kind-found (x ∷ dests) zero dest buffer h b one =
    let same = some-same x dest h in
    let has : x.buffer ≡ Some buffer = ap (λ (s : DestSetup). s.buffer) same ∙ b in
    let q : (buffer.store == buffer.store) ≡ true = grind arith in
    rw (has, q) refl
kind-found (x ∷ dests) (suc d) dest buffer h b one =
    let rest = kind-found dests d dest buffer h b (λ e is. (let n = one (suc e) is in omega (arith, n))) in
    kind-past x.buffer buffer.store (kind_of dests buffer.store) (λ other is here. (let n = one 0 (rw (is, here) refl) in omega (arith, n))) ∙ rest

-- no destination has it
pub kind-none : (dests : List DestSetup) (s : ℕ) → ((e : ℕ) → buffer_store_in dests e ≡ Some s → ⊥) → kind_of dests s ≡ Position
kind-none [] s none = refl
kind-none (x ∷ dests) s none = kind-past x.buffer s (kind_of dests s) (λ other is here. none 0 (rw (is, here) refl)) ∙ kind-none dests s (λ e is. none (suc e) is)

-- The entries of each destination.

pub record IsBacking (disks : List DiskState) (founds : List BufferEntries) (stores : List StoreState) (buffer : BufferSetup) (list : List BufferedEntry) : Type 0 where
  pub disk : DiskState
  pub store : StoreState
  pub found : BufferEntries
  pub at_disk : slice_get disks buffer.store ≡ Some disk
  pub at_store : slice_get stores buffer.store ≡ Some store
  pub at_found : slice_get founds buffer.store ≡ Some found
  pub is : IsRecovered disk buffer.capacity found store
  pub same : is.entries ≡ list

abbrev pub IsStoreListed : List DiskState → List BufferEntries → List StoreState → Option BufferSetup → List BufferedEntry → Type 0
IsStoreListed disks founds stores None list = list ≡ []
IsStoreListed disks founds stores (Some buffer) list = IsBacking disks founds stores buffer list

abbrev pub AreListed : List DiskState → List BufferEntries → List StoreState → List DestSetup → List (List BufferedEntry) → Type 0
AreListed disks founds stores [] [] = Unit {0}
AreListed disks founds stores [] (list ∷ lists) = ⊥
AreListed disks founds stores (dest ∷ dests) [] = ⊥
AreListed disks founds stores (dest ∷ dests) (list ∷ lists) = IsStoreListed disks founds stores dest.buffer list × AreListed disks founds stores dests lists

module _ (setup : Setup) (kinds : List StoreKind) (disks : List DiskState) (founds : List BufferEntries) (stores : List StoreState) (kinds_are : AreKinds setup.dests (length disks) kinds) (o : AreOpened kinds disks founds stores) where
  as-kind : (s : ℕ) (disk : DiskState) (found : BufferEntries) (store : StoreState) (kind : StoreKind) → kind_of setup.dests s ≡ kind → slice_get disks s ≡ Some disk → slice_get founds s ≡ Some found → slice_get stores s ≡ Some store → IsOpenedAs kind disk found store
  as-kind s disk found store kind is d f h =
      let k = slice_get-some kinds s (let b = slice_get-below disks s disk d in let m = kinds_are.many in omega (arith, b, m)) in
      subst (λ (x : StoreKind). IsOpenedAs x disk found store) (kinds_are.each s k.0 k.1 ∙ is) (o.each s k.0 disk found store k.1 d f h)

  backing : (dest : DestSetup) (buffer : BufferSetup) → buffer.store < length disks → kind_of setup.dests buffer.store ≡ Buffer buffer.capacity → (list : List BufferedEntry) × IsBacking disks founds stores buffer list
  backing dest buffer low is =
      let d = slice_get-some disks buffer.store low in
      let f = slice_get-some founds buffer.store (let n = o.looked in omega (arith, n, low)) in
      let h = slice_get-some stores buffer.store (let n = o.count in omega (arith, n, low)) in
      let one = as-kind buffer.store d.0 f.0 h.0 (Buffer buffer.capacity) is d.1 f.1 h.1 in
      (one.entries, record { disk = d.0; store = h.0; found = f.0; at_disk = d.1; at_store = h.1; at_found = f.1; is = one; same = refl })

  listed-by : (dest : DestSetup) (buffer : Option BufferSetup) → dest.buffer ≡ buffer → ((b : BufferSetup) → buffer ≡ Some b → (b.store < length disks) × (kind_of setup.dests b.store ≡ Buffer b.capacity)) → (list : List BufferedEntry) × IsStoreListed disks founds stores buffer list
  listed-by dest None is at = ([], refl)
  listed-by dest (Some b) is at = let l = at b refl in backing dest b l.0 l.1

  gather : (dests : List DestSetup) → ((d : ℕ) (dest : DestSetup) (b : BufferSetup) → slice_get dests d ≡ Some dest → dest.buffer ≡ Some b → (b.store < length disks) × (kind_of setup.dests b.store ≡ Buffer b.capacity))
      → (lists : List (List BufferedEntry)) × AreListed disks founds stores dests lists
  gather [] at = ([], tt)
  gather (dest ∷ dests) at =
      let first = listed-by dest dest.buffer refl (λ b is. at 0 dest b refl is) in
      let rest = gather dests (λ d other b h is. at (suc d) other b h is) in
      (first.0 ∷ rest.0, (first.1, rest.1))

  module _ (numbers : NumberStores setup (length disks)) where
    buffer-at : (d : ℕ) (dest : DestSetup) (b : BufferSetup) → slice_get setup.dests d ≡ Some dest → dest.buffer ≡ Some b → buffer_store_in setup.dests d ≡ Some b.store
    buffer-at d dest b h is = rw (h, is) refl

    pub all-listed : (lists : List (List BufferedEntry)) × AreListed disks founds stores setup.dests lists
    all-listed = gather setup.dests (λ d dest b h is.
        let at = buffer-at d dest b h is in
        (numbers.buffers d b.store at, kind-found setup.dests d dest b h is (λ e other. numbers.dests_apart e d b.store other at)))

    -- the store of an inlet is a position store
    pub position-at : (i s : ℕ) → store_in setup.sources i ≡ Some s → (store : StoreState) → slice_get stores s ≡ Some store → (disk : DiskState) × IsOpenedPosition disk store
    position-at i s is store h =
        let low = numbers.positions i s is in
        let d = slice_get-some disks s low in
        let f = slice_get-some founds s (let n = o.looked in omega (arith, n, low)) in
        let one = as-kind s d.0 f.0 store Position (kind-none setup.dests s (λ e other. numbers.apart i e s is other)) d.1 f.1 h in
        (d.0, one.0)

-- Entries that were found.

pub lengths-found : (list : List BufferedEntry) → lengths_in (map (λ (k : BufferedEntry). head_of (coded k)) list) ≡ map length_of list
lengths-found [] = refl
lengths-found (k ∷ list) = ap (λ ns. length_of k ∷ ns) (lengths-found list)

lengths-recovered : (list : List BufferedEntry) → lengths_of (map recovered list) ≡ map length_of list
lengths-recovered [] = refl
lengths-recovered (k ∷ list) = ap (λ ns. length_of k ∷ ns) (lengths-recovered list)

waiting-recovered : (place : ℕ) (list : List BufferedEntry) → waiting_from place (map recovered list) ≡ []
waiting-recovered place [] = refl
waiting-recovered place (k ∷ list) = waiting-recovered place list

blocks-recovered : (buffer : Option BufferSetup) (list : List BufferedEntry) → blocks_of buffer (map recovered list) ≡ []
blocks-recovered buffer [] = refl
blocks-recovered buffer (k ∷ list) = blocks-recovered buffer list

-- those found in format 2 have spellings
spellable-recovered : (buffer : Option BufferSetup) (list : List BufferedEntry) → AreKept (map coded list) → AreSpellable buffer (map recovered list)
spellable-recovered buffer [] kept = tt
spellable-recovered buffer (k ∷ list) kept = ((λ block. kept.0), spellable-recovered buffer list kept.1)

spooled-recovered : (list : List BufferedEntry) → spooled_of (map recovered list) ≡ list
spooled-recovered [] = refl
spooled-recovered (k ∷ list) = ap (λ l. k ∷ l) (spooled-recovered list)

parted-recovered : (list : List BufferedEntry) → are_parted (map recovered list) ≡ true
parted-recovered [] = refl
parted-recovered (k ∷ list) = parted-recovered list

split-recovered : (list : List BufferedEntry) → is_split (map recovered list) ≡ true
split-recovered [] = refl
split-recovered (k ∷ list) = split-recovered list

owed-recovered : (i n : ℕ) (list : List BufferedEntry) → count_by (is_owed_to i n) (map recovered list) ≡ 0
owed-recovered i n [] = refl
owed-recovered i n (k ∷ list) = let rest = owed-recovered i n list in grind (arith, rest)

recovers-all : (heads : List EntryHead) (sink : SinkState) → recovers sink heads ≡ record sink { lengths = sink.lengths ++ lengths_in heads }
recovers-all [] sink = ap (λ (ns : List ℕ). record sink { lengths = ns }) (sym (append-nil sink.lengths))
recovers-all (h ∷ heads) sink = recovers-all heads (recovered_sink h.length sink) ∙ ap (λ (ns : List ℕ). record sink { lengths = ns }) (append_assoc sink.lengths (h.length ∷ []) (lengths_in heads))

-- a destination with these lengths on its disk
abbrev made : DestSetup → List ℕ → List Waiting → List (Option (List ℕ)) → SinkState
made setup lengths entries blocks = record { setup = setup; taken = 0; lengths = lengths; entries = entries; blocks = blocks; broken = false; dropped_full = 0; dropped_disk = 0 }

sink-of : (setup : DestSetup) (list : List BufferedEntry) → made setup (map length_of list) [] [] ≡ sink_of false (opened_dest setup list)
sink-of setup list =
    ap (λ ns. made setup ns [] []) (sym (lengths-recovered list))
    ∙ ap (λ ws. made setup (lengths_of (map recovered list)) ws []) (sym (waiting-recovered (0 + length (lengths_of (map recovered list))) list))
    ∙ ap (λ bs. made setup (lengths_of (map recovered list)) (waiting_from (0 + length (lengths_of (map recovered list))) (map recovered list)) bs) (sym (blocks-recovered setup.buffer list))

none-broken : (buffer : Option BufferSetup) → is_listed_in buffer [] ≡ false
none-broken None = refl
none-broken (Some b) = refl

found-lengths : (disks : List DiskState) (founds : List BufferEntries) (stores : List StoreState) (buffer : Option BufferSetup) (list : List BufferedEntry) → IsStoreListed disks founds stores buffer list → lengths_in (found_at founds buffer) ≡ map length_of list
found-lengths disks founds stores None list listed = ap (map length_of) (sym listed)
found-lengths disks founds stores (Some b) list listed =
    ap (λ o. lengths_in (option_map_or (λ (found : BufferEntries). found.heads.items) o [])) listed.at_found
    ∙ ap lengths_in (listed.is.heads ∙ ap (map (λ (k : BufferedEntry). head_of (coded k))) listed.same) ∙ lengths-found list

sink-opened : (disks : List DiskState) (founds : List BufferEntries) (stores : List StoreState) (setup : DestSetup) (list : List BufferedEntry) → IsStoreListed disks founds stores setup.buffer list → opened_sink founds setup ≡ sink_of (is_broken [] (opened_dest setup list)) (opened_dest setup list)
sink-opened disks founds stores setup list listed =
    recovers-all (found_at founds setup.buffer) (fresh_sink setup)
    ∙ ap (λ ns. made setup ns [] []) (found-lengths disks founds stores setup.buffer list listed) ∙ sink-of setup list
    ∙ ap (λ b. sink_of b (opened_dest setup list)) (sym (none-broken setup.buffer))

sinks-opened : (disks : List DiskState) (founds : List BufferEntries) (stores : List StoreState) (dests : List DestSetup) (lists : List (List BufferedEntry)) → AreListed disks founds stores dests lists
    → map (opened_sink founds) dests ≡ map (λ (dest : Dest). sink_of (is_broken [] dest) dest) (opened_dests dests lists)
sinks-opened disks founds stores [] [] are = refl
sinks-opened disks founds stores [] (list ∷ lists) are = absurd are
sinks-opened disks founds stores (dest ∷ dests) [] are = absurd are
sinks-opened disks founds stores (dest ∷ dests) (list ∷ lists) are =
    ap (λ (s : SinkState). s ∷ map (opened_sink founds) dests) (sink-opened disks founds stores dest list are.0)
    ∙ ap (λ (l : List SinkState). sink_of (is_broken [] (opened_dest dest list)) (opened_dest dest list) ∷ l) (sinks-opened disks founds stores dests lists are.1)

pub listed-length : (disks : List DiskState) (founds : List BufferEntries) (stores : List StoreState) (dests : List DestSetup) (lists : List (List BufferedEntry)) → AreListed disks founds stores dests lists → length lists ≡ length dests
listed-length disks founds stores [] [] are = refl
listed-length disks founds stores [] (list ∷ lists) are = absurd are
listed-length disks founds stores (dest ∷ dests) [] are = absurd are
listed-length disks founds stores (dest ∷ dests) (list ∷ lists) are = ap suc (listed-length disks founds stores dests lists are.1)

pub listed-at : (disks : List DiskState) (founds : List BufferEntries) (stores : List StoreState) (dests : List DestSetup) (lists : List (List BufferedEntry)) (d : ℕ) (dest : DestSetup) (list : List BufferedEntry) → AreListed disks founds stores dests lists
    → slice_get dests d ≡ Some dest → slice_get lists d ≡ Some list → IsStoreListed disks founds stores dest.buffer list
listed-at disks founds stores [] lists d dest list are h l = absurd (let no : None ≡ Some dest = h in cc)
listed-at disks founds stores (x ∷ dests) [] d dest list are h l = absurd are
listed-at disks founds stores (x ∷ dests) (y ∷ lists) zero dest list are h l =
    subst (λ (s : DestSetup). IsStoreListed disks founds stores s.buffer list) (some-same x dest h) (subst (IsStoreListed disks founds stores x.buffer) (some-same y list l) are.0)
listed-at disks founds stores (x ∷ dests) (y ∷ lists) (suc d) dest list are h l = listed-at disks founds stores dests lists d dest list are.1 h l

-- a destination at the beginning
record IsDestAt (disks : List DiskState) (founds : List BufferEntries) (stores : List StoreState) (dest : Dest) : Type 0 where
  setup : DestSetup
  list : List BufferedEntry
  same : dest ≡ opened_dest setup list
  listed : IsStoreListed disks founds stores setup.buffer list

dest-at : (disks : List DiskState) (founds : List BufferEntries) (stores : List StoreState) (dests : List DestSetup) (lists : List (List BufferedEntry)) (d : ℕ) (dest : Dest) → AreListed disks founds stores dests lists
    → slice_get (opened_dests dests lists) d ≡ Some dest → IsDestAt disks founds stores dest
dest-at disks founds stores [] lists d dest are h = absurd (let no : None ≡ Some dest = h in cc)
dest-at disks founds stores (x ∷ dests) [] d dest are h = absurd are
dest-at disks founds stores (x ∷ dests) (y ∷ lists) zero dest are h = record { setup = x; list = y; same = sym (some-same (opened_dest x y) dest h); listed = are.0 }
dest-at disks founds stores (x ∷ dests) (y ∷ lists) (suc d) dest are h = dest-at disks founds stores dests lists d dest are.1 h

owed-opened : (dests : List DestSetup) (lists : List (List BufferedEntry)) (i n : ℕ) → owed (opened_dests dests lists) i n ≡ 0
owed-opened [] lists i n = refl
owed-opened (x ∷ dests) [] i n = let rest = owed-opened dests [] i n in omega (arith, rest)
owed-opened (x ∷ dests) (y ∷ lists) i n = let rest = owed-opened dests lists i n in let first = owed-recovered i n y in omega (arith, rest, first)

split-opened : (dests : List DestSetup) (lists : List (List BufferedEntry)) → are_split (opened_dests dests lists) ≡ true
split-opened [] lists = refl
split-opened (x ∷ dests) [] = split-opened dests []
split-opened (x ∷ dests) (y ∷ lists) = let rest = split-opened dests lists in let first = split-recovered y in rw first rest

buffers-opened : (dests : List DestSetup) (lists : List (List BufferedEntry)) (d : ℕ) → buffer_in (opened_dests dests lists) d ≡ buffer_store_in dests d
buffers-opened [] lists d = refl
buffers-opened (x ∷ dests) [] zero = refl
buffers-opened (x ∷ dests) [] (suc d) = buffers-opened dests [] d
buffers-opened (x ∷ dests) (y ∷ lists) zero = refl
buffers-opened (x ∷ dests) (y ∷ lists) (suc d) = buffers-opened dests lists d

split-by : (disks : List DiskState) (founds : List BufferEntries) (stores : List StoreState) (buffer : Option BufferSetup) (list : List BufferedEntry) → IsStoreListed disks founds stores buffer list → is_split_by buffer (map recovered list) ≡ true
split-by disks founds stores None list listed = rw listed refl
split-by disks founds stores (Some b) list listed = parted-recovered list

spellable-by : (disks : List DiskState) (founds : List BufferEntries) (stores : List StoreState) (buffer : Option BufferSetup) (list : List BufferedEntry) → IsStoreListed disks founds stores buffer list → AreSpellable buffer (map recovered list)
spellable-by disks founds stores None list listed = rw listed tt
spellable-by disks founds stores (Some b) list listed =
    spellable-recovered (Some b) list (subst (λ (l : List BufferedEntry). AreKept (map coded l)) (append-nil listed.is.entries ∙ listed.same) listed.is.holds.kept)

-- Sources.

-- the places of the sources
abbrev pub places : List StoreState → List SourceSetup → List ℕ
places stores ss = map (λ (s : SourceSetup). stored_in stores s.store) ss

sources-opened : (stores : List StoreState) (ds : List Dest) (j : ℕ) (ss : List SourceSetup) → map (opened_source stores) ss ≡ sources_from ds j (opened_inlets ss (places stores ss))
sources-opened stores ds j [] = refl
sources-opened stores ds j (s ∷ ss) = ap (λ xs. opened_source stores s ∷ xs) (sources-opened stores ds (j + 1) ss)

setups-opened : (ss : List SourceSetup) (ps : List ℕ) → setups_of (opened_inlets ss ps) ≡ ss
setups-opened [] ps = refl
setups-opened (s ∷ ss) [] = ap (λ xs. s ∷ xs) (setups-opened ss [])
setups-opened (s ∷ ss) (p ∷ ps) = ap (λ xs. s ∷ xs) (setups-opened ss ps)

-- an inlet that was opened over these stores
record IsNew (stores : List StoreState) (ss : List SourceSetup) (i : ℕ) (inlet : InletRecords) : Type 0 where
  unmoved : inlet.stored ≡ inlet.opening
  stored : inlet.stored ≡ stored_in stores inlet.setup.store
  there : store_in ss i ≡ inlet.setup.store

new-at : (stores : List StoreState) (ss : List SourceSetup) (i : ℕ) (inlet : InletRecords) → slice_get (opened_inlets ss (places stores ss)) i ≡ Some inlet → IsNew stores ss i inlet
new-at stores [] i inlet h = absurd (let wrong : None ≡ Some inlet = h in cc)
new-at stores (s ∷ ss) zero inlet h =
    let same = some-same (opened_inlet s (stored_in stores s.store)) inlet h in
    subst (λ (x : InletRecords). IsNew stores (s ∷ ss) 0 x) same (record { unmoved = refl; stored = refl; there = refl })
new-at stores (s ∷ ss) (suc i) inlet h = let n = new-at stores ss i inlet h in record { unmoved = n.unmoved; stored = n.stored; there = n.there }

-- each image of an opened store has its position
image-opened : (disk : DiskState) (store : StoreState) (bytes : List ℕ) → IsOpenedPosition disk store → IsImage store.disk bytes → IsPosition store.position bytes
image-opened disk store bytes o im =
    let back = o.preserves.told.back bytes (o.durable bytes im) in
    subst (λ (b : List ℕ). IsPosition store.position b) (sym back.2) (o.position back.0 back.1)

placed : (disk : DiskState) (store : StoreState) (place : ℕ) → IsOpenedPosition disk store → store.position ≡ place → IsPositionAt store place false
placed disk store place o at = record {
  kind = o.buffer;
  position_is = at;
  failed_is = o.works;
  works = λ w bytes im. subst (λ (p : ℕ). IsPosition p bytes) at (image-opened disk store bytes o im);
}

module _ (setup : Setup) (kinds : List StoreKind) (disks : List DiskState) (founds : List BufferEntries) (stores : List StoreState) (kinds_are : AreKinds setup.dests (length disks) kinds) (o : AreOpened kinds disks founds stores) (numbers : NumberStores setup (length disks))
    (lists : List (List BufferedEntry)) (listed : AreListed disks founds stores setup.dests lists) where
  -- the opening that the core begins with
  abbrev pub opening : Opening
  opening = record { places = places stores setup.sources; entries = lists }

  abbrev pub begun : CoreState
  begun = record { sources = map (opened_source stores) setup.sources; sinks = map (opened_sink founds) setup.dests; stores = stores; calls = 0 }

  stored-at : (i : ℕ) (o : Option ℕ) (place : ℕ) → store_in setup.sources i ≡ o → place ≡ stored_in stores o → IsStoredPosition stores [] o place
  stored-at i None place is e = e
  stored-at i (Some s) place is e =
      let h = slice_get-some stores s (let a = numbers.positions i s is in let n = (o).count in omega (arith, a, n)) in
      let one = position-at setup kinds disks founds stores kinds_are (o) numbers i s is h.0 h.1 in
      subst (λ r. HoldsPosition r place false) (sym h.1) (placed one.0 h.0 place one.1 (sym (e ∙ ap position_of h.1)))

  backed-by : (dest : DestSetup) (list : List BufferedEntry) (buffer : BufferSetup) → IsStoreListed disks founds stores (Some buffer) list → IsBacked stores [] buffer (opened_dest dest list)
  backed-by dest list buffer b = record {
    store = b.store;
    there = b.at_store;
    is = record {
      failed_is = b.is.works;
      sized = λ w. subst (λ (ns : List ℕ). HasBufferSize buffer.capacity ns (b.store).buffer) (ap (map length_of) b.same ∙ sym (lengths-recovered list)) b.is.sized;
      works = λ w. subst (λ (l : List BufferedEntry). HoldsEntries b.store l []) (b.same ∙ sym (spooled-recovered list)) b.is.holds;
    };
  }

  all-backed : AreBacked stores [] (opened_dests setup.dests lists)
  all-backed d dest buffer h b =
      let at = dest-at disks founds stores setup.dests lists d dest listed h in
      let has : at.setup.buffer ≡ Some buffer = ap (λ (x : Dest). x.setup.buffer) (sym at.same) ∙ b in
      subst (IsBacked stores [] buffer) (sym at.same) (backed-by at.setup at.list buffer (subst (λ r. IsStoreListed disks founds stores r at.list) has at.listed))

  all-stored : ArePositionsStored stores [] (opened_inlets setup.sources (places stores setup.sources))
  all-stored i inlet h = let n = new-at stores setup.sources i inlet h in stored-at i inlet.setup.store inlet.stored n.there n.stored

  pub at-beginning : IsAt begun (opened setup opening)
  at-beginning = record {
    sound = record {
      replayed = record { admitted = λ i n l. owed-opened setup.dests lists i n; split = split-opened setup.dests lists };
      split = λ d dest h.
          let at = dest-at disks founds stores setup.dests lists d dest listed h in
          subst IsSplit (sym at.same) (split-by disks founds stores at.setup.buffer at.list at.listed);
      spellable = λ d dest h.
          let at = dest-at disks founds stores setup.dests lists d dest listed h in
          subst (λ (x : Dest). AreSpellable x.setup.buffer x.left) (sym at.same) (spellable-by disks founds stores at.setup.buffer at.list at.listed);
      unmoved = λ i inlet h none. (new-at stores setup.sources i inlet h).unmoved;
      apart = record {
        inlets = subst (λ ss. (i j s : ℕ) → store_in ss i ≡ Some s → store_in ss j ≡ Some s → i ≡ j) (sym (setups-opened setup.sources (places stores setup.sources))) numbers.inlets_apart;
        dests = λ d e s x y. numbers.dests_apart d e s (sym (buffers-opened setup.dests lists d) ∙ x) (sym (buffers-opened setup.dests lists e) ∙ y);
        both = λ i d s x y. numbers.apart i d s (ap (λ ss. store_in ss i) (sym (setups-opened setup.sources (places stores setup.sources))) ∙ x) (sym (buffers-opened setup.dests lists d) ∙ y);
      };
    };
    sources = sources-opened stores (opened_dests setup.dests lists) 0 setup.sources;
    sinks = sinks-opened disks founds stores setup.dests lists listed;
    stores = all-stored;
    buffers = all-backed;
  }

  none-failed-position : (i : ℕ) (inlet : InletRecords) (s : ℕ) (store : StoreState) → slice_get (opened_inlets setup.sources (places stores setup.sources)) i ≡ Some inlet → inlet.setup.store ≡ Some s → slice_get stores s ≡ Some store → store.failed ≡ false
  none-failed-position i inlet s store h has get =
      let is = subst (λ r. IsStoredPosition stores [] r inlet.stored) has (all-stored i inlet h) in
      let placed0 = subst (λ r. HoldsPosition r inlet.stored false) get is in
      placed0.failed_is

  none-failed-list : (d : ℕ) (dest : Dest) (buffer : BufferSetup) (store : StoreState) → slice_get (opened_dests setup.dests lists) d ≡ Some dest → dest.setup.buffer ≡ Some buffer → slice_get stores buffer.store ≡ Some store → store.failed ≡ false
  none-failed-list d dest buffer store h b get =
      let back = all-backed d dest buffer h b in
      ap (λ (x : StoreState). x.failed) (some-same store back.store (sym get ∙ back.there)) ∙ back.is.failed_is

  pub stands-beginning : StandsFor begun (opened setup opening) []
  stands-beginning = record {
    legal = refl;
    at = at-beginning;
    positions = λ i inlet s store h has get failed. absurd (let e = none-failed-position i inlet s store h has get in let no : false ≡ true = sym e ∙ failed in cc);
    lists = λ d dest buffer store h b get failed. absurd (let e = none-failed-list d dest buffer store h b get in let no : false ≡ true = sym e ∙ failed in cc);
    moments = record {
      rows = λ k s. option_map_or (λ (store : StoreState). clock store.disk) (slice_get stores s) 0;
      ascend = λ k s store h low. absurd (omega (arith, low));
      last = λ s store h. ap (λ r. option_map_or (λ (x : StoreState). clock x.disk) r 0) h;
      positions = λ k event h. absurd (let no : None ≡ Some event = h in cc);
      lists = λ k event h. absurd (let no : None ≡ Some event = h in cc);
    };
  }
