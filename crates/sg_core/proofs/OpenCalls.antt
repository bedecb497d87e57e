-- The opening of a core.
use Rattle.std.proofs.Common.{◌≡◌, ℕ, zero, suc, ◌+◌, ◌<◌, ◌≤◌, List, [], ◌∷◌, length, map, slice_get, Some, None, Option, refl, sym, ap, ◌∙◌, arith, subst}
use Rattle.std.proofs.lemmas.List.{length-map}
use Rattle.sg_list.proofs.ListLemmas.{some-same, slice_get-some, slice_get-below}
use Rattle.sg_device.specs.Disk.{DiskState, content, WhereTold}
use Rattle.sg_device.proofs.DiskCalls.{tells_same}
use Rattle.sg_buffer.specs.Entries.{IsListOf}
use Rattle.sg_buffer.specs.declared.found.BufferEntries.{BufferEntries}
use Rattle.sg_buffer.specs.declared.found.EntryHead.{EntryHead}
use Rattle.sg_machine.specs.declared.setup.BufferSetup.{BufferSetup}
use Rattle.sg_machine.specs.declared.setup.SourceSetup.{SourceSetup}
use Rattle.sg_machine.specs.declared.setup.DestSetup.{DestSetup}
use Rattle.sg_machine.specs.declared.setup.Setup.{Setup}
use Rattle.sg_machine.specs.Runs.{BufferedEntry}
use Rattle.sg_counter.specs.Bringing.{store_in}
use Rattle.sg_sinks.specs.Fitting.{space}
use Rattle.sg_sinks.specs.States.{SinkState, fresh_sink, recovered as recovered_sink}
use Rattle.sg_stores.specs.Stores.{StoreState, coded, length_of}
use Rattle.sg_stores.specs.Positions.{IsStoreThere}
use Rattle.sg_stores.specs.Opening.{IsOpenedAs, AreOpened, KeepsImages, AreStoresRefused}
use Rattle.sg_stores.specs.declared.answers.CoreRefusal.TheVariants.{NoMemory}
use Rattle.sg_stores.specs.declared.kind.StoreKind.{StoreKind}
use Rattle.sg_stores.specs.declared.kind.StoreKind.TheVariants.{Position, Buffer}
use Rattle.sg_stores.proofs.GetLemmas.{get-map}
use Rattle.sg_stores.proofs.LookLemmas.{keeps}
use Rattle.sg_stores.proofs.OpenLemmas.{refused-memory}
use Rattle.sg_standing.specs.Sources.{begun_in}
use Rattle.sg_standing.specs.declared.source.Source.{Source}
use Rattle.sg_core.specs.Whole.{IsWholeCore}
use Rattle.sg_offers.specs.Payloads.{buffers_of, buffer_at, AreSmall}
use Rattle.sg_core.specs.Opening.{NumberStores, HaveCapacities, AreKinds, kind_of, opened_source, opened_sink, recovers, lengths_in, found_at, CanRecover, AreRecoverable, AreThere, IsOpen, IsUnopened}
use Rattle.sg_core.proofs.OpenState.{IsStoreListed, AreListed, all-listed, listed-length, listed-at, lengths-found, places, at-beginning, stands-beginning}

-- The kinds of so many stores, whether there is memory for their list or not.

kinds-from : List DestSetup → ℕ → ℕ → List StoreKind
kinds-from dests s zero = []
kinds-from dests s (suc n) = kind_of dests s ∷ kinds-from dests (s + 1) n

kinds-length : (dests : List DestSetup) (s n : ℕ) → length (kinds-from dests s n) ≡ n
unfolding kinds-from
kinds-length dests s zero = refl
kinds-length dests s (suc n) = ap suc (kinds-length dests (s + 1) n)

kinds-get : (dests : List DestSetup) (s n k : ℕ) (kind : StoreKind) → slice_get (kinds-from dests s n) k ≡ Some kind → kind ≡ kind_of dests (s + k)
unfolding kinds-from
kinds-get dests s zero k kind h = absurd (let no : None ≡ Some kind = h in cc)
kinds-get dests s (suc n) zero kind h = let e : s ≡ s + 0 = omega arith in sym (some-same (kind_of dests s) kind h) ∙ ap (kind_of dests) e
kinds-get dests s (suc n) (suc k) kind h = let e : (s + 1) + k ≡ s + suc k = omega arith in kinds-get dests (s + 1) n k kind h ∙ ap (kind_of dests) e

some-kinds : (dests : List DestSetup) (n : ℕ) → AreKinds dests n (kinds-from dests 0 n)
some-kinds dests n = record {
  many = kinds-length dests 0 n;
  each = λ s kind h. let e : 0 + s ≡ s = omega arith in kinds-get dests 0 n s kind h ∙ ap (kind_of dests) e;
}

-- no memory was left for that list
pub unopened-memory : (setup : Setup) (disks : List DiskState) → IsUnopened setup disks disks NoMemory
unopened-memory setup disks = record {
  kinds = kinds-from setup.dests 0 (length disks);
  kinds_are = some-kinds setup.dests (length disks);
  refused = refused-memory (kinds-from setup.dests 0 (length disks)) disks;
}

opened-keeps : (kind : StoreKind) (disk : DiskState) (found : BufferEntries) (store : StoreState) → IsOpenedAs kind disk found store → KeepsImages kind disk store.disk × (disk.faults ≤ store.disk.faults)
opened-keeps Position disk found store is = (tells_same disk store.disk (is.0).preserves, (let well = (is.0).well in omega (arith, well)))
opened-keeps (Buffer capacity) disk found store is = (keeps disk is.synced store.disk _ is.preserves is.within is.told, (let well = is.well in omega (arith, well)))

there-one : (stores : List StoreState) (o : Option ℕ) → ((s : ℕ) → o ≡ Some s → s < length stores) → IsStoreThere stores o
there-one stores None inside = tt
there-one stores (Some s) inside = inside s refl

recoverable-one : (disks : List DiskState) (founds : List BufferEntries) (stores : List StoreState) (buffer : Option BufferSetup) (list : List BufferedEntry) → IsStoreListed disks founds stores buffer list → CanRecover founds buffer
recoverable-one disks founds stores None list listed = tt
recoverable-one disks founds stores (Some b) list listed = (
  slice_get-below founds b.store listed.found listed.at_found,
  (λ found f.
      let same : lengths_in found.heads.items ≡ map length_of listed.is.entries = ap (λ (x : BufferEntries). lengths_in x.heads.items) (some-same found listed.found (sym f ∙ listed.at_found)) ∙ ap lengths_in listed.is.heads ∙ lengths-found listed.is.entries in
      let sum : space (lengths_in found.heads.items) ≡ space (map length_of listed.is.entries) = ap space same in
      let small = listed.is.small in
      omega (arith, sum, small)),
)

list-told : (disks : List DiskState) (founds : List BufferEntries) (stores : List StoreState) (buffer : BufferSetup) (disk : DiskState) (list : List BufferedEntry) → slice_get disks buffer.store ≡ Some disk → IsStoreListed disks founds stores (Some buffer) list → WhereTold (content disk) (IsListOf (map coded list))
list-told disks founds stores buffer disk list at b =
    subst (λ (x : DiskState). WhereTold (content x) (IsListOf (map coded list))) (some-same b.disk disk (sym b.at_disk ∙ at)) (subst (λ (l : List BufferedEntry). WhereTold (content b.disk) (IsListOf (map coded l))) b.same b.is.told)

setups-sources : (stores : List StoreState) (ss : List SourceSetup) → map (λ (x : Source). x.setup) (map (opened_source stores) ss) ≡ ss
setups-sources stores [] = refl
setups-sources stores (s ∷ ss) = ap (λ xs. s ∷ xs) (setups-sources stores ss)

setup-kept : (sink : SinkState) (heads : List EntryHead) → (recovers sink heads).setup ≡ sink.setup
setup-kept sink [] = refl
setup-kept sink (h ∷ heads) = setup-kept (recovered_sink h.length sink) heads

setups-sinks : (founds : List BufferEntries) (ds : List DestSetup) → map (λ (k : SinkState). k.setup) (map (opened_sink founds) ds) ≡ ds
setups-sinks founds [] = refl
setups-sinks founds (d ∷ ds) = ap (λ x. x ∷ map (λ (k : SinkState). k.setup) (map (opened_sink founds) ds)) (setup-kept (fresh_sink d) (found_at founds d.buffer)) ∙ ap (λ ks. d ∷ ks) (setups-sinks founds ds)

-- the disk-buffer of a destination is that of its setup
small-at : (founds : List BufferEntries) (ds : List DestSetup) (d : ℕ) (buffer : BufferSetup) → buffer_at (buffers_of (map (opened_sink founds) ds)) d ≡ Some buffer → (setup : DestSetup) × (slice_get ds d ≡ Some setup) × (setup.buffer ≡ Some buffer)
small-at founds [] d buffer h = absurd (let no : None ≡ Some buffer = h in cc)
small-at founds (x ∷ ds) zero buffer h = (x, refl, ap (λ (s : DestSetup). s.buffer) (sym (setup-kept (fresh_sink x) (found_at founds x.buffer))) ∙ h)
small-at founds (x ∷ ds) (suc d) buffer h = small-at founds ds d buffer h

unbegun-opened : (stores : List StoreState) (ss : List SourceSetup) (i : ℕ) → begun_in (map (opened_source stores) ss) i ≡ 0
unbegun-opened stores [] i = refl
unbegun-opened stores (s ∷ ss) zero = refl
unbegun-opened stores (s ∷ ss) (suc i) = unbegun-opened stores ss i

module _ (setup : Setup) (kinds : List StoreKind) (disks : List DiskState) (founds : List BufferEntries) (stores : List StoreState) (kinds_are : AreKinds setup.dests (length disks) kinds) (o : AreOpened kinds disks founds stores) where
  kept-at : (s : ℕ) (kind : StoreKind) (old new : DiskState) → slice_get kinds s ≡ Some kind → slice_get disks s ≡ Some old → slice_get (map (λ (x : StoreState). x.disk) stores) s ≡ Some new → KeepsImages kind old new × (old.faults ≤ new.faults)
  kept-at s kind old new k d n =
      let h = get-map (λ (x : StoreState). x.disk) stores s new n in
      let f = slice_get-some founds s (let b = slice_get-below disks s old d in let m = o.looked in omega (arith, b, m)) in
      subst (λ (x : DiskState). KeepsImages kind old x × (old.faults ≤ x.faults)) (sym h.2) (opened-keeps kind old f.0 h.0 (o.each s kind old f.0 h.0 k d f.1 h.1))

  -- no memory was left for the sources or the destinations: the stores are given back
  pub unopened-back : (news : List DiskState) → news ≡ map (λ (x : StoreState). x.disk) stores → IsUnopened setup disks news NoMemory
  unopened-back news back = record {
    kinds = kinds;
    kinds_are = kinds_are;
    refused = subst (λ (ds : List DiskState). AreStoresRefused kinds disks ds NoMemory) (sym back) (record {
      preserved = record {
        count = length-map stores (λ (x : StoreState). x.disk) ∙ o.count;
        keeps = λ s kind old new k d n. (kept-at s kind old new k d n).0;
        later = λ s old new d n.
            let k = slice_get-some kinds s (let b = slice_get-below disks s old d in let m = kinds_are.many in omega (arith, b, m)) in
            (kept-at s k.0 old new k.1 d n).1;
      };
      reason = tt;
    });
  }

  module _ (numbers : NumberStores setup (length disks)) where
    -- what the parts of a core require

    there-at : (ss : List SourceSetup) → ((i s : ℕ) → store_in ss i ≡ Some s → s < length stores) → AreThere stores ss
    there-at [] inside = tt
    there-at (x ∷ ss) inside = (there-one stores x.store (λ s e. inside 0 s e), there-at ss (λ i s e. inside (suc i) s e))

    pub all-there : AreThere stores setup.sources
    all-there = there-at setup.sources (λ i s e. (let low = numbers.positions i s e in let n = o.count in omega (arith, low, n)))

    recoverable-from : (dests : List DestSetup) (lists : List (List BufferedEntry)) → AreListed disks founds stores dests lists → AreRecoverable founds dests
    recoverable-from [] lists are = tt
    recoverable-from (x ∷ dests) [] are = absurd are
    recoverable-from (x ∷ dests) (y ∷ lists) are = (recoverable-one disks founds stores x.buffer y are.0, recoverable-from dests lists are.1)

    pub all-recoverable : AreRecoverable founds setup.dests
    all-recoverable = let all = all-listed setup kinds disks founds stores kinds_are o numbers in recoverable-from setup.dests all.0 all.1

    small-opened : HaveCapacities setup.dests → AreSmall (buffers_of (map (opened_sink founds) setup.dests))
    small-opened capacities d buffer h =
        let at = small-at founds setup.dests d buffer h in
        capacities d at.0 buffer at.1 at.2

    pub whole-opened : HaveCapacities setup.dests → IsWholeCore (record { sources = map (opened_source stores) setup.sources; sinks = map (opened_sink founds) setup.dests; stores = stores; calls = 0 })
    whole-opened capacities =
        let all = all-listed setup kinds disks founds stores kinds_are o numbers in
        record { state = _; at = at-beginning setup kinds disks founds stores kinds_are o numbers all.0 all.1; small = small-opened capacities }

    pub open-opened : IsOpen setup disks (record { sources = map (opened_source stores) setup.sources; sinks = map (opened_sink founds) setup.dests; stores = stores; calls = 0 })
    open-opened =
        let all = all-listed setup kinds disks founds stores kinds_are o numbers in
        record {
          kinds = kinds;
          kinds_are = kinds_are;
          founds = founds;
          stores = o;
          sources = refl;
          sinks = refl;
          opening = record { places = places stores setup.sources; entries = all.0 };
          places = refl;
          every_list = listed-length disks founds stores setup.dests all.0 all.1;
          lists = λ d dest buffer disk list h b at l.
              list-told disks founds stores buffer disk list at (subst (λ r. IsStoreListed disks founds stores r list) b (listed-at disks founds stores setup.dests all.0 d dest list all.1 h l));
          stands = stands-beginning setup kinds disks founds stores kinds_are o numbers all.0 all.1;
          unbegun = unbegun-opened stores setup.sources;
          calls = refl;
          setups = ap (λ xs. record { sources = xs; dests = map (λ (k : SinkState). k.setup) (map (opened_sink founds) setup.dests) }) (setups-sources stores setup.sources) ∙ ap (λ ks. record { sources = setup.sources; dests = ks }) (setups-sinks founds setup.dests);
        }
