-- What a core is opened with stood in images of the stores handed in.
use Rattle.std.proofs.Common.{◌≡◌, ℕ, List, [], ◌∷◌, length, map, Some, None, Option, true, false, refl, sym, ap, ◌∙◌, subst, arith, slice_get}
use Rattle.std.specs.Prelude.{is_some, option_and_then}
use Rattle.std.specs.Option.{option_map_or}
use Rattle.std.proofs.lemmas.List.{length-map}
use Rattle.sg_list.proofs.ListLemmas.{slice_get-some, slice_get-map}
use Rattle.sg_device.specs.Disk.{DiskState, content}
use Rattle.sg_device.proofs.DiskCalls.{reads_as_image}
use Rattle.sg_stable.specs.Cell.{cell_value}
use Rattle.sg_buffer.specs.Entries.{IsListOf}
use Rattle.sg_buffer.specs.declared.found.BufferEntries.{BufferEntries}
use Rattle.sg_machine.specs.declared.setup.BufferSetup.{BufferSetup}
use Rattle.sg_machine.specs.declared.setup.Setup.{Setup}
use Rattle.sg_machine.specs.declared.setup.SourceSetup.{SourceSetup}
use Rattle.sg_machine.specs.Runs.{BufferedEntry, recovered, opened_dest}
use Rattle.sg_counter.specs.Bringing.{store_in}
use Rattle.sg_sinks.specs.Standing.{are_waiting, is_split_by}
use Rattle.sg_stores.specs.Opening.{IsOpenedPosition, IsOpenedAs}
use Rattle.sg_stores.specs.Positions.{stored_in}
use Rattle.sg_stores.specs.Stores.{StoreState, coded}
use Rattle.sg_stores.specs.declared.kind.StoreKind.{StoreKind}
use Rattle.sg_stores.specs.declared.kind.StoreKind.TheVariants.{Position, Buffer}
use Rattle.sg_standing.specs.Images.{position_in}
use Rattle.sg_core.specs.Opening.{IsOpen, NumberStores}
use Rattle.sg_core.proofs.OpenState.{kind-none}
use Rattle.sg_standing.specs.States.{CoreState}
use Rattle.sg_laws.specs.Passes.{BeginsWithImages}
use Rattle.sg_laws.proofs.BeginLemmas.{opens-dest}
use Rattle.sg_laws.proofs.PreludeLemmas.{get-back}
use Rattle.sg_laws.specs.Happened.{AreImagesOf, positions_by, AreListsBy, AllTell}

-- what these disks hold
abbrev pub bytes_of : DiskState → List ℕ
bytes_of disk = option_map_or (λ (bytes : List ℕ). bytes) (content disk) []

abbrev pub contents : List DiskState → List (List ℕ)
contents disks = map bytes_of disks

pub told-bytes : (disk : DiskState) (bytes : List ℕ) → content disk ≡ Some bytes → bytes_of disk ≡ bytes
told-bytes disk bytes h = ap (λ (o : Option (List ℕ)). option_map_or (λ (b : List ℕ). b) o []) h

pub contents-images : (disks : List DiskState) → AllTell disks → AreImagesOf disks (contents disks)
contents-images disks tell s disk h =
    let t = tell s disk h in
    (t.0, (slice_get-map bytes_of disks s disk h ∙ ap (λ (b : List ℕ). Some b) (told-bytes disk t.0 t.1), reads_as_image disk t.0 t.1))

pub contents-lists : (setup : Setup) (disks : List DiskState) (core : CoreState) (o : IsOpen setup disks core) → AllTell disks → AreListsBy setup.dests (contents disks) (o.opening).entries
contents-lists setup disks core o tell = record {
  every = o.every_list;
  each = λ d dest buffer list bytes h q g at.
      (let b = get-back bytes_of disks buffer.store bytes at in
      let t = tell buffer.store b.0 b.1.0 in
      let same : t.0 ≡ bytes = sym (told-bytes b.0 t.0 t.1) ∙ b.1.1 in
      let P : List ℕ → Type 0 = λ xs. IsListOf (map coded list) xs in
      subst P same (o.lists d dest buffer b.0 list h q b.1.0 g t.0 t.1));
}

-- The kinds of stores.

as-position : (kind : StoreKind) (disk : DiskState) (found : BufferEntries) (store : StoreState) → kind ≡ Position → IsOpenedAs kind disk found store → IsOpenedPosition disk store
as-position Position disk found store h o = o.0
as-position (Buffer capacity) disk found store h o = absurd (let wrong : Buffer capacity ≡ Position = h in cc)

-- Positions.

-- the position in a source's store, as it was opened
stored-is : (setup : Setup) (disks : List DiskState) (core : CoreState) (i s : ℕ) → IsOpen setup disks core → NumberStores setup (length disks) → AllTell disks → store_in setup.sources i ≡ Some s
    → stored_in core.stores (Some s) ≡ position_in (contents disks) (Some s)
stored-is setup disks core i s o numbers tell at =
    let below = numbers.positions i s at in
    let many = o.kinds_are.many in
    let looked = o.stores.looked in
    let count = o.stores.count in
    let disk = slice_get-some disks s below in
    let kind = slice_get-some o.kinds s (omega (arith, many, below)) in
    let found = slice_get-some o.founds s (omega (arith, looked, below)) in
    let store = slice_get-some core.stores s (omega (arith, count, below)) in
    let is : kind.0 ≡ Position = o.kinds_are.each s kind.0 kind.1 ∙ kind-none setup.dests s (λ d q. numbers.apart i d s at q) in
    let opened = as-position kind.0 disk.0 found.0 store.0 is (o.stores.each s kind.0 disk.0 found.0 store.0 kind.1 disk.1 found.1 store.1) in
    let t = tell s disk.0 disk.1 in
    let held = (opened.position t.0 t.1).holds in
    let here : slice_get (contents disks) s ≡ Some t.0 = slice_get-map bytes_of disks s disk.0 disk.1 ∙ ap (λ (b : List ℕ). Some b) (told-bytes disk.0 t.0 t.1) in
    let left : stored_in core.stores (Some s) ≡ store.0.position = (let e = store.1 in rw e refl) in
    let right : position_in (contents disks) (Some s) ≡ cell_value t.0 = (rw here refl) in
    left ∙ sym held ∙ sym right

some-is : (o : Option ℕ) → is_some o ≡ true → (s : ℕ) × (o ≡ Some s)
some-is None h = absurd (let wrong : false ≡ true = h in cc)
some-is (Some s) h = (s, refl)

-- Destinations without a disk-buffer.

waiting-none : (ks : List BufferedEntry) → are_waiting (map recovered ks) ≡ true → ks ≡ []
waiting-none [] h = refl
waiting-none (k ∷ ks) h = absurd (let wrong : false ≡ true = h in cc)

bare-by : (buffer : Option BufferSetup) (ks : List BufferedEntry) → buffer ≡ None → is_split_by buffer (map recovered ks) ≡ true → ks ≡ []
bare-by None ks q h = waiting-none ks h
bare-by (Some b) ks q h = absurd (let wrong : Some b ≡ None = q in cc)

-- the run begins with what the contents hold
pub begins-with : (setup : Setup) (disks : List DiskState) (core : CoreState) (o : IsOpen setup disks core) → NumberStores setup (length disks) → AllTell disks
    → BeginsWithImages setup (record { positions = positions_by setup.sources (contents disks); lists = (o.opening).entries }) o.opening
begins-with setup disks core o numbers tell = record {
  every_position = length-map setup.sources (λ (source : SourceSetup). position_in (contents disks) source.store);
  every_list = o.every_list;
  places = λ i position file at.
      (let f : SourceSetup → ℕ = λ source. stored_in core.stores source.store in
      let g : SourceSetup → ℕ = λ source. position_in (contents disks) source.store in
      let source = file.source in
      let s = some-is source.store file.stored in
      let place : store_in setup.sources i ≡ Some s.0 = ap (λ (x : Option SourceSetup). option_and_then (λ (y : SourceSetup). y.store) x) file.at ∙ s.1 in
      let both : f source ≡ g source =
      ap (λ (x : Option ℕ). stored_in core.stores x) s.1 ∙ stored-is setup disks core i s.0 o numbers tell place ∙ ap (λ (x : Option ℕ). position_in (contents disks) x) (sym s.1) in
      let was : Some (g source) ≡ Some position = sym (slice_get-map g setup.sources i source file.at) ∙ at in
      ap (λ (xs : List ℕ). slice_get xs i) o.places ∙ slice_get-map f setup.sources i source file.at ∙ ap (λ (n : ℕ). Some n) both ∙ was);
  lists = λ d dest list h q at. at;
  bare = λ d dest list h q at.
      (let x = opens-dest setup.dests (o.opening).entries d dest h in
      let same : list ≡ x.list = x.is list at in
      let split = o.stands.at.sound.split d (opened_dest dest x.list) x.at in
      same ∙ bare-by dest.buffer x.list q split);
}
