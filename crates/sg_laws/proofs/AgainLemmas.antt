-- What a core begins with that is opened over images of another's stores.
use Rattle.std.proofs.Common.{◌≡◌, ℕ, suc, List, [], ◌∷◌, length, map, slice_get, Some, None, Option, refl, sym, ap, ◌∙◌, arith, subst, inl, inr}
use Rattle.std.proofs.lemmas.List.{length-map}
use Rattle.sg_list.proofs.ListLemmas.{some-same, slice_get-map, slice_get-some}
use Rattle.sg_device.specs.Disk.{DiskState}
use Rattle.sg_buffer.specs.Entries.{IsListOf}
use Rattle.sg_machine.specs.Runs.{BufferedEntry}
use Rattle.sg_machine.specs.Safe.{Safe}
use Rattle.sg_machine.specs.declared.event.Event.{Event}
use Rattle.sg_machine.specs.declared.state.State.{State}
use Rattle.sg_machine.specs.declared.setup.BufferSetup.{BufferSetup}
use Rattle.sg_machine.specs.declared.setup.SourceSetup.{SourceSetup}
use Rattle.sg_counter.specs.Bringing.{store_in}
use Rattle.sg_sinks.specs.States.{SinkState}
use Rattle.sg_stores.specs.Opening.{IsStore, IsOpenedAs}
use Rattle.sg_stores.specs.Positions.{stored_in}
use Rattle.sg_stores.specs.Stores.{StoreState, coded}
use Rattle.sg_stores.specs.declared.answers.CoreRefusal.TheVariants.{Damage}
use Rattle.sg_stores.specs.declared.kind.StoreKind.{StoreKind}
use Rattle.sg_stores.specs.declared.kind.StoreKind.TheVariants.{Position, Buffer}
use Rattle.sg_standing.specs.Images.{position_in, positions_in, AreStores}
use Rattle.sg_standing.specs.States.{CoreState, setup_of}
use Rattle.sg_standing.specs.declared.source.Source.{Source}
use Rattle.sg_core.specs.Opening.{NumberStores, buffer_store_in, kind_of, IsOpen, IsUnopened}
use Rattle.sg_laws.specs.Reopening.{TellImages, OpensWithImages, OpensAgain}
use Rattle.sg_laws.proofs.KindLemmas.{kind-has, kind-lacks, source-with, sink-with, store-whole}
use Rattle.sg_laws.specs.Failing.{IsUsed}

store-of : (core : CoreState) (i s : ℕ) (source : Source) → slice_get core.sources i ≡ Some source → source.setup.store ≡ Some s → store_in (setup_of core).sources i ≡ Some s
store-of core i s source h is = rw (slice_get-map (λ (x : Source). x.setup) core.sources i source h) is

buffer-of : (core : CoreState) (d : ℕ) (sink : SinkState) (buffer : BufferSetup) → slice_get core.sinks d ≡ Some sink → sink.setup.buffer ≡ Some buffer → buffer_store_in (setup_of core).dests d ≡ Some buffer.store
buffer-of core d sink buffer h is = rw (slice_get-map (λ (x : SinkState). x.setup) core.sinks d sink h, is) refl

-- sources that agree, one by one
places-agree : (stores : List StoreState) (images : List (List ℕ)) (sources : List Source) → ((i : ℕ) (source : Source) → slice_get sources i ≡ Some source → stored_in stores source.setup.store ≡ position_in images source.setup.store)
    → map (λ (s : SourceSetup). stored_in stores s.store) (map (λ (x : Source). x.setup) sources) ≡ positions_in sources images
places-agree stores images [] each = refl
places-agree stores images (x ∷ sources) each = rw (each 0 x refl, places-agree stores images sources (λ i source h. each (suc i) source h)) refl

module _ (core : CoreState) (images : List (List ℕ)) (disks : List DiskState) (are : AreStores core images) (numbers : NumberStores (setup_of core) (length disks)) (tell : TellImages disks images) where
  -- a source's store isn't a disk-buffer's
  source-kind : (i s : ℕ) (kind : StoreKind) → store_in (setup_of core).sources i ≡ Some s → kind ≡ kind_of (setup_of core).dests s → kind ≡ Position
  source-kind i s Position has is = refl
  source-kind i s (Buffer capacity) has is = let d = kind-has (setup_of core).dests s capacity (sym is) in absurd (numbers.apart i d.0 s has d.1)

  -- a store that is used is one of its kind
  used-is : (s : ℕ) (kind : StoreKind) (bytes : List ℕ) → IsUsed (setup_of core) s → kind ≡ kind_of (setup_of core).dests s → slice_get images s ≡ Some bytes → IsStore kind bytes
  used-is s kind bytes (inl of_source) is at =
      let source = source-with core.sources of_source.0 s of_source.1 in
      subst (λ (k : StoreKind). IsStore k bytes) (sym (source-kind of_source.0 s kind of_source.1 is)) (are.positions of_source.0 source.0 s bytes source.1 source.2 at)
  used-is s Position bytes (inr of_dest) is at = absurd (kind-lacks (setup_of core).dests s of_dest.0 (sym is) of_dest.1)
  used-is s (Buffer capacity) bytes (inr of_dest) is at =
      let has = sink-with core.sinks of_dest.0 s of_dest.1 in
      let list = are.lists of_dest.0 has.sink has.buffer bytes has.at has.has (ap (slice_get images) has.store ∙ at) in
      (map coded list.0, list.1)

  whole : (news : List DiskState) (s at : ℕ) → IsUsed (setup_of core) s → IsUnopened (setup_of core) disks news (Damage s at) → ⊥
  whole news s at used un =
      let damaged = un.refused.reason in
      let told = tell s damaged.disk damaged.is_disk in
      store-whole damaged.kind at told.0 (used-is s damaged.kind told.0 used (un.kinds_are.each s damaged.kind damaged.is_kind) told.1) (damaged.damaged told.0 told.2)

  module _ (again : CoreState) (opens : IsOpen (setup_of core) disks again) where
    source-place : (i : ℕ) (source : Source) (store : Option ℕ) → slice_get core.sources i ≡ Some source → source.setup.store ≡ store → stored_in again.stores store ≡ position_in images store
    source-place i source None h is = refl
    source-place i source (Some s) h is =
        let has = store-of core i s source h is in
        let low = numbers.positions i s has in
        let disk = slice_get-some disks s low in
        let found = slice_get-some opens.founds s (let n = opens.stores.looked in omega (arith, n, low)) in
        let store = slice_get-some again.stores s (let n = opens.stores.count in omega (arith, n, low)) in
        let kind = slice_get-some opens.kinds s (let n = opens.kinds_are.many in omega (arith, n, low)) in
        let is_position = source-kind i s kind.0 has (opens.kinds_are.each s kind.0 kind.1) in
        let one = subst (λ (k : StoreKind). IsOpenedAs k disk.0 found.0 store.0) is_position (opens.stores.each s kind.0 disk.0 found.0 store.0 kind.1 disk.1 found.1 store.1) in
        let told = tell s disk.0 disk.1 in
        rw (store.1, told.1) (sym (one.0.position told.0 told.2).holds)

    begins : OpensWithImages core images opens.opening
    begins = record {
      positions = opens.places ∙ places-agree again.stores images core.sources (λ i source h. source-place i source source.setup.store h refl);
      lists = record {
        every = opens.every_list ∙ length-map core.sinks (λ (x : SinkState). x.setup);
        each = λ d sink buffer list bytes h is in_list at.
            let dest = slice_get-map (λ (x : SinkState). x.setup) core.sinks d sink h in
            let low = numbers.buffers d buffer.store (buffer-of core d sink buffer h is) in
            let disk = slice_get-some disks buffer.store low in
            let told = tell buffer.store disk.0 disk.1 in
            let same : bytes ≡ told.0 = some-same bytes told.0 (sym at ∙ told.1) in
            subst (IsListOf (map coded list)) (sym same) (opens.lists d sink.setup buffer disk.0 list dest is disk.1 in_list told.0 told.2);
      };
    }

  pub opens-again : OpensAgain core images disks
  opens-again = record { begins = begins; whole = whole }

-- the same with the opening's positions
pub safe-at : (start : State) (events : List Event) (event : Event) (a b : List ℕ) (lists : List (List BufferedEntry)) → a ≡ b → Safe start events event (record { positions = b; lists = lists }) → Safe start events event (record { positions = a; lists = lists })
safe-at start events event a b lists same h = subst (λ (ps : List ℕ). Safe start events event (record { positions = ps; lists = lists })) (sym same) h
