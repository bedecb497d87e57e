-- Which stores are disk-buffers, and what of theirs is damaged nowhere.
use Rattle.std.proofs.Common.{◌≡◌, ◌≢◌, ℕ, zero, suc, List, [], ◌∷◌, ◌++◌, map, slice_get, Some, None, Option, refl, sym, ap, ◌∙◌, arith, subst, true, false, if◌then◌else◌, inl, inr}
use Rattle.std.specs.Prelude.{◌==◌}
use Rattle.std.specs.Option.{option_map_or}
use Rattle.std.proofs.lemmas.Bool.{cases_eq}
use Rattle.sg_list.proofs.ListLemmas.{some-same}
use Rattle.sg_codec.specs.declared.kept.Kept.{Kept as Coded}
use Rattle.sg_stable.specs.Position.{IsPosition, IsPositionDamagedAt}
use Rattle.sg_spool.specs.Ring.{Entries}
use Rattle.sg_spool.proofs.Damages.{no_damage}
use Rattle.sg_spool.proofs.Unique.{list_unique}
use Rattle.sg_buffer.specs.Entries.{IsStoredAs, AreStoredAs}
use Rattle.sg_machine.specs.declared.setup.BufferSetup.{BufferSetup}
use Rattle.sg_machine.specs.declared.setup.DestSetup.{DestSetup}
use Rattle.sg_counter.specs.Bringing.{store_in}
use Rattle.sg_sinks.specs.States.{SinkState}
use Rattle.sg_stores.specs.Opening.{IsStore, IsDamagedStore}
use Rattle.sg_stores.specs.declared.kind.StoreKind.{StoreKind}
use Rattle.sg_stores.specs.declared.kind.StoreKind.TheVariants.{Position, Buffer}
use Rattle.sg_standing.specs.declared.source.Source.{Source}
use Rattle.sg_core.specs.Opening.{buffer_store_in, kind_by, kind_of}

-- Kinds.

-- past a disk-buffer of another store
kind-rest : (b : BufferSetup) (s : ℕ) (kind other : StoreKind) → b.store ≢ s → kind_by (Some b) s kind ≡ other → kind ≡ other
kind-rest b s kind other ne e = let q : (b.store == s) ≡ false = grind (arith, ne) in sym (ap (λ t. if t then Buffer b.capacity else kind) q) ∙ e

kind-here : (b : BufferSetup) (s : ℕ) (kind : StoreKind) → b.store ≡ s → kind_by (Some b) s kind ≡ Buffer b.capacity
kind-here b s kind p = let q : (b.store == s) ≡ true = grind (arith, p) in ap (λ t. if t then Buffer b.capacity else kind) q

has-first : (x : DestSetup) (dests : List DestSetup) (buffer : Option BufferSetup) (s capacity : ℕ) → ((kind_of dests s ≡ Buffer capacity) → (d : ℕ) × (buffer_store_in dests d ≡ Some s)) → x.buffer ≡ buffer
    → kind_by buffer s (kind_of dests s) ≡ Buffer capacity → (d : ℕ) × (buffer_store_in (x ∷ dests) d ≡ Some s)
has-first x dests None s capacity rest is e = let r = rest e in (suc r.0, r.1)
has-first x dests (Some b) s capacity rest is e =
    elim (cases_eq b.store s) [
      | inl p ↦ (0, rw (is, p) refl)
      | inr ne ↦ (let r = rest (kind-rest b s (kind_of dests s) (Buffer capacity) ne e) in (suc r.0, r.1))
    ]

-- of a disk-buffer's kind is the store of a destination
pub kind-has : (dests : List DestSetup) (s capacity : ℕ) → kind_of dests s ≡ Buffer capacity → (d : ℕ) × (buffer_store_in dests d ≡ Some s)
kind-has [] s capacity e = absurd (let wrong : Position ≡ Buffer capacity = e in cc)
kind-has (x ∷ dests) s capacity e = has-first x dests x.buffer s capacity (kind-has dests s capacity) refl e

lacks-first : (buffer : Option BufferSetup) (s : ℕ) (kind : StoreKind) → kind_by buffer s kind ≡ Position → option_map_or (λ (b : BufferSetup). Some b.store) buffer None ≡ Some s → ⊥
lacks-first None s kind e has = let wrong : None ≡ Some s = has in cc
lacks-first (Some b) s kind e has = let wrong : Buffer b.capacity ≡ Position = sym (kind-here b s kind (some-same b.store s has)) ∙ e in cc

lacks-rest : (buffer : Option BufferSetup) (s : ℕ) (kind : StoreKind) → kind_by buffer s kind ≡ Position → kind ≡ Position
lacks-rest None s kind e = e
lacks-rest (Some b) s kind e =
    elim (cases_eq b.store s) [
      | inl p ↦ absurd (let wrong : Buffer b.capacity ≡ Position = sym (kind-here b s kind p) ∙ e in cc)
      | inr ne ↦ kind-rest b s kind Position ne e
    ]

-- and no other is
pub kind-lacks : (dests : List DestSetup) (s d : ℕ) → kind_of dests s ≡ Position → buffer_store_in dests d ≡ Some s → ⊥
kind-lacks [] s d e has = let wrong : None ≡ Some s = has in cc
kind-lacks (x ∷ dests) s zero e has = lacks-first x.buffer s (kind_of dests s) e has
kind-lacks (x ∷ dests) s (suc d) e has = kind-lacks dests s d (lacks-rest x.buffer s (kind_of dests s) e) has

-- The source and the destination of a store.

pub source-with : (sources : List Source) (i s : ℕ) → store_in (map (λ (x : Source). x.setup) sources) i ≡ Some s → (source : Source) × (slice_get sources i ≡ Some source) × (source.setup.store ≡ Some s)
source-with [] i s h = absurd (let wrong : None ≡ Some s = h in cc)
source-with (x ∷ sources) zero s h = (x, refl, h)
source-with (x ∷ sources) (suc i) s h = source-with sources i s h

pub record HasBufferKind (sinks : List SinkState) (d s : ℕ) : Type 0 where
  pub sink : SinkState
  pub buffer : BufferSetup
  pub at : slice_get sinks d ≡ Some sink
  pub has : sink.setup.buffer ≡ Some buffer
  pub store : buffer.store ≡ s

buffer-with : (o : Option BufferSetup) (s : ℕ) → option_map_or (λ (b : BufferSetup). Some b.store) o None ≡ Some s → (buffer : BufferSetup) × (o ≡ Some buffer) × (buffer.store ≡ s)
buffer-with None s h = absurd (let wrong : None ≡ Some s = h in cc)
buffer-with (Some b) s h = (b, refl, some-same b.store s h)

pub sink-with : (sinks : List SinkState) (d s : ℕ) → buffer_store_in (map (λ (x : SinkState). x.setup) sinks) d ≡ Some s → HasBufferKind sinks d s
sink-with [] d s h = absurd (let wrong : None ≡ Some s = h in cc)
sink-with (x ∷ sinks) zero s h = let b = buffer-with x.setup.buffer s h in record { sink = x; buffer = b.0; at = refl; has = b.1; store = b.2 }
sink-with (x ∷ sinks) (suc d) s h = let r = sink-with sinks d s h in record { sink = r.sink; buffer = r.buffer; at = r.at; has = r.has; store = r.store }

-- Damage.

position-whole : (value at : ℕ) (bytes : List ℕ) → IsPosition value bytes → IsPositionDamagedAt at bytes → ⊥
position-whole value at bytes is (inl first) = first.nonzero (is.shape.zeros at first.inside first.outside)
position-whole value at bytes is (inr behind) = behind.1 is.shape.size

stored-at : (payloads : Entries) (entries : List Coded) (payload : List ℕ) (after : Entries) → AreStoredAs entries (payloads ++ payload ∷ after) → (kept : Coded) × IsStoredAs kept payload
stored-at [] [] payload after h = absurd h
stored-at [] (k ∷ entries) payload after h = (k, h.0)
stored-at (p ∷ payloads) [] payload after h = absurd h
stored-at (p ∷ payloads) (k ∷ entries) payload after h = stored-at payloads entries payload after h.1

-- bytes that are a store are damaged nowhere
pub store-whole : (kind : StoreKind) (at : ℕ) (bytes : List ℕ) → IsStore kind bytes → IsDamagedStore kind at bytes → ⊥
store-whole Position at bytes is damaged = position-whole is.0 at bytes is.1 damaged
store-whole (Buffer capacity) at bytes is (inl damaged) = no_damage is.1.payloads at bytes is.1.list damaged
store-whole (Buffer capacity) at bytes is (inr lost) =
    let one = list_unique is.1.payloads (lost.none.payloads ++ lost.none.payload ∷ lost.none.after) bytes is.1.list lost.none.list in
    let found = stored-at lost.none.payloads is.0 lost.none.payload lost.none.after (subst (AreStoredAs is.0) one is.1.stored) in
    lost.none.none found.0 found.1
