-- Disk-buffers that are looked through at an opening, and those whose older entries are spelled anew.
use Rattle.std.proofs.Common.{◌≡◌, inl, inr, ℕ, ◌^◌, ◌<◌, List, [], ◌∷◌, length, map, Some, None, Option, refl, sym, ap, ◌∙◌, arith, subst, true, false, Bool}
use Rattle.std.specs.Prelude.{is_some}
use Rattle.std.proofs.lemmas.Bool.{cases_lt}
use Rattle.std.proofs.lemmas.List.{append-nil, length-map}
use Rattle.sg_device.specs.Disk.{DiskLog, DiskState, content, clock, IsImageAt, Preserves, Durable, Moves, Within, WhereTold}
use Rattle.sg_device.proofs.Disks.{preserves_trans, told_forth, moves_within}
use Rattle.sg_device.proofs.DiskCalls.{unchanged, durable_same, reads_as_image}
use Rattle.sg_codec.specs.declared.kept.Kept.{Kept as Coded}
use Rattle.sg_stable.specs.declared.fault.StoreRefusal.{StoreRefusal}
use Rattle.sg_stable.specs.declared.fault.StoreRefusal.TheVariants.{Damage, DiskFault, NoMemory}
use Rattle.sg_spool.specs.Ring.{Entries, IsList}
use Rattle.sg_spool.specs.Places.{live}
use Rattle.sg_spool.specs.Rows.{listed}
use Rattle.sg_spool.specs.Calls.{SpoolLasts, OnlyReadsSpool}
use Rattle.sg_spool.specs.View.{View, RingHolds, HoldsAt}
use Rattle.sg_spool.specs.declared.rows.Rows.{Rows}
use Rattle.sg_spool.proofs.AdvanceCalls.{image_told}
use Rattle.sg_spool.proofs.Whole.{told_at}
use Rattle.sg_buffer.specs.Entries.{AreKept, IsListOf, spelled, size_of}
use Rattle.sg_buffer.specs.Found.{FindsEntries}
use Rattle.sg_buffer.specs.Heads.{head_of}
use Rattle.sg_buffer.specs.Renewing.{RenewReason}
use Rattle.sg_buffer.specs.declared.found.BufferEntries.{BufferEntries}
use Rattle.sg_buffer.specs.declared.found.EntryHead.{EntryHead}
use Rattle.sg_machine.specs.Runs.{BufferedEntry}
use Rattle.sg_sinks.specs.Fitting.{space}
use Rattle.sg_stores.specs.Stores.{StoreState, BufferState, coded, length_of, buffer_state}
use Rattle.sg_stores.specs.Opening.{IsOpenedPosition, IsRecovered, IsOpenedAs, RestsInList}
use Rattle.sg_stores.specs.Looking.{IsLookedBuffer, IsLookedAs, IsUnrenewed}
use Rattle.sg_stores.specs.declared.kind.StoreKind.{StoreKind}
use Rattle.sg_stores.specs.declared.kind.StoreKind.TheVariants.{Position, Buffer}

-- what is held depends on the log alone
holds-told : (old new : DiskState) (rows : Rows) (list staged : Entries) → new.told ≡ old.told → HoldsAt old rows list staged → HoldsAt new rows list staged
holds-told old new rows list staged is h = subst (λ (told : Option DiskLog). HoldsAt (record { told = told; faults = new.faults }) rows list staged) (sym is)
    (let same : HoldsAt (record { told = old.told; faults = new.faults }) rows list staged = record { images = h.images; number = h.number; waits = h.waits } in same)

finds-told : (old new : DiskState) (rows : Rows) (found : BufferEntries) (entries : List Coded) → new.told ≡ old.told → FindsEntries old rows found entries → FindsEntries new rows found entries
finds-told old new rows found entries is h = subst (λ (told : Option DiskLog). FindsEntries (record { told = told; faults = new.faults }) rows found entries) (sym is)
    (let same : FindsEntries (record { told = old.told; faults = new.faults }) rows found entries = record { heads = h.heads; kept = h.kept; count = h.count; size = h.size; list = h.list; live = h.live; newer = h.newer } in same)

-- a disk that tells nothing has no image
none-held : (disk : DiskState) (rows : Rows) → rows.staged ≡ 0 → content disk ≡ None → HoldsAt disk rows [] []
none-held disk rows none untold = record {
  images = λ c left. let b = image_told disk c left in absurd (let no : None ≡ Some b.0 = sym untold ∙ b.1 in cc);
  number = none;
  waits = λ b told. tt;
}

untold : (told : Option (List ℕ)) → is_some told ≡ false → told ≡ None
untold None h = refl
untold (Some b) h = absurd (let no : true ≡ false = h in cc)

-- there is a list, whatever the disk tells
some-held : (disk mid : DiskState) (rows : Rows) (told : Option (List ℕ)) → content disk ≡ told → rows.staged ≡ 0 → is_some (content mid) ≡ is_some (content disk)
    → WhereTold (content disk) (λ bytes. (list : Entries) × HoldsAt mid rows list []) → (list : Entries) × HoldsAt mid rows list []
some-held disk mid rows (Some b) is none tells lists = lists b is
some-held disk mid rows None is none tells lists = ([], none-held mid rows none (untold (content mid) (tells ∙ ap is_some is)))

module _ {D : Type 0} (state : D → DiskState) (disk : DiskState) (capacity : ℕ) (found : BufferEntries) (old new : View D) where
  -- it was opened and looked through
  pub looked : old.capacity ≡ capacity → old.rows ≡ listed old.rows.list old.rows.count → Durable (state old.disk) → Preserves disk (state old.disk) → (state old.disk).faults ≡ disk.faults → new.closed ≡ false
      → WhereTold (content disk) (λ bytes. (list : Entries) × IsList list bytes × RingHolds state old list [] × (old.rows.count ≡ length list))
      → OnlyReadsSpool state old new → ((entries : List Coded) × FindsEntries (state old.disk) old.rows found entries) → IsLookedBuffer disk capacity found (buffer_state state false new)
  looked limit rows durable preserves well open_ lists reads finds =
      let held = some-held disk (state old.disk) old.rows (content disk) refl (ap (λ (r : Rows). r.staged) rows) preserves.told.tells (λ b told. let l = lists b told in (l.0, l.2)) in
      record {
        position = refl;
        works = refl;
        preserves = preserves_trans preserves (unchanged (state old.disk) (state new.disk) reads.told);
        durable = durable_same (state old.disk) (state new.disk) reads.told durable;
        well = reads.lasts.works open_ ∙ well;
        buffer = record { capacity = new.capacity; rows = new.rows };
        there = refl;
        limit = reads.lasts.capacity ∙ limit;
        rows = subst (λ (r : Rows). r ≡ listed r.list r.count) (sym reads.rows) rows;
        entries = finds.0;
        finds = subst (λ (r : Rows). FindsEntries (state new.disk) r found finds.0) (sym reads.rows) (finds-told (state old.disk) (state new.disk) old.rows found finds.0 reads.told finds.1);
        payloads = held.0;
        holds = subst (λ (r : Rows). HoldsAt (state new.disk) r held.0 []) (sym reads.rows) (holds-told (state old.disk) (state new.disk) old.rows held.0 [] reads.told held.1);
      }

-- entries as the machine keeps them
abbrev uncoded : Coded → BufferedEntry
uncoded c = record { inlet = c.source; end = c.end; flow = c.flow; message = c.message }

coded-again : (entries : List Coded) → map coded (map uncoded entries) ≡ entries
coded-again [] = refl
coded-again (c ∷ entries) = ap (λ l. c ∷ l) (coded-again entries)

heads-again : (entries : List Coded) → map head_of entries ≡ map (λ (k : BufferedEntry). head_of (coded k)) (map uncoded entries)
heads-again [] = refl
heads-again (c ∷ entries) = ap (λ (l : List EntryHead). head_of c ∷ l) (heads-again entries)

space-again : (entries : List Coded) → size_of entries ≡ space (map length_of (map uncoded entries))
space-again [] = refl
space-again (c ∷ entries) = let i = space-again entries in omega (arith, i)

log-at : (told : Option DiskLog) (f moment : ℕ) (c : List ℕ) → IsImageAt (record { told = told; faults = f }) moment c → is_some (content (record { told = told; faults = f })) ≡ true
log-at None f moment c left = absurd left
log-at (Some log) f moment c left = refl

-- where bytes are told
tells-on : (d0 d1 : DiskState) (t0 t1 : Option (List ℕ)) → content d0 ≡ t0 → content d1 ≡ t1 → Moves d0 d1 → is_some (content d1) ≡ is_some (content d0)
tells-on d0 d1 None None e0 e1 moves = ap is_some e1 ∙ sym (ap is_some e0)
tells-on d0 d1 (Some b) t1 e0 e1 moves = log-at d1.told d1.faults (clock d0) b (moves.kept (clock d0) b (omega arith) (reads_as_image d0 b e0)) ∙ sym (ap is_some e0)
tells-on d0 d1 None (Some b) e0 e1 moves =
    let told = told_at d0 d1 moves (clock d1) b (reads_as_image d1 b e1) in
    absurd (let no : None ≡ Some told.0 = sym e0 ∙ told.1 in cc)

-- the bytes that were told have the entries
pub looked-told : (disk : DiskState) (capacity : ℕ) (found : BufferEntries) (store : StoreState) (look : IsLookedBuffer disk capacity found store) → WhereTold (content disk) (IsListOf look.entries)
looked-told disk capacity found store look b told =
    let now = told_forth (content disk) (content store.disk) b look.preserves.told told in
    let is = look.holds.images b (reads_as_image store.disk b now) in
    record { payloads = look.payloads; list = is; stored = look.finds.list b now look.payloads is }

-- no image of another list is added
pub keeps : (disk mid new : DiskState) (entries : List Coded) → Preserves disk mid → Within mid new (IsListOf entries) → WhereTold (content disk) (IsListOf entries) → RestsInList disk new
keeps disk mid new entries preserves within told =
    let still = preserves.still in
    record {
      tells = tells-on mid new (content mid) (content new) refl refl (moves_within within) ∙ preserves.told.tells;
      still = record {
        later = omega (arith, still.later, within.later);
        past = λ t c le left. still.past t c le (within.past t c (omega (arith, le, still.later)) left);
        kept = λ t c le left. within.kept t c (omega (arith, le, still.later)) (still.kept t c le left);
        since = λ t c lt le left. elim (cases_lt (clock mid) t) [
          | inr early ↦ let d = still.since t c lt early (within.past t c early left) in (d.0, d.1, inl d.2)
          | inl late ↦
              let b = told_at mid new (moves_within within) t c left in
              let a = preserves.told.back b.0 b.1 in
              (a.0, reads_as_image disk a.0 a.1, inr (record { entries = entries; was = told a.0 a.1; is = within.each t c (omega (arith, late)) le left }))
        ];
      };
    }

module _ {D : Type 0} (state : D → DiskState) (disk : DiskState) (capacity : ℕ) (found : BufferEntries) (f : Bool) (old new : View D) (look : IsLookedBuffer disk capacity found (buffer_state state f old)) (lasts : SpoolLasts state old new) where
  rows-same : look.buffer ≡ record { capacity = old.capacity; rows = old.rows }
  rows-same = let same : Some (record { capacity = old.capacity; rows = old.rows }) ≡ Some look.buffer = look.there in cc

  pub finds-at : FindsEntries (state old.disk) old.rows found look.entries
  finds-at = subst (λ (b : BufferState). FindsEntries (state old.disk) b.rows found look.entries) rows-same look.finds

  pub holds-at : RingHolds state old look.payloads []
  holds-at = subst (λ (b : BufferState). HoldsAt (state old.disk) b.rows look.payloads []) rows-same look.holds

  pub told-first : WhereTold (content disk) (IsListOf look.entries)
  told-first = looked-told disk capacity found (buffer_state state f old) look

  module _ (within : Within (state old.disk) (state new.disk) (IsListOf look.entries)) where
    reason-first : (refusal : StoreRefusal) → RenewReason (state old.disk) (state new.disk) refusal → RenewReason disk (state new.disk) refusal
    reason-first (Damage at) why = λ b told. why b (told_forth (content disk) (content (state old.disk)) b look.preserves.told told)
    reason-first DiskFault why = let well = look.well in omega (arith, well, why)
    reason-first NoMemory why = tt

    pub unrenewed : (refusal : StoreRefusal) → RenewReason (state old.disk) (state new.disk) refusal → IsUnrenewed (Buffer capacity) disk (state new.disk) refusal
    unrenewed refusal why = record {
      keeps = keeps disk (state old.disk) (state new.disk) look.entries look.preserves within told-first;
      later = omega (arith, look.well, lasts.later);
      store = λ b told. (look.entries, told-first b told);
      reason = reason-first refusal why;
    }

    pub recovered : new.closed ≡ false → RingHolds state new (spelled look.entries) [] → live new.rows.list ≡ size_of look.entries → live new.rows.ahead ≡ live new.rows.list → live new.rows.list < 2 ^ 63 → new.rows.count ≡ old.rows.count → new.rows.staged ≡ 0
        → IsRecovered disk capacity found (buffer_state state f new)
    recovered open_ holds size ahead small count unstaged =
        let entries = map uncoded look.entries in
        let again = coded-again look.entries in
        let spaced = space-again look.entries in
        record {
          entries = entries;
          position = refl;
          works = look.works;
          told = subst (λ (l : List Coded). WhereTold (content disk) (IsListOf l)) (sym again) told-first;
          heads = finds-at.heads ∙ heads-again look.entries;
          holds = record {
            holds = subst (λ (l : List Coded). HoldsAt (state new.disk) new.rows (spelled l) []) (sym again) holds;
            kept = subst (λ (l : List BufferedEntry). AreKept (map coded l)) (sym (append-nil entries)) (subst AreKept (sym again) finds-at.kept);
          };
          sized = record {
            limit = lasts.capacity ∙ sym (ap (λ (b : BufferState). b.capacity) rows-same) ∙ look.limit;
            count = count ∙ finds-at.count ∙ sym (length-map look.entries uncoded) ∙ sym (length-map entries length_of);
            listed = size ∙ spaced;
            ahead = ahead ∙ size ∙ spaced;
            unstaged = unstaged;
          };
          small = omega (arith, small, size, spaced);
          well = lasts.works open_ ∙ look.well;
          synced = state old.disk;
          preserves = look.preserves;
          durable = look.durable;
          within = subst (λ (l : List Coded). Within (state old.disk) (state new.disk) (IsListOf l)) (sym again) within;
        }

-- a disk-buffer was looked through as one
no-position : {D : Type 0} (state : D → DiskState) (f : Bool) (view : View D) (disk : DiskState) → IsOpenedPosition disk (buffer_state state f view) → ⊥
no-position state f view disk is = absurd (let no : Some (record { capacity = view.capacity; rows = view.rows }) ≡ None = is.buffer in cc)

pub renewed-as : {D : Type 0} (state : D → DiskState) (disk : DiskState) (found : BufferEntries) (f : Bool) (old new : View D) (lasts : SpoolLasts state old new) (kind : StoreKind)
    → IsLookedAs kind disk found (buffer_state state f old) → new.closed ≡ false
    → ((entries : List Coded) (payloads : Entries) → FindsEntries (state old.disk) old.rows found entries → RingHolds state old payloads [] → Within (state old.disk) (state new.disk) (IsListOf entries))
    → ((entries : List Coded) (payloads : Entries) → FindsEntries (state old.disk) old.rows found entries → RingHolds state old payloads [] → RingHolds state new (spelled entries) [])
    → ((entries : List Coded) → FindsEntries (state old.disk) old.rows found entries → live new.rows.list ≡ size_of entries)
    → live new.rows.ahead ≡ live new.rows.list → live new.rows.list < 2 ^ 63 → new.rows.count ≡ old.rows.count → new.rows.staged ≡ 0 → IsOpenedAs kind disk found (buffer_state state f new)
renewed-as state disk found f old new lasts Position look open_ within holds size ahead small count unstaged = absurd (no-position state f old disk look.0)
renewed-as state disk found f old new lasts (Buffer capacity) look open_ within holds size ahead small count unstaged =
    let finds = finds-at state disk capacity found f old new look lasts in
    let held = holds-at state disk capacity found f old new look lasts in
    recovered state disk capacity found f old new look lasts (within look.entries look.payloads finds held) open_ (holds look.entries look.payloads finds held) (size look.entries finds) ahead small count unstaged

pub unrenewed-as : {D : Type 0} (state : D → DiskState) (disk : DiskState) (found : BufferEntries) (f : Bool) (old new : View D) (lasts : SpoolLasts state old new) (refusal : StoreRefusal) (kind : StoreKind)
    → IsLookedAs kind disk found (buffer_state state f old)
    → ((entries : List Coded) (payloads : Entries) → FindsEntries (state old.disk) old.rows found entries → RingHolds state old payloads [] → Within (state old.disk) (state new.disk) (IsListOf entries))
    → ((entries : List Coded) (payloads : Entries) → FindsEntries (state old.disk) old.rows found entries → RingHolds state old payloads [] → RenewReason (state old.disk) (state new.disk) refusal)
    → IsUnrenewed kind disk (state new.disk) refusal
unrenewed-as state disk found f old new lasts refusal Position look within why = absurd (no-position state f old disk look.0)
unrenewed-as state disk found f old new lasts refusal (Buffer capacity) look within why =
    let finds = finds-at state disk capacity found f old new look lasts in
    let held = holds-at state disk capacity found f old new look lasts in
    unrenewed state disk capacity found f old new look lasts (within look.entries look.payloads finds held) refusal (why look.entries look.payloads finds held)
