-- How far a walk over the entries came.
use Rattle.std.proofs.Common.{◌≡◌, ℕ, ◌+◌, ◌-◌, ◌<◌, ◌^◌, min, Bool, true, false, List, [], ◌∷◌, ◌++◌, length, map, append_assoc, refl, sym, ◌∙◌, ap, subst, arith, Some}
use Rattle.std.specs.Prelude.{◌||◌}
use Rattle.std.proofs.lemmas.List.{length-append, append-nil, map-append}
use Rattle.sg_device.specs.Disk.{DiskState, WhereTold, content}
use Rattle.sg_device.proofs.DiskCalls.{content_same}
use Rattle.sg_codec.specs.declared.kept.Kept.{Kept}
use Rattle.sg_stable.specs.declared.fault.StoreRefusal.{StoreRefusal}
use Rattle.sg_stable.specs.declared.fault.StoreRefusal.TheVariants.{Damage, DiskFault, NoMemory}
use Rattle.sg_spool.specs.Places.{Remains, live}
use Rattle.sg_spool.specs.Ring.{Entries, IsList, space}
use Rattle.sg_spool.specs.declared.places.Places.{Places}
use Rattle.sg_spool.specs.declared.rows.Rows.{Rows}
use Rattle.sg_buffer.specs.Entries.{IsStoredAs, AreStoredAs, AreKept, spelled, size_of}
use Rattle.sg_buffer.specs.Formats.{is_format1}
use Rattle.sg_buffer.specs.Found.{AddsEntry, AddReason, FindsEntries, IsFirstNoEntry, LookReason}
use Rattle.sg_buffer.specs.Heads.{head_of}
use Rattle.sg_buffer.specs.declared.found.BufferEntries.{BufferEntries}
use Rattle.sg_buffer.specs.declared.found.EntryHead.{EntryHead}
use Rattle.sg_buffer.proofs.Stored.{kept_of, is_new, stored_more, stored_length, kept_more, size_more, spelled_more, space_spelled}

-- from this gate on a payload is left, and the others from the next gate on
abbrev pub GoesOn : DiskState → Places → ℕ → List ℕ → ℕ → Type 0
GoesOn disk places gate payload next = WhereTold (content disk) (λ b. (left : Entries) → Remains b places.jump gate left places.end → (rest : Entries) × (left ≡ payload ∷ rest) × Remains b places.jump next rest places.end)

-- the same of a disk that was only read since
pub goes_before : (d0 d1 : DiskState) (r0 r1 : Rows) (gate : ℕ) (payload : List ℕ) (next : ℕ) → d1.told ≡ d0.told → r1 ≡ r0 → GoesOn d1 r1.list gate payload next → GoesOn d0 r0.list gate payload next
goes_before d0 d1 r0 r1 gate payload next told rows goes = subst (λ (r : Rows). GoesOn d0 r.list gate payload next) rows (λ b is. goes b (content_same d0 d1 told ∙ is))

-- of these payloads the first ones spell the entries, and the others are left from the gate on
pub record IsListSplit (places : Places) (gate : ℕ) (older : Bool) (entries : List Kept) (payloads : Entries) (bytes : List ℕ) : Type 0 where
  pub done : Entries
  pub left : Entries
  pub both : payloads ≡ done ++ left
  pub stored : AreStoredAs entries done
  pub remains : Remains bytes places.jump gate left places.end
  pub newer : older ≡ false → done ≡ spelled entries

-- so many entries were read, up to this gate
pub record IsRead (disk : DiskState) (places : Places) (turn gate : ℕ) (found : BufferEntries) : Type 0 where
  pub entries : List Kept
  pub heads : found.heads.items ≡ map head_of entries
  pub kept : AreKept entries
  pub count : turn ≡ length entries
  pub size : found.size ≡ min (size_of entries) (2 ^ 64 - 1)
  pub split : WhereTold (content disk) (λ b. (payloads : Entries) → IsList payloads b → IsListSplit places gate found.older entries payloads b)

-- nothing yet
pub read_none : (disk : DiskState) (places : Places) (gate : ℕ) (found : BufferEntries) → found.heads.items ≡ [] → found.size ≡ 0 → WhereTold (content disk) (λ b. (payloads : Entries) → IsList payloads b → Remains b places.jump gate payloads places.end) → IsRead disk places 0 gate found
read_none disk places gate found heads size remains = record {
  entries = [];
  heads = heads;
  kept = tt;
  count = refl;
  size = omega (arith, size);
  split = λ b told payloads is. record { done = []; left = payloads; both = refl; stored = tt; remains = remains b told payloads is; newer = λ e. refl };
}

parts_or : (a b : Bool) → (a || b) ≡ false → (a ≡ false) × (b ≡ false)
parts_or true b e = absurd (let no : true ≡ false = e in cc)
parts_or false b e = (refl, e)

-- an entry more
pub read_more : (disk : DiskState) (places : Places) (turn gate next : ℕ) (old new : BufferEntries) (kept : Kept) (payload : List ℕ) → IsRead disk places turn gate old → IsStoredAs kept payload → AddsEntry kept payload old new
    → GoesOn disk places gate payload next → IsRead disk places (turn + 1) next new
read_more disk places turn gate next old new kept payload at is adds goes = record {
  entries = at.entries ++ kept ∷ [];
  heads = adds.heads ∙ ap (λ (l : List EntryHead). l ++ head_of kept ∷ []) at.heads ∙ sym (map-append head_of at.entries (kept ∷ []));
  kept = kept_more at.entries kept at.kept (kept_of kept payload is);
  count = let n = at.count in omega (arith, n, length-append at.entries (kept ∷ []));
  size = let was = at.size in let now = adds.size in omega (arith, was, now, size_more at.entries kept);
  split = λ b told payloads list.
      let was = at.split b told payloads list in
      let on = goes b told was.left was.remains in
      record {
        done = was.done ++ payload ∷ [];
        left = on.0;
        both = was.both ∙ ap (λ (l : Entries). was.done ++ l) on.1 ∙ sym (append_assoc was.done (payload ∷ []) on.0);
        stored = stored_more at.entries was.done kept payload was.stored is;
        remains = on.2;
        newer = λ e.
            let parts = parts_or old.older (is_format1 payload) (sym adds.older ∙ e) in
            ap (λ (l : Entries). l ++ payload ∷ []) (was.newer parts.0) ∙ ap (λ (p : List ℕ). spelled at.entries ++ p ∷ []) (is_new kept payload is parts.1) ∙ sym (spelled_more at.entries kept);
      };
}

none_left : (payloads done left : Entries) → payloads ≡ done ++ left → length payloads ≡ length done → left ≡ []
none_left payloads done [] both long = refl
none_left payloads done (p ∷ ps) both long =
    let all : length payloads ≡ length (done ++ p ∷ ps) = ap length both in
    absurd (omega (arith, all, long, length-append done (p ∷ ps)))

module _ (disk : DiskState) (rows : Rows) (gate : ℕ) (found : BufferEntries) (at : IsRead disk rows.list rows.count gate found) (counts : WhereTold (content disk) (λ b. (payloads : Entries) → IsList payloads b → rows.count ≡ length payloads)) where
  -- all were read
  all : (b : List ℕ) (told : content disk ≡ Some b) (payloads : Entries) (list : IsList payloads b) → payloads ≡ (at.split b told payloads list).done
  all b told payloads list =
      let split = at.split b told payloads list in
      let long : length payloads ≡ length split.done = let n = at.count in let m = counts b told payloads list in omega (arith, n, m, stored_length at.entries split.done split.stored) in
      split.both ∙ ap (λ (l : Entries). split.done ++ l) (none_left payloads split.done split.left split.both long) ∙ append-nil split.done

  pub all_stored : WhereTold (content disk) (λ b. (payloads : Entries) → IsList payloads b → AreStoredAs at.entries payloads)
  all_stored b told payloads list = subst (λ (l : Entries). AreStoredAs at.entries l) (sym (all b told payloads list)) (at.split b told payloads list).stored

  pub all_new : found.older ≡ false → WhereTold (content disk) (λ b. (payloads : Entries) → IsList payloads b → payloads ≡ spelled at.entries)
  all_new e b told payloads list = all b told payloads list ∙ (at.split b told payloads list).newer e

  pub finds : (found.older ≡ false → (live rows.list < 2 ^ 63) × (live rows.list ≡ found.size)) → FindsEntries disk rows found at.entries
  finds same = record {
    heads = at.heads;
    kept = at.kept;
    count = at.count;
    size = at.size;
    list = all_stored;
    live = λ e. let n = same e in let m = at.size in omega (arith, n.0, n.1, m);
    newer = all_new;
  }

  -- where none is of format 1, the bytes that the list takes are those of the entries
  pub same_size : found.older ≡ false → (bytes : ℕ) → bytes < 2 ^ 63 → (b : List ℕ) → content disk ≡ Some b → ((payloads : Entries) → IsList payloads b → bytes ≡ space payloads) → (payloads : Entries) → IsList payloads b → bytes ≡ found.size
  same_size e bytes small b told spaces payloads list =
      let n = spaces payloads list in
      let m : space payloads ≡ size_of at.entries = ap space (all_new e b told payloads list) ∙ space_spelled at.entries in
      let k = at.size in
      omega (arith, n, m, k, small)

-- at the gate where the payload is no entry
pub no_entry : (disk : DiskState) (places : Places) (turn gate next : ℕ) (found : BufferEntries) (payload : List ℕ) → IsRead disk places turn gate found → GoesOn disk places gate payload next → ((kept : Kept) → IsStoredAs kept payload → ⊥) → WhereTold (content disk) (λ b. (payloads : Entries) × IsList payloads b) → WhereTold (content disk) (IsFirstNoEntry places gate)
no_entry disk places turn gate next found payload at goes none there b told =
    let list = there b told in
    let split = at.split b told list.0 list.1 in
    let on = goes b told split.left split.remains in
    record {
      before = at.entries;
      payloads = split.done;
      payload = payload;
      after = on.0;
      list = subst (λ (l : Entries). IsList l b) (split.both ∙ ap (λ (l : Entries). split.done ++ l) on.1) list.1;
      stored = split.stored;
      gate = subst (λ (l : Entries). Remains b places.jump gate l places.end) on.1 split.remains;
      none = none;
    }

-- why a payload wasn't added
pub add_reason : (d0 d1 : DiskState) (places : Places) (turn gate next : ℕ) (found : BufferEntries) (payload : List ℕ) → IsRead d0 places turn gate found → GoesOn d0 places gate payload next → WhereTold (content d0) (λ b. (payloads : Entries) × IsList payloads b)
    → (refusal : StoreRefusal) → AddReason payload gate refusal → LookReason d0 d1 places refusal
add_reason d0 d1 places turn gate next found payload at goes there (Damage place) why = subst (λ (k : ℕ). WhereTold (content d0) (IsFirstNoEntry places k)) (sym why.0) (no_entry d0 places turn gate next found payload at goes why.1 there)
add_reason d0 d1 places turn gate next found payload at goes there DiskFault why = absurd why
add_reason d0 d1 places turn gate next found payload at goes there NoMemory why = tt

-- before the last one was read there is one
pub not_empty : (disk : DiskState) (rows : Rows) (turn gate : ℕ) (found : BufferEntries) → IsRead disk rows.list turn gate found → turn < rows.count → WhereTold (content disk) (λ b. (payloads : Entries) → IsList payloads b → rows.count ≡ length payloads) → WhereTold (content disk) (λ b. (payloads : Entries) × IsList payloads b)
    → WhereTold (content disk) (λ b. (left : Entries) → Remains b rows.list.jump gate left rows.list.end → left ≡ []) → (b : List ℕ) → content disk ≡ Some b → ⊥
not_empty disk rows turn gate found at less counts there none b told =
    let list = there b told in
    let split = at.split b told list.0 list.1 in
    let empty : list.0 ≡ split.done = split.both ∙ ap (λ (l : Entries). split.done ++ l) (none b told split.left split.remains) ∙ append-nil split.done in
    let long : length list.0 ≡ length split.done = ap length empty in
    let n = at.count in
    let m = counts b told list.0 list.1 in
    omega (arith, less, n, m, long, stored_length at.entries split.done split.stored)

-- all that a list's bytes take, before and after a read
pub ends_before : (d0 d1 : DiskState) (r0 r1 : Rows) (gate : ℕ) → d1.told ≡ d0.told → r1 ≡ r0 → WhereTold (content d1) (λ b. (left : Entries) → Remains b r1.list.jump gate left r1.list.end → left ≡ []) → WhereTold (content d0) (λ b. (left : Entries) → Remains b r0.list.jump gate left r0.list.end → left ≡ [])
ends_before d0 d1 r0 r1 gate told rows ends =
    subst (λ (r : Rows). WhereTold (content d0) (λ b. (left : Entries) → Remains b r.list.jump gate left r.list.end → left ≡ [])) rows (λ b is. ends b (content_same d0 d1 told ∙ is))
