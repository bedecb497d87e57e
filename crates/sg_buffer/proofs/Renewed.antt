-- What is left where older entries are spelled anew.
use Rattle.std.proofs.Common.{◌≡◌, ⊎_elim, ℕ, ◌≤◌, ◌<◌, ◌^◌, List, [], ◌∷◌, length, map, refl, ◌∙◌, ap, subst, arith, Some, None, Option}
use Rattle.std.specs.Prelude.{false}
use Rattle.sg_device.specs.Disk.{DiskLog, DiskState, content, clock, bytes_after, IsImageAt, Moves, Within, WhereTold}
use Rattle.sg_device.proofs.Disks.{started, moves_within}
use Rattle.sg_device.proofs.DiskCalls.{reads_as_image}
use Rattle.sg_codec.specs.declared.kept.Kept.{Kept}
use Rattle.sg_codec.specs.Spelling.{spelling2, Spells1, Spells2}
use Rattle.sg_spool.specs.Lists.{IsEitherList}
use Rattle.sg_spool.specs.Ring.{Entries, IsList, space}
use Rattle.sg_spool.specs.View.{HoldsAt}
use Rattle.sg_spool.specs.declared.rows.Rows.{Rows}
use Rattle.sg_spool.proofs.AdvanceCalls.{image_told}
use Rattle.sg_spool.proofs.Whole.{told_at}
use Rattle.sg_buffer.specs.Entries.{AreStoredAs, IsListOf, spelled}
use Rattle.sg_buffer.specs.Formats.{upgraded}
use Rattle.sg_buffer.specs.Found.{FindsEntries}
use Rattle.sg_buffer.specs.declared.found.BufferEntries.{BufferEntries}
use Rattle.sg_buffer.proofs.Stored.{news_stored, space_spelled}

-- each is spelled in format 2
all_upgraded : ((kept : Kept) (bytes : List ℕ) → Spells1 kept bytes → length bytes ≤ 2 ^ 30 → Spells2 kept (upgraded bytes)) → ((kept : Kept) (bytes : List ℕ) → Spells2 kept bytes → upgraded bytes ≡ bytes)
    → (entries : List Kept) (payloads : Entries) → AreStoredAs entries payloads → map upgraded payloads ≡ spelled entries
all_upgraded older newer [] [] are = refl
all_upgraded older newer [] (p ∷ ps) are = absurd are
all_upgraded older newer (k ∷ ks) [] are = absurd are
all_upgraded older newer (k ∷ ks) (p ∷ ps) are =
    ap (λ (l : List ℕ). l ∷ map upgraded ps) (⊎_elim (λ two. newer k p two ∙ two.spelled) (λ one. (older k p one.0 one.1).spelled) are.0) ∙ ap (λ (l : Entries). spelling2 k ∷ l) (all_upgraded older newer ks ps are.1)

log_at : (told : Option DiskLog) (f moment : ℕ) (c : List ℕ) → IsImageAt (record { told = told; faults = f }) moment c → (b : List ℕ) × (content (record { told = told; faults = f }) ≡ Some b)
log_at None f moment c left = absurd left
log_at (Some log) f moment c left = (bytes_after log.first log.events, refl)

-- a disk that told its bytes goes on to
told_later : (d0 d1 : DiskState) → Moves d0 d1 → (b : List ℕ) → content d0 ≡ Some b → (d : List ℕ) × (content d1 ≡ Some d)
told_later d0 d1 moves b told = log_at d1.told d1.faults (clock d0) b (moves.kept (clock d0) b (omega arith) (reads_as_image d0 b told))

module _ (d0 : DiskState) (rows : Rows) (found : BufferEntries) (entries : List Kept) (payloads : Entries) (finds : FindsEntries d0 rows found entries) (holds : HoldsAt d0 rows payloads []) where
  stored : (b : List ℕ) → content d0 ≡ Some b → AreStoredAs entries payloads
  stored b told = finds.list b told payloads (holds.images b (reads_as_image d0 b told))

  -- nothing is done
  pub within_same : Within d0 d0 (IsListOf entries)
  within_same = started d0 (IsListOf entries) (λ c left. let b = image_told d0 c left in record { payloads = payloads; list = holds.images c left; stored = stored b.0 b.1 })

  pub holds_same : found.older ≡ false → HoldsAt d0 rows (spelled entries) []
  holds_same e = record {
    images = λ c left. let b = image_told d0 c left in subst (λ (l : Entries). IsList l c) (finds.newer e b.0 b.1 payloads (holds.images b.0 (reads_as_image d0 b.0 b.1))) (holds.images c left);
    number = holds.number;
    waits = λ b told. tt;
  }

  module _ (older : (kept : Kept) (bytes : List ℕ) → Spells1 kept bytes → length bytes ≤ 2 ^ 30 → Spells2 kept (upgraded bytes)) (newer : (kept : Kept) (bytes : List ℕ) → Spells2 kept bytes → upgraded bytes ≡ bytes) (d1 : DiskState) where
    -- while they are spelled anew
    pub within_renewed : Within d0 d1 (IsEitherList payloads (map upgraded payloads)) → Within d0 d1 (IsListOf entries)
    within_renewed so_far = record {
      later = so_far.later;
      past = so_far.past;
      kept = so_far.kept;
      each = λ t c low high left.
          let b = told_at d0 d1 (moves_within so_far) t c left in
          let is = stored b.0 b.1 in
          ⊎_elim (λ old. record { payloads = payloads; list = old; stored = is })
          (λ new. record { payloads = spelled entries; list = subst (λ (l : Entries). IsList l c) (all_upgraded older newer entries payloads is) new; stored = news_stored entries finds.kept })
          (so_far.each t c low high left);
    }

    pub holds_renewed : (after : Rows) → Moves d0 d1 → HoldsAt d1 after (map upgraded payloads) [] → HoldsAt d1 after (spelled entries) []
    holds_renewed after moves new = record {
      images = λ c left. let b = told_at d0 d1 moves (clock d1) c left in subst (λ (l : Entries). IsList l c) (all_upgraded older newer entries payloads (stored b.0 b.1)) (new.images c left);
      number = new.number;
      waits = λ b told. tt;
    }

    -- they take as many bytes as were counted
    pub same_bytes : (after : Rows) (bytes : ℕ) → Moves d0 d1 → HoldsAt d1 after (map upgraded payloads) [] → bytes < 2 ^ 63 → WhereTold (content d1) (λ b. (list : Entries) → IsList list b → bytes ≡ space list) → (b : List ℕ) → content d0 ≡ Some b → bytes ≡ found.size
    same_bytes after bytes moves new small spaces b told =
        let d = told_later d0 d1 moves b told in
        let held = holds_renewed after moves new in
        let n : bytes ≡ space (spelled entries) = spaces d.0 d.1 (spelled entries) (held.images d.0 (reads_as_image d1 d.0 d.1)) in
        let m = finds.size in
        omega (arith, n, m, small, space_spelled entries)
