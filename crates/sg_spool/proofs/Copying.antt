-- Copies behind all that a ring uses.
use Rattle.std.proofs.Common.{◌≡◌, inl, inr, ℕ, ◌+◌, ◌-◌, ◌<◌, ◌≤◌, List, [], ◌∷◌, ◌++◌, length, get_or, refl, sym, ◌∙◌, ap, subst, arith, Some, None, Option}
use Rattle.std.proofs.lemmas.Bool.{cases_lt}
use Rattle.std.proofs.lemmas.List.{ext_get_or}
use Rattle.std.specs.Int.{from_be_bytes, w32}
use Rattle.sg_device.specs.DiskBytes.{part, Torn, Written, AreBytesRead}
use Rattle.sg_device.proofs.Parts.{part_at, length-part, read_here, torn_of_written}
use Rattle.sg_spool.specs.Copying.{Beyond, Copies}
use Rattle.sg_spool.specs.Places.{AreGatesOrdered}
use Rattle.sg_spool.specs.Rewriting.{past_end}
use Rattle.sg_spool.specs.Ring.{size_at, Entries, IsEntry, EntryRun, IsLaid}
use Rattle.sg_spool.specs.Steps.{IsPlaceUsed, Spares}
use Rattle.sg_spool.specs.Advancing.{IsRingReady}
use Rattle.sg_spool.proofs.Rings.{run_grows}

pub beyond_refl : (at : ℕ) (c : List ℕ) → Beyond at c c
beyond_refl at c = record { longer = omega arith; same = λ k lt in_c. refl }

pub beyond_trans : (at : ℕ) (a b c : List ℕ) → Beyond at a b → Beyond at b c → Beyond at a c
beyond_trans at a b c one two = record {
  longer = omega (arith, one.longer, two.longer);
  same = λ k lt in_a. two.same k lt (omega (arith, in_a, one.longer)) ∙ one.same k lt in_a;
}

pub beyond_less : (at more : ℕ) (c d : List ℕ) → at ≤ more → Beyond more c d → Beyond at c d
beyond_less at more c d le beyond = record { longer = beyond.longer; same = λ k lt in_c. beyond.same k (omega (arith, lt, le)) in_c }

pub beyond_torn : (at n : ℕ) (c d : List ℕ) → Torn at n c d → Beyond at c d
beyond_torn at n c d torn = record { longer = torn.no_shorter; same = λ k lt in_c. torn.before k (omega arith) (omega (arith, lt, in_c)) }

used_before : (jump : Option ℕ) (head end k : ℕ) → AreGatesOrdered jump head end → IsPlaceUsed jump head end k → k < past_end jump end
used_before None head end k ordered (inl front) = omega (arith, front, ordered.0, ordered.1)
used_before None head end k ordered (inr row) = omega (arith, row.1)
used_before (Some jump) head end k ordered (inl front) = omega (arith, front, ordered.0, ordered.1, ordered.2)
used_before (Some jump) head end k ordered (inr (inl row)) = omega (arith, row, ordered.1, ordered.2)
used_before (Some jump) head end k ordered (inr (inr row)) = omega (arith, row.1)

pub beyond_spares : (jump : Option ℕ) (head end : ℕ) (c d : List ℕ) → AreGatesOrdered jump head end → Beyond (past_end jump end) c d → Spares jump head end c d
beyond_spares jump head end c d ordered beyond = record { longer = beyond.longer; same = λ k used lt. beyond.same k (used_before jump head end k ordered used) lt }

pub copies_none : (source at : ℕ) (c : List ℕ) → Copies source at 0 c c
copies_none source at c = record { beyond = beyond_refl at c; copied = λ in_c near. (omega (arith, near), λ k lt. absurd (omega (arith, lt))) }

-- one piece more
pub copies_more : (source at done count : ℕ) (a b c : List ℕ) → source + done + count ≤ at → Copies source at done a b → Copies (source + done) (at + done) count b c → Copies source at (done + count) a c
copies_more source at done count a b c apart one two = record {
  beyond = beyond_trans at a b c one.beyond (beyond_less at (at + done) b c (omega arith) two.beyond);
  copied = λ in_a near.
      let first = one.copied (omega (arith, in_a)) near in
      let longer = one.beyond.longer in
      let second = two.copied (omega (arith, in_a, longer)) first.0 in (
        omega (arith, second.0),
        λ k lt. elim (cases_lt k done) [
          | inl early ↦ two.beyond.same (at + k) (omega (arith, early)) (omega (arith, early, first.0)) ∙ first.1 k early
          | inr late ↦
              let j : ℕ = k - done in
              ap (λ (i : ℕ). get_or c i 0) (omega (arith, late))
              ∙ second.1 j (omega (arith, late, lt))
              ∙ one.beyond.same (source + done + j) (omega (arith, late, lt, apart)) (omega (arith, late, lt, in_a))
              ∙ ap (λ (i : ℕ). get_or a i 0) (omega (arith, late))
        ],
      );
}

-- a piece that was read and written
pub copies_piece : (source at size count : ℕ) (b c before after : List ℕ) → AreBytesRead source b before after count → length before ≡ size → length after ≡ size → Written at after b c → Copies source at size b c
copies_piece source at size count b c before after r long_before long put = record {
  beyond = beyond_torn at (length after) b c (torn_of_written at after b c put);
  copied = λ in_b near. (
    omega (arith, put.size, long),
    λ k lt.
        sym (part_at at (length after) c k (omega (arith, lt, long)))
        ∙ ap (λ (l : List ℕ). get_or l k 0) put.there
        ∙ read_here source count b before after r k (omega (arith, r.filled, long_before, in_b, lt)),
  );
}

-- what stands at places that moved
part_moved : (at by n : ℕ) (c d : List ℕ) → at + n ≤ length c → at + by + n ≤ length d → ((k : ℕ) → at ≤ k → k < at + n → get_or d (k + by) 0 ≡ get_or c k 0) → part (at + by) n d ≡ part at n c
part_moved at by n c d in_c in_d same =
    ext_get_or 0 (part (at + by) n d) (part at n c) (length-part (at + by) n d in_d ∙ sym (length-part at n c in_c))
    (λ k lt.
    let below : k < n = omega (arith, lt, length-part (at + by) n d in_d) in
    part_at (at + by) n d k below ∙ ap (λ (i : ℕ). get_or d i 0) (omega arith) ∙ same (at + k) (omega arith) (omega (arith, below)) ∙ sym (part_at at n c k below))

size_moved : (at by : ℕ) (c d : List ℕ) → at + 4 ≤ length c → at + by + 4 ≤ length d → ((k : ℕ) → at ≤ k → k < at + 4 → get_or d (k + by) 0 ≡ get_or c k 0) → size_at (at + by) d ≡ size_at at c
unfolding size_at
size_moved at by c d in_c in_d same = ap (λ (l : List ℕ). from_be_bytes w32 l) (part_moved at by 4 c d in_c in_d same)

entry_moved : (k by : ℕ) (p c d : List ℕ) → IsEntry c k p → k + by + 5 + length p < length d → ((j : ℕ) → k ≤ j → j < k + 5 + length p → get_or d (j + by) 0 ≡ get_or c j 0) → IsEntry d (k + by) p
entry_moved k by p c d entry inside same =
    let next = entry.next in
    let some = entry.fits.some in
    record {
      opened = λ shut. entry.opened (sym (same k (omega arith) (omega arith)) ∙ shut);
      size = ap (λ (i : ℕ). size_at i d) (omega arith) ∙ size_moved (k + 1) by c d (omega (arith, next, some)) (omega (arith, inside, some)) (λ j low high. same j (omega (arith, low)) (omega (arith, high, some))) ∙ entry.size;
      fits = entry.fits;
      there = ap (λ (i : ℕ). part i (length p) d) (omega arith) ∙ part_moved (k + 5) by (length p) c d (omega (arith, next)) (omega (arith, inside)) (λ j low high. same j (omega (arith, low)) high) ∙ entry.there;
      next = inside;
    }

pub run_moved : (k by : ℕ) (es : Entries) (e : ℕ) (c d : List ℕ) → EntryRun c k es e → e + by < length d → ((j : ℕ) → k ≤ j → j < e → get_or d (j + by) 0 ≡ get_or c j 0) → EntryRun d (k + by) es (e + by)
run_moved k by [] e c d run inside same = ap (λ (i : ℕ). i + by) run
run_moved k by (p ∷ ps) e c d run inside same =
    let up = run_grows c (k + 5 + length p) ps e run.1 in
    let at : k + 5 + length p + by ≡ k + by + 5 + length p = omega arith in (
      entry_moved k by p c d run.0 (omega (arith, up, inside)) (λ j low high. same j low (omega (arith, high, up))),
      subst (λ (i : ℕ). EntryRun d i ps (e + by)) at (run_moved (k + 5 + length p) by ps e c d run.1 inside (λ j low high. same j (omega (arith, low)) high)),
    )

pub run_append : (k m e : ℕ) (es fs : Entries) (c : List ℕ) → EntryRun c k es m → EntryRun c m fs e → EntryRun c k (es ++ fs) e
run_append k m e [] fs c one two = subst (λ (i : ℕ). EntryRun c i fs e) (sym one) two
run_append k m e (p ∷ ps) fs c one two = (one.0, run_append (k + 5 + length p) m e ps fs c one.1 two)

-- the two parts of a ring, copied behind its jump
module _ (jump head end : ℕ) (es : Entries) (a b c : List ℕ) (ordered : AreGatesOrdered (Some jump) head end) (laid : IsLaid (Some jump) head end es a)
    (one : Copies head (jump + 5) (jump - head) a b) (two : Copies 64 (jump + 5 + (jump - head)) (end - 63) b c) where
  abbrev first : ℕ
  first = jump + 5

  abbrev middle : ℕ
  middle = jump + 5 + (jump - head)

  abbrev last : ℕ
  last = jump + 5 + (jump - head) + (end - 64)

  low : 64 ≤ end
  low = ordered.0

  below : end < head
  below = ordered.1

  up : head ≤ jump
  up = ordered.2

  whole : jump + 5 ≤ length a
  whole = laid.row.jumps.whole

  longer : length a ≤ length b
  longer = one.beyond.longer

  first_copied : (middle ≤ length b) × ((k : ℕ) → k < jump - head → get_or b (first + k) 0 ≡ get_or a (head + k) 0)
  first_copied = let both = one.copied (omega (arith, up, whole)) whole in (omega (arith, both.0), both.1)

  second_copied : (middle + (end - 63) ≤ length c) × ((k : ℕ) → k < end - 63 → get_or c (middle + k) 0 ≡ get_or b (64 + k) 0)
  second_copied = two.copied (omega (arith, below, up, whole, longer, low)) first_copied.0

  in_first : (j : ℕ) → head ≤ j → j < jump → get_or c (j + (first - head)) 0 ≡ get_or a j 0
  in_first j from to =
      let k : ℕ = j - head in
      ap (λ (i : ℕ). get_or c i 0) (omega (arith, from, up))
      ∙ two.beyond.same (first + k) (omega (arith, from, to)) (omega (arith, from, to, first_copied.0))
      ∙ first_copied.1 k (omega (arith, from, to))
      ∙ ap (λ (i : ℕ). get_or a i 0) (omega (arith, from))

  in_second : (j : ℕ) → 64 ≤ j → j ≤ end → get_or c (j + (middle - 64)) 0 ≡ get_or a j 0
  in_second j from to =
      let k : ℕ = j - 64 in
      ap (λ (i : ℕ). get_or c i 0) (omega (arith, from, up))
      ∙ second_copied.1 k (omega (arith, from, to))
      ∙ one.beyond.same (64 + k) (omega (arith, from, to, below, up)) (omega (arith, from, to, below, up, whole))
      ∙ ap (λ (i : ℕ). get_or a i 0) (omega (arith, from))

  in_file : last < length c
  in_file = omega (arith, second_copied.0, low)

  pub gathered : IsRingReady None (jump + 5) (jump + 5 + (jump - head) + (end - 64)) es c
  gathered =
      let row = laid.row in
      let run_one = run_moved head (first - head) row.first jump a c row.to_jump (omega (arith, up, in_file)) in_first in
      let run_two = run_moved 64 (middle - 64) row.second end a c row.from_front (omega (arith, up, low, in_file)) (λ j from to. in_second j from (omega (arith, to))) in
      let one_at : EntryRun c first row.first middle = subst (λ (i : ℕ). EntryRun c i row.first middle) (omega (arith, up)) (subst (λ (i : ℕ). EntryRun c (head + (first - head)) row.first i) (omega (arith, up)) run_one) in
      let two_at : EntryRun c middle row.second last = subst (λ (i : ℕ). EntryRun c i row.second last) (omega (arith, up)) (subst (λ (i : ℕ). EntryRun c (64 + (middle - 64)) row.second i) (omega (arith, up, low)) run_two) in
      record {
        size = omega (arith, laid.buffer.size, longer, two.beyond.longer);
        high = omega (arith, low, below, up);
        low = omega (arith, low, below, up);
        inside = omega (arith, in_file);
        row = subst (λ (l : Entries). EntryRun c first l last) (sym row.both) (run_append first middle last row.first row.second c one_at two_at);
        ends = record { inside = in_file; shut = ap (λ (i : ℕ). get_or c i 0) (omega (arith, low, up)) ∙ in_second end low (omega arith) ∙ laid.ends.shut };
        below = tt;
      }
