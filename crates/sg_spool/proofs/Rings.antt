-- What writes outside a ring leave of it.
use Rattle.std.proofs.Common.{◌≡◌, ◌⊎◌, inl, inr, ℕ, ◌+◌, ◌<◌, ◌≤◌, ◌^◌, List, [], ◌∷◌, ◌++◌, length, get_or, refl, sym, ◌∙◌, ap, subst, arith, append_assoc, Some, None, Option}
use Rattle.std.proofs.lemmas.Bool.{cases_eq, cases_lt}
use Rattle.std.proofs.lemmas.Nat.{from_be_bytes-to_be_bytes_4}
use Rattle.std.specs.Int.{from_be_bytes, to_be_bytes, w32}
use Rattle.sg_device.specs.DiskBytes.{part, SameIn, Torn}
use Rattle.sg_device.proofs.Parts.{part_same, torn_elsewhere}
use Rattle.sg_stable.specs.Cell.{HasCell}
use Rattle.sg_stable.specs.declared.cell.Pair.{Pair}
use Rattle.sg_stable.proofs.Cells.{cell_same, has_cell_same as cell_stays}
use Rattle.sg_spool.specs.Places.{HasRoom, bytes_between}
use Rattle.sg_spool.specs.Ring.{size_at, Entries, space, IsEntry, EntryRun, IsBufferFile, IsRow, IsEndBelow, IsLaid, IsList}
use Rattle.sg_spool.specs.Steps.{RingAt, IsPlaceUsed, Spares}

pub size_same : (at : ℕ) (c d : List ℕ) → at + 4 ≤ length c → at + 4 ≤ length d → SameIn at (at + 4) c d → size_at at d ≡ size_at at c
unfolding size_at
size_same at c d in_c in_d same = ap (λ (l : List ℕ). from_be_bytes w32 l) (part_same at 4 c d in_c in_d same)

pub size_of : (at v : ℕ) (c : List ℕ) → v < 2 ^ 32 → part at 4 c ≡ to_be_bytes w32 v → size_at at c ≡ v
unfolding size_at
size_of at v c fits is = ap (λ (l : List ℕ). from_be_bytes w32 l) is ∙ from_be_bytes-to_be_bytes_4 v fits

-- a row goes up, by the space of its entries
pub run_space : (c : List ℕ) (k : ℕ) (es : Entries) (e : ℕ) → EntryRun c k es e → e ≡ k + space es
run_space c k [] e run = omega (arith, run)
run_space c k (p ∷ ps) e run = omega (arith, run_space c (k + 5 + length p) ps e run.1)

pub run_grows : (c : List ℕ) (k : ℕ) (es : Entries) (e : ℕ) → EntryRun c k es e → k ≤ e
run_grows c k es e run = omega (arith, run_space c k es e run)

pub space-append : (es fs : Entries) → space (es ++ fs) ≡ space es + space fs
space-append [] fs = omega arith
space-append (p ∷ ps) fs = omega (arith, space-append ps fs)

pub length_space : (es : Entries) → length es ≤ space es
length_space [] = omega arith
length_space (p ∷ ps) = omega (arith, length_space ps)

entry_same : (c d : List ℕ) (k : ℕ) (p : List ℕ) → IsEntry c k p → SameIn k (k + 5 + length p) c d → length c ≤ length d → IsEntry d k p
entry_same c d k p entry same longer = record {
  opened = λ shut. entry.opened (sym (same k (omega arith) (omega arith)) ∙ shut);
  size = size_same (k + 1) c d (omega (arith, entry.next, entry.fits.some)) (omega (arith, entry.next, longer, entry.fits.some)) (λ j low high. same j (omega (arith, low)) (omega (arith, high, entry.fits.some))) ∙ entry.size;
  fits = entry.fits;
  there = part_same (k + 5) (length p) c d (omega (arith, entry.next)) (omega (arith, entry.next, longer)) (λ j low high. same j (omega (arith, low)) high) ∙ entry.there;
  next = omega (arith, entry.next, longer);
}

-- a row stands where its bytes do
pub run_same : (c d : List ℕ) (k : ℕ) (es : Entries) (e : ℕ) → EntryRun c k es e → SameIn k e c d → length c ≤ length d → EntryRun d k es e
run_same c d k [] e run same longer = run
run_same c d k (p ∷ ps) e run same longer =
    let up = run_grows c (k + 5 + length p) ps e run.1 in (
      entry_same c d k p run.0 (λ j low high. same j low (omega (arith, high, up))) longer,
      run_same c d (k + 5 + length p) ps e run.1 (λ j low high. same j (omega (arith, low)) high) longer,
    )

-- one entry more
pub run_push : (c : List ℕ) (k : ℕ) (es : Entries) (e : ℕ) (p : List ℕ) → EntryRun c k es e → IsEntry c e p → EntryRun c k (es ++ p ∷ []) (e + 5 + length p)
run_push c k [] e p run entry = let same : k ≡ e = run in (subst (λ (j : ℕ). IsEntry c j p) (sym same) entry, ap (λ (j : ℕ). j + 5 + length p) same)
run_push c k (q ∷ qs) e p run entry = (run.0, run_push c (k + 5 + length q) qs e p run.1 entry)

-- the front of the file, where the first 64 bytes stay
pub buffer_same : (c d : List ℕ) (head : ℕ) → IsBufferFile c head → SameIn 0 64 c d → length c ≤ length d → IsBufferFile d head
buffer_same c d head buffer same longer = record {
  size = omega (arith, buffer.size, longer);
  zeros = λ k lt out. same k (omega arith) lt ∙ buffer.zeros k lt out;
  at_head = ap (λ (v : ℕ). 64 + v) (cell_same c d (omega (arith, buffer.size)) (omega (arith, buffer.size, longer)) (λ k low high. same k low (omega (arith, high)))) ∙ buffer.at_head;
  inside = omega (arith, buffer.inside, longer);
}

pub head_above : (c : List ℕ) (head : ℕ) → IsBufferFile c head → 64 ≤ head
head_above c head buffer = omega (arith, buffer.at_head)

pub end_above : (jump : Option ℕ) (c : List ℕ) (head end : ℕ) (es : Entries) → IsBufferFile c head → IsRow jump c head end es → 64 ≤ end
end_above None c head end es buffer row = omega (arith, head_above c head buffer, run_grows c head es end row)
end_above (Some jump) c head end es buffer row = run_grows c 64 row.second end row.from_front

pub used_front : (jump : Option ℕ) (head end k : ℕ) → k < 64 → IsPlaceUsed jump head end k
used_front None head end k lt = inl lt
used_front (Some jump) head end k lt = inl lt

-- All that a ring uses but its last gate.
abbrev pub SameButEnd : Option ℕ → ℕ → ℕ → List ℕ → List ℕ → Type 0
SameButEnd jump head end c d = (k : ℕ) → IsPlaceUsed jump head end k → (k ≡ end → ⊥) → k < length c → get_or d k 0 ≡ get_or c k 0

pub buffer_kept : (jump : Option ℕ) (head end : ℕ) (es : Entries) (c d : List ℕ) → IsLaid jump head end es c → length c ≤ length d → SameButEnd jump head end c d → IsBufferFile d head
buffer_kept jump head end es c d laid longer same =
    let low = end_above jump c head end es laid.buffer laid.row in
    let size = laid.buffer.size in
    buffer_same c d head laid.buffer (λ k from to. same k (used_front jump head end k to) (λ (e : k ≡ end). omega (arith, e, to, low)) (omega (arith, to, size))) longer

pub row_kept : (jump : Option ℕ) (head end : ℕ) (es : Entries) (c d : List ℕ) → IsLaid jump head end es c → length c ≤ length d → SameButEnd jump head end c d → IsRow jump d head end es
row_kept None head end es c d laid longer same =
    let inside = laid.ends.inside in
    run_same c d head es end laid.row (λ k low high. same k (inr (low, omega (arith, high))) (λ (e : k ≡ end). omega (arith, e, high)) (omega (arith, high, inside))) longer
row_kept (Some jump) head end es c d laid longer same =
    let row = laid.row in
    let in_c = row.jumps.whole in
    let below = laid.below in
    let up = run_grows c head row.first jump row.to_jump in
    let inside = laid.ends.inside in
    let there : (k : ℕ) → head ≤ k → k < jump + 5 → get_or d k 0 ≡ get_or c k 0 = λ k low high. same k (inr (inr (low, high))) (λ (e : k ≡ end). omega (arith, e, low, below)) (omega (arith, high, in_c)) in
    record {
      first = row.first;
      second = row.second;
      both = row.both;
      to_jump = run_same c d head row.first jump row.to_jump (λ k low high. there k low (omega (arith, high))) longer;
      jumps = record {
        whole = omega (arith, in_c, longer);
        opened = λ shut. row.jumps.opened (sym (there jump up (omega arith)) ∙ shut);
        jumps = size_same (jump + 1) c d (omega (arith, in_c)) (omega (arith, in_c, longer)) (λ k low high. there k (omega (arith, up, low)) (omega (arith, high))) ∙ row.jumps.jumps;
      };
      from_front = run_same c d 64 row.second end row.from_front (λ k low high. same k (inr (inl (omega (arith, high)))) (λ (e : k ≡ end). omega (arith, e, high)) (omega (arith, high, inside))) longer;
    }

end_used : (jump : Option ℕ) (head end : ℕ) (es : Entries) (c : List ℕ) → IsLaid jump head end es c → IsPlaceUsed jump head end end
end_used None head end es c laid = inr (run_grows c head es end laid.row, omega arith)
end_used (Some jump) head end es c laid = inr (inl (omega arith))

pub laid_spared : (jump : Option ℕ) (head end : ℕ) (es : Entries) (c d : List ℕ) → IsLaid jump head end es c → Spares jump head end c d → IsLaid jump head end es d
laid_spared jump head end es c d laid spares =
    let longer = spares.longer in
    let inside = laid.ends.inside in
    record {
      buffer = buffer_kept jump head end es c d laid longer (λ k used other lt. spares.same k used lt);
      row = row_kept jump head end es c d laid longer (λ k used other lt. spares.same k used lt);
      ends = record { inside = omega (arith, inside, longer); shut = spares.same end (end_used jump head end es c laid) inside ∙ laid.ends.shut };
      below = laid.below;
    }

-- the cell, where the first 40 bytes stay
pub has_cell_same : (s v : ℕ) (c d : List ℕ) → HasCell s v c → length c ≤ length d → ((k : ℕ) → k < 40 → get_or d k 0 ≡ get_or c k 0) → HasCell s v d
has_cell_same s v c d cell longer same = cell_stays s v c d cell (omega (arith, cell.size, longer)) same

module _ (cell : Pair) (jump : Option ℕ) (head end : ℕ) (es : Entries) where
  pub ring_spared : (c d : List ℕ) → RingAt cell jump head end es c → Spares jump head end c d → RingAt cell jump head end es d
  ring_spared c d ring spares = record {
    laid = laid_spared jump head end es c d ring.laid spares;
    has_cell = has_cell_same cell.selector cell.value c d ring.has_cell spares.longer (λ k lt. spares.same k (used_front jump head end k (omega (arith, lt))) (omega (arith, lt, ring.has_cell.size)));
  }

  pub ring_low : (c : List ℕ) → RingAt cell jump head end es c → 64 ≤ end
  ring_low c ring = end_above jump c head end es ring.laid.buffer ring.laid.row

  pub list_of : (c : List ℕ) → RingAt cell jump head end es c → IsList es c
  list_of c ring = record { jump = jump; head = head; end = end; laid = ring.laid }

  -- a torn write of the last gate that leaves it closed
  pub shut_spares : (c d : List ℕ) → RingAt cell jump head end es c → Torn end 1 c d → get_or d end 0 ≡ 0 → Spares jump head end c d
  shut_spares c d ring torn shut =
      let fits : end + 1 ≤ length c = omega (arith, ring.laid.ends.inside) in
      let closed = ring.laid.ends.shut in
      record {
        longer = torn.no_shorter;
        same = λ k used lt. elim (cases_eq k end) [
          | inl is ↦ ap (λ (j : ℕ). get_or d j 0) is ∙ shut ∙ sym (ap (λ (j : ℕ). get_or c j 0) is ∙ closed)
          | inr other ↦ torn_elsewhere end 1 c d fits torn k (elim (cases_lt k end) [ inl low ↦ inl low | inr high ↦ inr (omega (arith, high, other)) ])
        ];
      }

pub spares_refl : (jump : Option ℕ) (head end : ℕ) (c : List ℕ) → Spares jump head end c c
spares_refl jump head end c = record { longer = omega arith; same = λ k used lt. refl }

pub spares_trans : (jump : Option ℕ) (head end : ℕ) (a b c : List ℕ) → Spares jump head end a b → Spares jump head end b c → Spares jump head end a c
spares_trans jump head end a b c one two = record {
  longer = omega (arith, one.longer, two.longer);
  same = λ k used lt. two.same k used (omega (arith, lt, one.longer)) ∙ one.same k used lt;
}

-- a torn write outside what the ring uses
pub spares_torn : (jump : Option ℕ) (head end at n : ℕ) (c d : List ℕ) → ((k : ℕ) → IsPlaceUsed jump head end k → (k < at) ⊎ (at + n ≤ k)) → Torn at n c d → Spares jump head end c d
spares_torn jump head end at n c d away torn = record {
  longer = torn.no_shorter;
  same = λ k used lt. elim (away k used) [
    | inl below ↦ torn.before k (omega arith) (omega (arith, below, lt))
    | inr above ↦ torn.after k above lt
  ];
}

-- a block behind the end, in the room that is there
pub behind_away : (jump : Option ℕ) (head end n : ℕ) → 64 ≤ end → HasRoom jump head end n → (k : ℕ) → IsPlaceUsed jump head end k → (k < end + 1) ⊎ (end + 1 + (n + 5) ≤ k)
behind_away None head end n low room k (inl front) = inl (omega (arith, front, low))
behind_away None head end n low room k (inr row) = inl (omega (arith, row.1))
behind_away (Some jump) head end n low room k (inl front) = inl (omega (arith, front, low))
behind_away (Some jump) head end n low room k (inr (inl row)) = inl (omega (arith, row))
behind_away (Some jump) head end n low room k (inr (inr row)) = inr (omega (arith, row.0, room))

-- a block at the front, below the head
pub front_away : (head end n : ℕ) → 64 + n + 6 ≤ head → (k : ℕ) → IsPlaceUsed None head end k → (k < 64) ⊎ (64 + (n + 6) ≤ k)
front_away head end n room k (inl front) = inl front
front_away head end n room k (inr row) = inr (omega (arith, row.0, room))

-- a jump's length behind the end
pub length_away : (head end : ℕ) → 64 ≤ end → (k : ℕ) → IsPlaceUsed None head end k → (k < end + 1) ⊎ (end + 1 + 4 ≤ k)
length_away head end low k (inl front) = inl (omega (arith, front, low))
length_away head end low k (inr row) = inl (omega (arith, row.1))

-- the places tell the space of the entries
pub row_between : (jump : Option ℕ) (c : List ℕ) (head end : ℕ) (es : Entries) → IsRow jump c head end es → bytes_between jump head end ≡ space es
row_between None c head end es row = omega (arith, run_space c head es end row)
row_between (Some jump) c head end es row =
    let one = run_space c head row.first jump row.to_jump in
    let two = run_space c 64 row.second end row.from_front in
    let both : space es ≡ space row.first + space row.second = ap space row.both ∙ space-append row.first row.second in
    omega (arith, one, two, both)

pub row_push : (jump : Option ℕ) (d : List ℕ) (head end : ℕ) (es : Entries) (p : List ℕ) → IsRow jump d head end es → IsEntry d end p → IsRow jump d head (end + 5 + length p) (es ++ p ∷ [])
row_push None d head end es p row entry = run_push d head es end p row entry
row_push (Some jump) d head end es p row entry = record {
  first = row.first;
  second = row.second ++ p ∷ [];
  both = ap (λ (l : Entries). l ++ p ∷ []) row.both ∙ append_assoc row.first row.second (p ∷ []);
  to_jump = row.to_jump;
  jumps = row.jumps;
  from_front = run_push d 64 row.second end p row.from_front entry;
}

pub below_room : (jump : Option ℕ) (head end n : ℕ) → HasRoom jump head end n → IsEndBelow jump head (end + 5 + n)
below_room None head end n room = tt
below_room (Some jump) head end n room = omega (arith, room)
