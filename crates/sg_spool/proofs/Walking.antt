-- What a read at a gate shows, and where a step leads.
use Rattle.std.proofs.Common.{◌≡◌, ◌≢◌, ◌⊎◌, inl, inr, ℕ, zero, suc, add-zero, ◌+◌, ◌<◌, ◌≤◌, ◌-◌, ◌^◌, min, List, [], ◌∷◌, ◌++◌, length, get_or, refl, sym, ◌∙◌, ap, subst, arith, length-append, Some, None, Option}
use Rattle.std.proofs.lemmas.List.{ext_get_or, append-nil, take_all}
use Rattle.std.specs.Int.{from_be_bytes, w32}
use Rattle.sg_device.specs.DiskBytes.{part, AreBytesRead}
use Rattle.sg_device.proofs.Parts.{length-part, part_at, read_here, read_part}
use Rattle.sg_spool.specs.Ring.{size_at, Entries, IsEntry, EntryRun, IsJump, IsRow, IsWrapped, IsEndBelow}
use Rattle.sg_spool.specs.Opening.{IsReached, IsDamagedWalk}
use Rattle.sg_spool.specs.Walk.{HasEntrySize, IsWalkAt}
use Rattle.sg_spool.specs.declared.walk.GatePlace.{GatePlace}
use Rattle.std.specs.Prelude.{is_some, true, false}
use Rattle.sg_spool.proofs.Rings.{row_push, run_grows}

part_four : (at : ℕ) (c : List ℕ) (k : ℕ) → k < 4 → get_or c (at + k) 0 ≡ get_or (get_or c at 0 ∷ get_or c (at + 1) 0 ∷ get_or c (at + 2) 0 ∷ get_or c (at + 3) 0 ∷ []) k 0
part_four at c zero lt = rw add-zero refl
part_four at c (suc zero) lt = refl
part_four at c (suc (suc zero)) lt = refl
part_four at c (suc (suc (suc zero))) lt = refl
part_four at c (suc (suc (suc (suc k)))) lt = absurd (omega arith)

pub size_bytes : (at : ℕ) (c : List ℕ) → at + 4 ≤ length c → from_be_bytes w32 (get_or c at 0 ∷ get_or c (at + 1) 0 ∷ get_or c (at + 2) 0 ∷ get_or c (at + 3) 0 ∷ []) ≡ size_at at c
unfolding size_at
size_bytes at c le =
    let l = get_or c at 0 ∷ get_or c (at + 1) 0 ∷ get_or c (at + 2) 0 ∷ get_or c (at + 3) 0 ∷ [] in
    let same : part at 4 c ≡ l = ext_get_or 0 (part at 4 c) l (length-part at 4 c le) (λ k lt. let below : k < 4 = omega (arith, length-part at 4 c le) in part_at at 4 c k below ∙ part_four at c k below) in
    ap (λ (l : List ℕ). from_be_bytes w32 l) (sym same)

module _ (gate n : ℕ) (b before after : List ℕ) (r : AreBytesRead gate b before after n) (five : length before ≡ 5) (same_length : length after ≡ 5) (whole : 5 ≤ n) where
  abbrev all : n ≡ 5
  all = omega (arith, r.filled)

  inside : gate + 5 ≤ length b
  inside = omega (arith, r.filled)

  pub size_there : size_at (gate + 1) b ≡ size_at 1 after
  unfolding size_at
  size_there = ap (λ (l : List ℕ). from_be_bytes w32 l) (sym (read_part gate n b before after r 1 4 (omega (arith, whole)) (omega (arith, all)) (omega (arith, all, inside))))

  pub gate_there : get_or b gate 0 ≡ get_or after 0 0
  gate_there = sym (read_here gate n b before after r 0 (omega (arith, whole)) ∙ ap (λ (k : ℕ). get_or b k 0) (omega arith))

  pub jump_there : get_or after 0 0 ≢ 0 → size_at 1 after ≡ 0 → IsJump b gate
  jump_there opened none = record { whole = inside; opened = λ shut. opened (sym gate_there ∙ shut); jumps = size_there ∙ none }

  pub entry_there : (size : ℕ) → get_or after 0 0 ≢ 0 → size_at 1 after ≡ size → 1 ≤ size → size ≤ 2 ^ 30 + 64 → gate + 5 + size < length b → HasEntrySize b gate size
  entry_there size opened is some limit next = record { opened = λ shut. opened (sym gate_there ∙ shut); told = size_there ∙ is; some = some; limit = limit; next = next }

  pub none_there : (size : ℕ) → size_at 1 after ≡ size → 1 ≤ size → (2 ^ 30 + 64 < size) ⊎ (length b ≤ gate + 5 + size) → get_or after 0 0 ≢ 0 → (get_or b gate 0 ≢ 0) × ((payload : List ℕ) → IsEntry b gate payload → ⊥) × (IsJump b gate → ⊥)
  none_there size is some bad opened = (
    λ shut. opened (sym gate_there ∙ shut),
    λ payload entry. let same : length payload ≡ size = sym entry.size ∙ size_there ∙ is in omega (arith, same, bad, entry.fits.limit, entry.next),
    λ jump. let same : 0 ≡ size = sym jump.jumps ∙ size_there ∙ is in omega (arith, same, some),
  )

-- the entry of a whole size
pub entry_of : (b : List ℕ) (gate size : ℕ) → HasEntrySize b gate size → IsEntry b gate (part (gate + 5) size b)
entry_of b gate size has =
    let long = length-part (gate + 5) size b (omega (arith, has.next)) in
    record {
      opened = has.opened;
      size = has.told ∙ sym long;
      fits = record { some = omega (arith, long, has.some); limit = omega (arith, long, has.limit) };
      there = ap (λ (n : ℕ). part (gate + 5) n b) long;
      next = omega (arith, long, has.next);
    }

pub below_of : (jump : Option ℕ) (head next : ℕ) → ((is_some jump ≡ true) × (next < head)) ⊎ (is_some jump ≡ false) → IsEndBelow jump head next
below_of None head next way = tt
below_of (Some j) head next (inl way) = way.1
below_of (Some j) head next (inr none) = absurd (let e = none in cc)

pub reached_of : (jump : Option ℕ) (head gate : ℕ) → IsEndBelow jump head gate → IsReached jump head gate
reached_of None head gate below = tt
reached_of (Some jump) head gate below = inl below

length-push : (es : Entries) (p : List ℕ) → length (es ++ p ∷ []) ≡ length es + 1
length-push es p = omega (arith, length-append es (p ∷ []))

-- an entry more
pub goes_past : (b : List ℕ) (head size count : ℕ) (place : GatePlace) → IsWalkAt b head place → HasEntrySize b place.gate size → IsEndBelow place.jump head (place.gate + 5 + size) → count ≡ min (place.count + 1) (2 ^ 64 - 1) → IsWalkAt b head (record { jump = place.jump; gate = place.gate + 5 + size; count = count })
goes_past b head size count place at has below counted =
    let p = part (place.gate + 5) size b in
    let long = length-part (place.gate + 5) size b (omega (arith, has.next)) in
    let before = at.number in
    record {
      entries = at.entries ++ p ∷ [];
      row = subst (λ (n : ℕ). IsRow place.jump b head (place.gate + 5 + n) (at.entries ++ p ∷ [])) long (row_push place.jump b head place.gate at.entries p at.row (entry_of b place.gate size has));
      below = below;
      reached = reached_of place.jump head (place.gate + 5 + size) below;
      number = omega (arith, counted, before, length-push at.entries p);
    }

-- the jump
pub goes_over : (b : List ℕ) (head : ℕ) (place : GatePlace) → IsWalkAt b head place → IsJump b place.gate → is_some place.jump ≡ false → 64 < head → IsWalkAt b head (record { jump = Some place.gate; gate = 64; count = place.count })
goes_over b head place at jumps none high = record {
  entries = at.entries;
  row = jumped b head place.gate at.entries place.jump none at.row jumps;
  below = high;
  reached = inr refl;
  number = at.number;
}
  where
    jumped : (b : List ℕ) (head gate : ℕ) (es : Entries) (jump : Option ℕ) → is_some jump ≡ false → IsRow jump b head gate es → IsJump b gate → IsWrapped b head gate 64 es
    jumped b head gate es (Some j) none row jumps = absurd (let e = none in cc)
    jumped b head gate es None none row jumps = record { first = es; second = []; both = sym (append-nil es); to_jump = row; jumps = jumps; from_front = refl }

first_open : (b : List ℕ) (es : Entries) (head gate : ℕ) → EntryRun b head es gate → get_or b gate 0 ≢ 0 → get_or b head 0 ≢ 0
first_open b [] head gate run opened = subst (λ (k : ℕ). get_or b k 0 ≢ 0) (sym run) opened
first_open b (e ∷ es) head gate run opened = run.0.opened

-- a jump to the head itself
pub jumps_to_head : (b : List ℕ) (jump : Option ℕ) (gate : ℕ) (es : Entries) → is_some jump ≡ false → IsRow jump b 64 gate es → IsJump b gate → IsDamagedWalk 64 64 b
jumps_to_head b (Some j) gate es none row jumps = absurd (let e = none in cc)
jumps_to_head b None gate es none row jumps = record {
  jump = Some gate;
  entries = es;
  row = record { first = es; second = []; both = sym (append-nil es); to_jump = row; jumps = jumps; from_front = refl };
  reached = inr refl;
  bad = record {
    inside = omega (arith, jumps.whole, run_grows b 64 es gate row);
    opened = first_open b es 64 gate row jumps.opened;
    no_entry = λ payload entry below. omega (arith, below);
    no_jump = λ is jump. absurd (let e = is in cc);
  };
}

-- the length that a read at an entry's gate shows
pub read_at_gate : (gate n : ℕ) (b before after : List ℕ) → AreBytesRead gate b before after n → length before ≡ 5 → length after ≡ 5 → (p : List ℕ) → IsEntry b gate p → size_at 1 after ≡ length p
read_at_gate gate n b before after r five same p entry =
    sym (size_there gate n b before after r five same (omega (arith, r.filled, five, entry.next, entry.fits.some))) ∙ entry.size

-- the payload that a read behind an entry's length gives
pub payload_there : (gate at count : ℕ) (b before after p : List ℕ) → IsEntry b gate p → at ≡ gate + 5 → length before ≡ length p → length after ≡ length before → AreBytesRead at b before after count → after ≡ p
payload_there gate at count b before after p entry is long same r =
    let all : count ≡ length p = omega (arith, r.filled, is, long, entry.next) in
    sym (take_all count after (omega (arith, all, long, same))) ∙ r.front ∙ (λ i. part (is i) (all i) b) ∙ entry.there
