-- An entry behind the end of the list.
use Rattle.std.proofs.Common.{◌≡◌, ◌≢◌, ℕ, ◌+◌, ◌≤◌, List, [], ◌∷◌, ◌++◌, length, get_or, refl, sym, ◌∙◌, ap, subst, arith, append_assoc, length-append, length-take, length-drop, take, drop, ◌-◌, Option}
use Rattle.std.proofs.lemmas.List.{take_all}
use Rattle.std.specs.Int.{to_be_bytes, w32}
use Rattle.sg_device.specs.DiskBytes.{part}
use Rattle.sg_device.proofs.Parts.{part_at, part_front, part_back}
use Rattle.sg_stable.specs.declared.cell.Pair.{Pair}
use Rattle.sg_spool.specs.Places.{HasRoom}
use Rattle.sg_spool.specs.Ring.{Entries, IsPayload, IsEntry, block_of, payload_of}
use Rattle.sg_spool.specs.Steps.{RingAt}
use Rattle.sg_spool.proofs.Rings.{SameButEnd, size_of, has_cell_same, used_front, buffer_kept, row_kept, row_push, below_room}

pub length-block : (payload : List ℕ) → length (block_of payload) ≡ length payload + 5
unfolding block_of
length-block payload = omega (arith, length-append (to_be_bytes w32 (length payload) ++ payload) (0 ∷ []), length-append (to_be_bytes w32 (length payload)) payload)

module _ (cell : Pair) (jump : Option ℕ) (head end : ℕ) (es : Entries) (payload : List ℕ) (fits : IsPayload payload) (room : HasRoom jump head end (length payload)) (low : 64 ≤ end) where
  abbrev n : ℕ
  n = length payload

  -- the block stands behind the end, and its gate is open
  module _ (c d : List ℕ) (ring : RingAt cell jump head end es c) (longer : length c ≤ length d) (same : SameButEnd jump head end c d) (block : part (end + 1) (n + 5) d ≡ block_of payload) (inside : end + 1 + (n + 5) ≤ length d) (opened : get_or d end 0 ≢ 0) where
    block_d : part (end + 1) (4 + (n + 1)) d ≡ to_be_bytes w32 n ++ (payload ++ 0 ∷ [])
    unfolding block_of
    block_d = ap (λ (m : ℕ). part (end + 1) m d) (omega arith) ∙ block ∙ append_assoc (to_be_bytes w32 n) payload (0 ∷ [])

    behind : part (end + 1 + 4) (n + 1) d ≡ payload ++ 0 ∷ []
    behind = part_back (end + 1) 4 (n + 1) d (to_be_bytes w32 n) (payload ++ 0 ∷ []) block_d refl (length-append payload (0 ∷ []))

    payload_d : part (end + 5) n d ≡ payload
    payload_d = ap (λ (m : ℕ). part m n d) (omega arith) ∙ part_front (end + 1 + 4) n 1 d payload (0 ∷ []) behind refl

    next_d : get_or d (end + 5 + n) 0 ≡ 0
    next_d =
        let last = part_back (end + 1 + 4) n 1 d payload (0 ∷ []) behind refl refl in
        ap (λ (k : ℕ). get_or d k 0) (omega arith) ∙ sym (part_at (end + 1 + 4 + n) 1 d 0 (omega arith)) ∙ ap (λ (l : List ℕ). get_or l 0 0) last

    entry : IsEntry d end payload
    entry = record {
      opened = opened;
      size = size_of (end + 1) n d (let limit = fits.limit in omega (arith, limit)) (part_front (end + 1) 4 (n + 1) d (to_be_bytes w32 n) (payload ++ 0 ∷ []) block_d refl);
      fits = fits;
      there = payload_d;
      next = omega (arith, inside);
    }

    pub opened_behind : RingAt cell jump head (end + 5 + n) (es ++ payload ∷ []) d
    opened_behind = record {
      laid = record {
        buffer = buffer_kept jump head end es c d ring.laid longer same;
        row = row_push jump d head end es payload (row_kept jump head end es c d ring.laid longer same) entry;
        ends = record { inside = omega (arith, inside); shut = next_d };
        below = below_room jump head end n room;
      };
      has_cell = has_cell_same cell.selector cell.value c d ring.has_cell longer (λ k lt. same k (used_front jump head end k (omega (arith, lt))) (λ (e : k ≡ end). omega (arith, e, lt, low)) (let long = ring.has_cell.size in omega (arith, long, lt)));
    }

pub length_front : (payload : List ℕ) → length (1 ∷ block_of payload) ≡ length payload + 6
length_front payload = omega (arith, length-block payload)

-- a block without its first gate
pub tail_is : (block payload : List ℕ) → block ≡ 1 ∷ block_of payload → take (length block - 1) (drop 1 block) ≡ block_of payload
tail_is block payload is = subst (λ (l : List ℕ). take (length l - 1) (drop 1 l) ≡ block_of payload) (sym is) (take_all (length (1 ∷ block_of payload) - 1) (block_of payload) (omega arith))

pub tail_fits : (end most : ℕ) (block : List ℕ) → 1 ≤ length block → end + length block ≤ most → end + 1 + length (take (length block - 1) (drop 1 block)) ≤ most
tail_fits end most block some fits = omega (arith, some, fits, length-take (length block - 1) (drop 1 block), length-drop 1 block)

block_payload : (payload : List ℕ) → part 5 (length payload) (1 ∷ block_of payload) ≡ payload
unfolding block_of
block_payload payload =
    let front = to_be_bytes w32 (length payload) in
    let whole : part 0 (5 + (length payload + 1)) (1 ∷ (front ++ (payload ++ 0 ∷ []))) ≡ (1 ∷ front) ++ (payload ++ 0 ∷ []) = take_all (5 + (length payload + 1)) (1 ∷ (front ++ (payload ++ 0 ∷ []))) (omega (arith, length-append front (payload ++ 0 ∷ []), length-append payload (0 ∷ []))) in
    let back : part 5 (length payload + 1) (1 ∷ (front ++ (payload ++ 0 ∷ []))) ≡ payload ++ 0 ∷ [] = part_back 0 5 (length payload + 1) (1 ∷ (front ++ (payload ++ 0 ∷ []))) (1 ∷ front) (payload ++ 0 ∷ []) whole refl (length-append payload (0 ∷ [])) in
    ap (λ (l : List ℕ). part 5 (length payload) (1 ∷ l)) (append_assoc front payload (0 ∷ []))
    ∙ part_front 5 (length payload) 1 (1 ∷ (front ++ (payload ++ 0 ∷ []))) payload (0 ∷ []) back refl

-- the payload of its block
pub payload_back : (bytes payload : List ℕ) → bytes ≡ 1 ∷ block_of payload → payload_of bytes ≡ payload
payload_back bytes payload is =
    let long : length bytes ≡ length payload + 6 = ap length is ∙ length_front payload in
    ap (λ (m : ℕ). part 5 m bytes) (omega (arith, long)) ∙ ap (λ (l : List ℕ). part 5 (length payload) l) is ∙ block_payload payload
