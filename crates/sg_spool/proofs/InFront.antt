-- An entry at the front of the ring, and a jump to it behind the end of the list.
use Rattle.std.proofs.Common.{◌≡◌, ◌≢◌, ℕ, ◌+◌, ◌≤◌, List, [], ◌∷◌, ◌++◌, length, get_or, refl, sym, ◌∙◌, ap, arith, append_assoc, length-append, Some, None}
use Rattle.std.specs.Int.{from_be_bytes, to_be_bytes, w32}
use Rattle.sg_device.specs.DiskBytes.{part}
use Rattle.sg_device.proofs.Parts.{part_at, part_front, part_back}
use Rattle.sg_stable.specs.declared.cell.Pair.{Pair}
use Rattle.sg_spool.specs.Ring.{size_at, Entries, IsPayload, IsEntry, IsJump, block_of}
use Rattle.sg_spool.specs.Steps.{RingAt}
use Rattle.sg_spool.proofs.Rings.{SameButEnd, size_of, has_cell_same, used_front, buffer_kept, row_kept, run_grows}

module _ (cell : Pair) (head end : ℕ) (es : Entries) (payload : List ℕ) (fits : IsPayload payload) (room : 64 + length payload + 6 ≤ head) (low : 64 ≤ end) where
  abbrev n : ℕ
  n = length payload

  -- the block stands at the front, a jump behind the end, and its gate is open
  module _ (c d : List ℕ) (ring : RingAt cell None head end es c) (longer : length c ≤ length d) (same : SameButEnd None head end c d) (block : part 64 (n + 6) d ≡ 1 ∷ block_of payload) (zeros : part (end + 1) 4 d ≡ 0 ∷ 0 ∷ 0 ∷ 0 ∷ []) (inside : end + 5 ≤ length d) (opened : get_or d end 0 ≢ 0) where
    up : head ≤ end
    up = run_grows c head es end ring.laid.row

    front_d : part 64 (1 + (4 + (n + 1))) d ≡ (1 ∷ []) ++ (to_be_bytes w32 n ++ (payload ++ 0 ∷ []))
    unfolding block_of
    front_d = ap (λ (m : ℕ). part 64 m d) (omega arith) ∙ block ∙ ap (λ (l : List ℕ). 1 ∷ l) (append_assoc (to_be_bytes w32 n) payload (0 ∷ []))

    block_d : part 65 (4 + (n + 1)) d ≡ to_be_bytes w32 n ++ (payload ++ 0 ∷ [])
    block_d = part_back 64 1 (4 + (n + 1)) d (1 ∷ []) (to_be_bytes w32 n ++ (payload ++ 0 ∷ [])) front_d refl (omega (arith, length-append (to_be_bytes w32 n) (payload ++ 0 ∷ []), length-append payload (0 ∷ [])))

    payload_d : part 69 (n + 1) d ≡ payload ++ 0 ∷ []
    payload_d = part_back 65 4 (n + 1) d (to_be_bytes w32 n) (payload ++ 0 ∷ []) block_d refl (length-append payload (0 ∷ []))

    gate_d : get_or d 64 0 ≡ 1
    gate_d = sym (part_at 64 1 d 0 (omega arith)) ∙ ap (λ (l : List ℕ). get_or l 0 0) (part_front 64 1 (4 + (n + 1)) d (1 ∷ []) (to_be_bytes w32 n ++ (payload ++ 0 ∷ [])) front_d refl)

    entry : IsEntry d 64 payload
    entry = record {
      opened = λ shut. let no : 1 ≡ 0 = sym gate_d ∙ shut in omega (arith, no);
      size = size_of 65 n d (let limit = fits.limit in omega (arith, limit)) (part_front 65 4 (n + 1) d (to_be_bytes w32 n) (payload ++ 0 ∷ []) block_d refl);
      fits = fits;
      there = part_front 69 n 1 d payload (0 ∷ []) payload_d refl;
      next = omega (arith, room, up, inside);
    }

    next_d : get_or d (64 + 5 + n) 0 ≡ 0
    next_d = sym (part_at (69 + n) 1 d 0 (omega arith) ∙ ap (λ (k : ℕ). get_or d k 0) (omega arith)) ∙ ap (λ (l : List ℕ). get_or l 0 0) (part_back 69 n 1 d payload (0 ∷ []) payload_d refl refl)

    jump_d : IsJump d end
    unfolding size_at
    jump_d = record { whole = inside; opened = opened; jumps = ap (λ (l : List ℕ). from_be_bytes w32 l) zeros }

    pub opened_front : RingAt cell (Some end) head (64 + 5 + n) (es ++ payload ∷ []) d
    opened_front = record {
      laid = record {
        buffer = buffer_kept None head end es c d ring.laid longer same;
        row = record { first = es; second = payload ∷ []; both = refl; to_jump = row_kept None head end es c d ring.laid longer same; jumps = jump_d; from_front = (entry, refl) };
        ends = record { inside = entry.next; shut = next_d };
        below = omega (arith, room);
      };
      has_cell = has_cell_same cell.selector cell.value c d ring.has_cell longer (λ k lt. same k (used_front None head end k (omega (arith, lt))) (λ (e : k ≡ end). omega (arith, e, lt, low)) (let long = ring.has_cell.size in omega (arith, long, lt)));
    }
