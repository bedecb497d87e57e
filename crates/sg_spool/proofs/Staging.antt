-- What is staged behind a list, write by write.
use Rattle.std.proofs.Common.{◌≡◌, ◌⊎◌, inl, inr, ⊎_elim, ℕ, zero, suc, ◌+◌, ◌-◌, ◌<◌, ◌≤◌, List, [], ◌∷◌, ◌++◌, length, get_or, take, drop, length-drop, refl, sym, ◌∙◌, ap, subst, arith, append_assoc, Some, None, Option}
use Rattle.std.specs.Prelude.{◌==◌, Bool, true, false}
use Rattle.std.proofs.lemmas.Bool.{cases_eq, cases_lt}
use Rattle.std.proofs.lemmas.Bool.Decides.{nat_tests}
use Rattle.std.proofs.lemmas.List.{take_all}
use Rattle.sg_device.specs.DiskBytes.{part, overwritten, Torn, Written}
use Rattle.sg_device.proofs.Parts.{part_at, part_same, part_back, torn_length, torn_elsewhere, torn_of_written, written_by}
use Rattle.sg_stable.specs.declared.cell.Pair.{Pair}
use Rattle.sg_spool.specs.Places.{AreGatesOrdered, HasRoom}
use Rattle.sg_spool.specs.Ring.{Entries, IsPayload, block_of}
use Rattle.sg_spool.specs.Rows.{IsPast, AreStagedAhead}
use Rattle.sg_spool.specs.Staging.{StagedAt, IsStaged, Lays, LaysTorn}
use Rattle.sg_spool.specs.Steps.{RingAt, IsPlaceUsed, Spares, FileGrows}
use Rattle.sg_spool.specs.declared.places.Places.{Places}
use Rattle.sg_spool.proofs.Behind.{length-block, length_front, opened_behind}
use Rattle.sg_spool.proofs.InFront.{opened_front}
use Rattle.sg_spool.proofs.Rings.{ring_spared, spares_torn, spares_trans, behind_away, front_away, length_away, run_grows}

pub is_zero : (n : ℕ) → (n == 0) ≡ true → n ≡ 0
is_zero n is = grind (arith, nat_tests)

pub is_more : (n : ℕ) → (n == 0) ≡ false → n ≡ 0 → ⊥
is_more n is none = grind (arith, nat_tests)

pub ahead_none : (n : ℕ) (list ahead : Places) → n ≡ 0 → AreStagedAhead n list ahead → ahead ≡ list
ahead_none zero list ahead none is = is
ahead_none (suc n) list ahead none is = absurd (omega (arith, none))

pub ahead_more : (n : ℕ) (list ahead : Places) → (n ≡ 0 → ⊥) → AreStagedAhead n list ahead → (ahead.head ≡ list.head) × IsPast list.jump list.end ahead.jump ahead.end
ahead_more zero list ahead some is = absurd (some refl)
ahead_more (suc n) list ahead some is = is

pub end_in : (jump : Option ℕ) (head end : ℕ) → AreGatesOrdered jump head end → IsPlaceUsed jump head end end
end_in None head end ordered = inr (ordered.1, omega arith)
end_in (Some jump) head end ordered = inr (inl (omega arith))

-- what the list uses is used ahead, and isn't the last gate there
pub inner_of : (jump : Option ℕ) (head end : ℕ) (longer : Option ℕ) (first last : ℕ) → AreGatesOrdered jump head end → AreGatesOrdered longer first last → first ≡ head → IsPast jump end longer last → (k : ℕ) → IsPlaceUsed jump head end k → IsPlaceUsed longer first last k × (k ≡ last → ⊥)
inner_of None head end None first last one two same past k (inl front) = (inl front, λ is. omega (arith, front, is, two.0, two.1))
inner_of None head end None first last one two same past k (inr row) = (inr (omega (arith, row.0, same), omega (arith, row.1, past)), λ is. omega (arith, row.1, is, past))
inner_of None head end (Some j) first last one two same past k (inl front) = (inl front, λ is. omega (arith, front, is, two.0))
inner_of None head end (Some j) first last one two same past k (inr row) = (inr (inr (omega (arith, row.0, same), omega (arith, row.1, past))), λ is. omega (arith, row.0, same, is, two.1))
inner_of (Some i) head end None first last one two same past k used = absurd past
inner_of (Some i) head end (Some j) first last one two same past k (inl front) = (inl front, λ is. omega (arith, front, is, two.0))
inner_of (Some i) head end (Some j) first last one two same past k (inr (inl row)) = (inr (inl (omega (arith, row, past.1))), λ is. omega (arith, row, is, past.1))
inner_of (Some i) head end (Some j) first last one two same past k (inr (inr row)) = (inr (inr (omega (arith, row.0, same), omega (arith, row.1, past.0))), λ is. omega (arith, row.0, same, is, two.1))

pub low_end : (jump : Option ℕ) (head end : ℕ) → AreGatesOrdered jump head end → 64 ≤ end
low_end None head end ordered = omega (arith, ordered.0, ordered.1)
low_end (Some jump) head end ordered = ordered.0

-- a gate that one write changed
module _ (gate : ℕ) (c d : List ℕ) (fits : gate + 1 ≤ length c) (torn : Torn gate 1 c d) where
  pub gate_long : length d ≡ length c
  gate_long = torn_length gate 1 c d fits torn

  pub gate_keeps : (k : ℕ) → (k ≡ gate → ⊥) → get_or d k 0 ≡ get_or c k 0
  gate_keeps k other = torn_elsewhere gate 1 c d fits torn k (elim (cases_lt k gate) [ inl low ↦ inl low | inr high ↦ inr (omega (arith, high, other)) ])

-- the same bytes with this byte for the gate
abbrev pub with_gate : ℕ → ℕ → List ℕ → List ℕ
with_gate gate x c = overwritten gate (x ∷ []) c

pub with_gate_torn : (gate x : ℕ) (c : List ℕ) → Torn gate 1 c (with_gate gate x c)
with_gate_torn gate x c = torn_of_written gate (x ∷ []) c (with_gate gate x c) (written_by gate (x ∷ []) c)

pub with_gate_is : (gate x : ℕ) (c : List ℕ) → get_or (with_gate gate x c) gate 0 ≡ x
with_gate_is gate x c =
    let put = written_by gate (x ∷ []) c in
    ap (λ (k : ℕ). get_or (with_gate gate x c) k 0) (omega arith) ∙ sym (part_at gate 1 (with_gate gate x c) 0 (omega arith)) ∙ ap (λ (l : List ℕ). get_or l 0 0) put.there

-- the bytes behind the first that was written
tail_there : (gate m : ℕ) (x : ℕ) (xs d : List ℕ) → length xs ≡ m → part gate (length (x ∷ xs)) d ≡ x ∷ xs → part (gate + 1) m d ≡ xs
tail_there gate m x xs d long there = part_back gate 1 m d (x ∷ []) xs (let same : 1 + m ≡ length (x ∷ xs) = omega (arith, long) in ap (λ (n : ℕ). part gate n d) same ∙ there) refl long

first_there : (gate x : ℕ) (xs d : List ℕ) → part gate (length (x ∷ xs)) d ≡ x ∷ xs → get_or d gate 0 ≡ x
first_there gate x xs d there = ap (λ (k : ℕ). get_or d k 0) (omega arith) ∙ sym (part_at gate (length (x ∷ xs)) d 0 (omega arith)) ∙ ap (λ (l : List ℕ). get_or l 0 0) there

abbrev pub jump_size : List ℕ
jump_size = 0 ∷ 0 ∷ 0 ∷ 0 ∷ []

-- the first payload
module _ (cell : Pair) (jump : Option ℕ) (head end : ℕ) (es : Entries) (payload : List ℕ) (fits : IsPayload payload) (low : 64 ≤ end) where
  abbrev n : ℕ
  n = length payload

  -- behind the list's end
  pub behind_first : HasRoom jump head end n → (c d : List ℕ) → RingAt cell jump head end es c → Written (end + 1) (block_of payload) c d → StagedAt cell jump head end jump head (end + 5 + n) es (payload ∷ []) d
  behind_first room c d ring put =
      let torn = torn_of_written (end + 1) (block_of payload) c d put in
      let long = length-block payload in
      let spares = spares_torn jump head end (end + 1) (n + 5) c d (behind_away jump head end n low room) (subst (λ (m : ℕ). Torn (end + 1) m c d) long torn) in
      let size = put.size in
      record {
        ring = ring_spared cell jump head end es c d ring spares;
        opens = λ new gate opened.
            let in_d : end + 1 ≤ length d = omega (arith, size, long) in
            let same = gate_long end d new in_d gate in
            opened_behind cell jump head end es payload fits room low c new ring (omega (arith, spares.longer, same))
            (λ k used other lt. gate_keeps end d new in_d gate k other ∙ spares.same k used lt)
            (part_same (end + 1) (n + 5) d new (omega (arith, size, long)) (omega (arith, size, long, same)) (λ k from to. gate_keeps end d new in_d gate k (λ is. omega (arith, is, from))) ∙ ap (λ (m : ℕ). part (end + 1) m d) (sym long) ∙ put.there)
            (omega (arith, size, long, same)) opened;
      }

-- at the front of the ring
module _ (cell : Pair) (head end : ℕ) (es : Entries) (payload : List ℕ) (fits : IsPayload payload) (low : 64 ≤ end) (room : 64 + length payload + 6 ≤ head) where
  pub front_first : (c b d : List ℕ) → RingAt cell None head end es c → Written 64 (1 ∷ block_of payload) c b → Written (end + 1) jump_size b d → StagedAt cell None head end (Some end) head (64 + 5 + length payload) es (payload ∷ []) d
  front_first c b d ring one two =
      let long = length_front payload in
      let up = run_grows c head es end ring.laid.row in
      let inside = ring.laid.ends.inside in
      let torn_one = torn_of_written 64 (1 ∷ block_of payload) c b one in
      let torn_two = torn_of_written (end + 1) jump_size b d two in
      let spares_one = spares_torn None head end 64 (length payload + 6) c b (front_away head end (length payload) room) (subst (λ (m : ℕ). Torn 64 m c b) long torn_one) in
      let spares_two = spares_torn None head end (end + 1) 4 b d (length_away head end low) torn_two in
      let spares = spares_trans None head end c b d spares_one spares_two in
      let size = two.size in
      let in_b : end + 1 ≤ length b = omega (arith, inside, spares_one.longer) in
      let in_d : end + 1 ≤ length d = omega (arith, size) in
      let block_d : part 64 (length payload + 6) d ≡ 1 ∷ block_of payload =
      part_same 64 (length payload + 6) b d (omega (arith, room, up, in_b)) (omega (arith, room, up, in_d)) (λ k from to. torn_two.before k (omega arith) (omega (arith, to, room, up, in_b)))
      ∙ ap (λ (m : ℕ). part 64 m b) (sym long) ∙ one.there in
      record {
        ring = ring_spared cell None head end es c d ring spares;
        opens = λ new gate opened.
            let same = gate_long end d new in_d gate in
            opened_front cell head end es payload fits room low c new ring (omega (arith, spares.longer, same))
            (λ k used other lt. gate_keeps end d new in_d gate k other ∙ spares.same k used lt)
            (part_same 64 (length payload + 6) d new (omega (arith, room, up, in_d)) (omega (arith, room, up, in_d, same)) (λ k from to. gate_keeps end d new in_d gate k (λ is. omega (arith, is, to, room, up))) ∙ block_d)
            (part_same (end + 1) 4 d new (omega (arith, size)) (omega (arith, size, same)) (λ k from to. gate_keeps end d new in_d gate k (λ is. omega (arith, is, from))) ∙ two.there)
            (omega (arith, size, same)) opened;
      }

-- One payload more: the gate at the list's end is any that opens, and behind it the ring goes on.
module _ (cell : Pair) (jump : Option ℕ) (head end : ℕ) (es : Entries) (longer : Option ℕ) (first last : ℕ) (q : List ℕ) (qs : Entries) (payload : List ℕ) (fits : IsPayload payload) (low : 64 ≤ last)
    (inner : (k : ℕ) → IsPlaceUsed jump head end k → IsPlaceUsed longer first last k × (k ≡ last → ⊥)) (at_end : IsPlaceUsed jump head end end) where
  other : end ≡ last → ⊥
  other = (inner end at_end).1

  apart : (xs ys zs : Entries) (after : Option ℕ) (to : ℕ) (c : List ℕ) → RingAt cell after first to ((xs ++ ys) ++ zs) c → RingAt cell after first to (xs ++ (ys ++ zs)) c
  apart xs ys zs after to c ring = subst (λ (l : Entries). RingAt cell after first to l c) (append_assoc xs ys zs) ring

  -- behind what is staged
  module _ (room : HasRoom longer first last (length payload)) where
    away : (k : ℕ) → IsPlaceUsed longer first last k → (k ≡ last → ⊥) → (k < last) ⊎ (last + (length payload + 6) ≤ k)
    away k used differs = ⊎_elim (λ below. inl (omega (arith, below, differs))) (λ above. inr (omega (arith, above))) (behind_away longer first last (length payload) low room k used)

    pub more_spares : (c d : List ℕ) → Torn last (length payload + 6) c d → Spares jump head end c d
    more_spares c d torn = spares_torn jump head end last (length payload + 6) c d (λ k used. let in_ = inner k used in away k in_.0 in_.1) torn

    pub behind_more : (c d : List ℕ) → StagedAt cell jump head end longer first last es (q ∷ qs) c → Written last (1 ∷ block_of payload) c d → StagedAt cell jump head end longer first (last + 5 + length payload) es ((q ∷ qs) ++ payload ∷ []) d
    behind_more c d at put =
        let long = length_front payload in
        let torn = subst (λ (m : ℕ). Torn last m c d) long (torn_of_written last (1 ∷ block_of payload) c d put) in
        let inside = at.ring.laid.ends.inside in
        let size = put.size in
        let in_c : end + 1 ≤ length c = omega (arith, inside) in
        let in_d : end + 1 ≤ length d = omega (arith, inside, torn.no_shorter) in
        let end_away = away end (inner end at_end).0 other in
        record {
          ring = ring_spared cell jump head end es c d at.ring (more_spares c d torn);
          opens = λ new gate opened.
              let same = gate_long end d new in_d gate in
              let x = get_or new end 0 in
              let open_c = with_gate end x c in
              let torn_c = with_gate_torn end x c in
              let is_c = with_gate_is end x c in
              let long_c = gate_long end c open_c in_c torn_c in
              let ring_c = at.opens open_c torn_c (λ shut. opened (sym is_c ∙ shut)) in
              apart es (q ∷ qs) (payload ∷ []) longer (last + 5 + length payload) new (opened_behind cell longer first last (es ++ q ∷ qs) payload fits room low open_c new ring_c (omega (arith, same, long_c, torn.no_shorter))
              (λ k used differs lt. elim (cases_eq k end) [
                | inl is ↦ ap (λ (j : ℕ). get_or new j 0) is ∙ sym is_c ∙ sym (ap (λ (j : ℕ). get_or open_c j 0) is)
                | inr else_ ↦ gate_keeps end d new in_d gate k else_
                    ∙ ⊎_elim (λ below. torn.before k (omega arith) (omega (arith, below, lt, long_c))) (λ above. torn.after k above (omega (arith, lt, long_c))) (away k used differs)
                    ∙ sym (gate_keeps end c open_c in_c torn_c k else_)
              ])
              (part_same (last + 1) (length payload + 5) d new (omega (arith, size, long)) (omega (arith, size, long, same)) (λ k from to. gate_keeps end d new in_d gate k (λ is. ⊎_elim (λ below. omega (arith, below, is, from)) (λ above. omega (arith, above, is, to)) end_away)) ∙ tail_there last (length payload + 5) 1 (block_of payload) d (length-block payload) put.there)
              (omega (arith, size, long, same))
              (λ shut. let one : 1 ≡ 0 = sym (first_there last 1 (block_of payload) d put.there) ∙ sym (gate_keeps end d new in_d gate last (λ is. other (sym is))) ∙ shut in omega (arith, one)));
        }

-- at the front of the ring, behind a jump at the end of what is staged
module _ (cell : Pair) (jump : Option ℕ) (head end : ℕ) (es : Entries) (first last : ℕ) (q : List ℕ) (qs : Entries) (payload : List ℕ) (fits : IsPayload payload) (ordered : AreGatesOrdered None first last)
    (inner : (k : ℕ) → IsPlaceUsed jump head end k → IsPlaceUsed None first last k × (k ≡ last → ⊥)) (at_end : IsPlaceUsed jump head end end) (low_list : 64 ≤ end) (room : 64 + length payload + 6 ≤ first) where
  abbrev m : ℕ
  m = length payload

  low_last : 64 ≤ last
  low_last = low_end None first last ordered

  end_row : (first ≤ end) × (end < last)
  end_row =
      let used = (inner end at_end).0 in
      let differs = (inner end at_end).1 in
      ⊎_elim (λ front. absurd (omega (arith, front, low_list))) (λ row. (row.0, omega (arith, row.1, differs))) used

  before_last : (k : ℕ) → IsPlaceUsed None first last k → (k ≡ last → ⊥) → k < last
  before_last k used differs = ⊎_elim (λ front. omega (arith, front, low_last)) (λ row. omega (arith, row.1, differs)) used

  pub front_spares : (c b : List ℕ) → Torn 64 (m + 6) c b → Spares jump head end c b
  front_spares c b torn = spares_torn jump head end 64 (m + 6) c b (λ k used. front_away first last m room k (inner k used).0) torn

  pub jump_spares : (b d : List ℕ) → Torn last 5 b d → Spares jump head end b d
  jump_spares b d torn = spares_torn jump head end last 5 b d (λ k used. let in_ = inner k used in inl (before_last k in_.0 in_.1)) torn

  pub front_more : (c b d : List ℕ) → StagedAt cell jump head end None first last es (q ∷ qs) c → Written 64 (1 ∷ block_of payload) c b → Written last (1 ∷ jump_size) b d → StagedAt cell jump head end (Some last) first (64 + 5 + m) es ((q ∷ qs) ++ payload ∷ []) d
  front_more c b d at one two =
      let long = length_front payload in
      let torn_one = subst (λ (k : ℕ). Torn 64 k c b) long (torn_of_written 64 (1 ∷ block_of payload) c b one) in
      let torn_two : Torn last 5 b d = torn_of_written last (1 ∷ jump_size) b d two in
      let inside = at.ring.laid.ends.inside in
      let size = two.size in
      let in_c : end + 1 ≤ length c = omega (arith, inside) in
      let in_b : end + 1 ≤ length b = omega (arith, inside, torn_one.no_shorter) in
      let in_d : end + 1 ≤ length d = omega (arith, in_b, torn_two.no_shorter) in
      let row = end_row in
      let block_d : part 64 (m + 6) d ≡ 1 ∷ block_of payload =
      part_same 64 (m + 6) b d (omega (arith, room, row.0, in_b)) (omega (arith, room, row.0, in_d)) (λ k from to. torn_two.before k (omega arith) (omega (arith, to, room, row.0, row.1, in_b)))
      ∙ ap (λ (k : ℕ). part 64 k b) (sym long) ∙ one.there in
      record {
        ring = ring_spared cell jump head end es c d at.ring (spares_trans jump head end c b d (front_spares c b torn_one) (jump_spares b d torn_two));
        opens = λ new gate opened.
            let same = gate_long end d new in_d gate in
            let x = get_or new end 0 in
            let open_c = with_gate end x c in
            let torn_c = with_gate_torn end x c in
            let is_c = with_gate_is end x c in
            let long_c = gate_long end c open_c in_c torn_c in
            let ring_c = at.opens open_c torn_c (λ shut. opened (sym is_c ∙ shut)) in
            subst (λ (l : Entries). RingAt cell (Some last) first (64 + 5 + m) l new) (append_assoc es (q ∷ qs) (payload ∷ [])) (opened_front cell first last (es ++ q ∷ qs) payload fits room low_last open_c new ring_c (omega (arith, same, long_c, torn_one.no_shorter, torn_two.no_shorter))
            (λ k used differs lt. elim (cases_eq k end) [
              | inl is ↦ ap (λ (j : ℕ). get_or new j 0) is ∙ sym is_c ∙ sym (ap (λ (j : ℕ). get_or open_c j 0) is)
              | inr else_ ↦ gate_keeps end d new in_d gate k else_
                  ∙ torn_two.before k (omega arith) (let below = before_last k used differs in omega (arith, below, lt, long_c, torn_one.no_shorter))
                  ∙ ⊎_elim (λ below. torn_one.before k (omega arith) (omega (arith, below, lt, long_c))) (λ above. torn_one.after k above (omega (arith, lt, long_c))) (front_away first last m room k used)
                  ∙ sym (gate_keeps end c open_c in_c torn_c k else_)
            ])
            (part_same 64 (m + 6) d new (omega (arith, room, row.0, in_d)) (omega (arith, room, row.0, in_d, same)) (λ k from to. gate_keeps end d new in_d gate k (λ is. omega (arith, is, to, room, row.0))) ∙ block_d)
            (part_same (last + 1) 4 d new (omega (arith, size)) (omega (arith, size, same)) (λ k from to. gate_keeps end d new in_d gate k (λ is. omega (arith, is, from, row.1))) ∙ tail_there last 4 1 jump_size d refl two.there)
            (omega (arith, size, same))
            (λ shut. let no : 1 ≡ 0 = sym (first_there last 1 jump_size d two.there) ∙ sym (gate_keeps end d new in_d gate last (λ is. omega (arith, is, row.1))) ∙ shut in omega (arith, no)));
      }

-- an entry laid behind what is staged spares the list
spares_none : (list a : Places) (n : ℕ) → a ≡ list → 64 ≤ list.end → HasRoom a.jump a.head a.end n → (c d : List ℕ) → Torn (a.end + 1) (n + 5) c d → Spares list.jump list.head list.end c d
spares_none list a n is low = subst (λ (a : Places). HasRoom a.jump a.head a.end n → (c d : List ℕ) → Torn (a.end + 1) (n + 5) c d → Spares list.jump list.head list.end c d) (sym is)
    (λ room c d torn. spares_torn list.jump list.head list.end (list.end + 1) (n + 5) c d (behind_away list.jump list.head list.end n low room) torn)

spares_jump : (list a : Places) → a ≡ list → a.jump ≡ None → 64 ≤ list.end → (c d : List ℕ) → Torn (a.end + 1) 4 c d → Spares list.jump list.head list.end c d
spares_jump list a is = subst (λ (a : Places). a.jump ≡ None → 64 ≤ list.end → (c d : List ℕ) → Torn (a.end + 1) 4 c d → Spares list.jump list.head list.end c d) (sym is)
    (λ none low c d torn. subst (λ (j : Option ℕ). Spares j list.head list.end c d) (sym none) (spares_torn None list.head list.end (list.end + 1) 4 c d (length_away list.head list.end low) torn))

pub lay_spares : (list ahead : Places) (count n : ℕ) → AreGatesOrdered list.jump list.head list.end → AreGatesOrdered ahead.jump ahead.head ahead.end → AreStagedAhead count list ahead → HasRoom ahead.jump ahead.head ahead.end n
    → (first : Bool) → (first ≡ true → count ≡ 0) → (first ≡ false → count ≡ 0 → ⊥) → (c d : List ℕ) → LaysTorn first ahead.end (n + 6) c d → Spares list.jump list.head list.end c d
lay_spares list ahead count n in_list in_ahead apart room true at_first at_more c d torn =
    spares_none list ahead n (ahead_none count list ahead (at_first refl) apart) (low_end list.jump list.head list.end in_list) room c d (subst (λ (k : ℕ). Torn (ahead.end + 1) k c d) (omega arith) torn)
lay_spares list ahead count n in_list in_ahead apart room false at_first at_more c d torn =
    let more = ahead_more count list ahead (at_more refl) apart in
    let inner = inner_of list.jump list.head list.end ahead.jump ahead.head ahead.end in_list in_ahead more.0 more.1 in
    let low = low_end ahead.jump ahead.head ahead.end in_ahead in
    spares_torn list.jump list.head list.end ahead.end (n + 6) c d (λ k used.
    let in_ = inner k used in
    ⊎_elim (λ below. inl (omega (arith, below, in_.1))) (λ above. inr (omega (arith, above))) (behind_away ahead.jump ahead.head ahead.end n low room k in_.0)) torn

-- and so do an entry at the front, and a jump to it
pub front_list : (list ahead : Places) (count n : ℕ) → AreGatesOrdered list.jump list.head list.end → AreGatesOrdered ahead.jump ahead.head ahead.end → AreStagedAhead count list ahead → ahead.jump ≡ None → 64 + n + 6 ≤ ahead.head
    → (c d : List ℕ) → Torn 64 (n + 6) c d → Spares list.jump list.head list.end c d
front_list list ahead count n in_list in_ahead apart none room c d torn = elim (cases_eq count 0) [
  | inl zero_ ↦
      let is = ahead_none count list ahead zero_ apart in
      let none_list : list.jump ≡ None = sym (ap (λ (a : Places). a.jump) is) ∙ none in
      let room_list : 64 + n + 6 ≤ list.head = subst (λ (a : Places). 64 + n + 6 ≤ a.head) is room in
      subst (λ (j : Option ℕ). Spares j list.head list.end c d) (sym none_list) (spares_torn None list.head list.end 64 (n + 6) c d (front_away list.head list.end n room_list) torn)
  | inr some ↦
      let more = ahead_more count list ahead some apart in
      let inner = inner_of list.jump list.head list.end ahead.jump ahead.head ahead.end in_list in_ahead more.0 more.1 in
      spares_torn list.jump list.head list.end 64 (n + 6) c d (λ k used. front_away ahead.head ahead.end n room k (subst (λ (j : Option ℕ). IsPlaceUsed j ahead.head ahead.end k) none (inner k used).0)) torn
]

pub jump_list : (list ahead : Places) (count : ℕ) → AreGatesOrdered list.jump list.head list.end → AreGatesOrdered ahead.jump ahead.head ahead.end → AreStagedAhead count list ahead → ahead.jump ≡ None
    → (first : Bool) → (first ≡ true → count ≡ 0) → (first ≡ false → count ≡ 0 → ⊥) → (c d : List ℕ) → LaysTorn first ahead.end 5 c d → Spares list.jump list.head list.end c d
jump_list list ahead count in_list in_ahead apart none true at_first at_more c d torn = spares_jump list ahead (ahead_none count list ahead (at_first refl) apart) none (low_end list.jump list.head list.end in_list) c d torn
jump_list list ahead count in_list in_ahead apart none false at_first at_more c d torn =
    let more = ahead_more count list ahead (at_more refl) apart in
    let inner = inner_of list.jump list.head list.end ahead.jump ahead.head ahead.end in_list in_ahead more.0 more.1 in
    let low = low_end ahead.jump ahead.head ahead.end in_ahead in
    spares_torn list.jump list.head list.end ahead.end 5 c d (λ k used.
    let in_ = inner k used in
    let used_none = subst (λ (j : Option ℕ). IsPlaceUsed j ahead.head ahead.end k) none in_.0 in
    inl (⊎_elim (λ front. omega (arith, front, low)) (λ row. omega (arith, row.1, in_.1)) used_none)) torn

-- the places behind an entry, and at the front of the ring
abbrev pub grown : Places → ℕ → Places
grown places n = record { jump = places.jump; head = places.head; end = places.end + 5 + n }

abbrev pub fronted : Places → ℕ → Places
fronted places n = record { jump = Some places.end; head = places.head; end = 69 + n }

none_behind : (cell : Pair) (list a : Places) (es : Entries) (payload : List ℕ) → IsPayload payload → a ≡ list → 64 ≤ list.end → HasRoom a.jump a.head a.end (length payload) → (c d : List ℕ) → RingAt cell list.jump list.head list.end es c
    → Written (a.end + 1) (block_of payload) c d → IsStaged cell list (grown a (length payload)) es (payload ∷ []) d
none_behind cell list a es payload fits is low = subst (λ (a : Places). HasRoom a.jump a.head a.end (length payload) → (c d : List ℕ) → RingAt cell list.jump list.head list.end es c → Written (a.end + 1) (block_of payload) c d → IsStaged cell list (grown a (length payload)) es (payload ∷ []) d) (sym is)
    (λ room c d ring put. behind_first cell list.jump list.head list.end es payload fits low room c d ring put)

none_front : (cell : Pair) (list a : Places) (es : Entries) (payload : List ℕ) → IsPayload payload → a ≡ list → 64 ≤ list.end → a.jump ≡ None → 64 + length payload + 6 ≤ a.head → (c b d : List ℕ) → RingAt cell list.jump list.head list.end es c
    → Written 64 (1 ∷ block_of payload) c b → Written (a.end + 1) jump_size b d → IsStaged cell list (fronted a (length payload)) es (payload ∷ []) d
none_front cell list a es payload fits is low = subst (λ (a : Places). a.jump ≡ None → 64 + length payload + 6 ≤ a.head → (c b d : List ℕ) → RingAt cell list.jump list.head list.end es c → Written 64 (1 ∷ block_of payload) c b → Written (a.end + 1) jump_size b d → IsStaged cell list (fronted a (length payload)) es (payload ∷ []) d) (sym is)
    (λ none room c b d ring one two. subst (λ (j : Option ℕ). StagedAt cell j list.head list.end (Some list.end) list.head (69 + length payload) es (payload ∷ []) d) (sym none)
    (front_first cell list.head list.end es payload fits low room c b d (subst (λ (j : Option ℕ). RingAt cell j list.head list.end es c) none ring) one two))

pub told_behind : (cell : Pair) (list ahead : Places) (count : ℕ) (es ps : Entries) (payload : List ℕ) → IsPayload payload → AreGatesOrdered list.jump list.head list.end → AreGatesOrdered ahead.jump ahead.head ahead.end → AreStagedAhead count list ahead → HasRoom ahead.jump ahead.head ahead.end (length payload)
    → count ≡ length ps → (first : Bool) → (first ≡ true → count ≡ 0) → (first ≡ false → count ≡ 0 → ⊥) → (c d : List ℕ) → IsStaged cell list ahead es ps c → Lays first ahead.end (1 ∷ block_of payload) c d → IsStaged cell list (grown ahead (length payload)) es (ps ++ payload ∷ []) d
told_behind cell list ahead count es [] payload fits in_list in_ahead apart room number true at_first at_more c d at put = none_behind cell list ahead es payload fits (ahead_none count list ahead number apart) (low_end list.jump list.head list.end in_list) room c d at.ring put
told_behind cell list ahead count es [] payload fits in_list in_ahead apart room number false at_first at_more c d at put = absurd (at_more refl number)
told_behind cell list ahead count es (q ∷ qs) payload fits in_list in_ahead apart room number true at_first at_more c d at put = absurd (let none = at_first refl in omega (arith, none, number))
told_behind cell list ahead count es (q ∷ qs) payload fits in_list in_ahead apart room number false at_first at_more c d at put =
    let more = ahead_more count list ahead (at_more refl) apart in
    behind_more cell list.jump list.head list.end es ahead.jump ahead.head ahead.end q qs payload fits (low_end ahead.jump ahead.head ahead.end in_ahead)
    (inner_of list.jump list.head list.end ahead.jump ahead.head ahead.end in_list in_ahead more.0 more.1) (end_in list.jump list.head list.end in_list) room c d at put

pub told_front : (cell : Pair) (list ahead : Places) (count : ℕ) (es ps : Entries) (payload : List ℕ) → IsPayload payload → AreGatesOrdered list.jump list.head list.end → AreGatesOrdered ahead.jump ahead.head ahead.end → AreStagedAhead count list ahead → ahead.jump ≡ None → 64 + length payload + 6 ≤ ahead.head
    → count ≡ length ps → (first : Bool) → (first ≡ true → count ≡ 0) → (first ≡ false → count ≡ 0 → ⊥) → (c b d : List ℕ) → IsStaged cell list ahead es ps c → Written 64 (1 ∷ block_of payload) c b → Lays first ahead.end (1 ∷ jump_size) b d → IsStaged cell list (fronted ahead (length payload)) es (ps ++ payload ∷ []) d
told_front cell list ahead count es [] payload fits in_list in_ahead apart none room number true at_first at_more c b d at one two = none_front cell list ahead es payload fits (ahead_none count list ahead number apart) (low_end list.jump list.head list.end in_list) none room c b d at.ring one two
told_front cell list ahead count es [] payload fits in_list in_ahead apart none room number false at_first at_more c b d at one two = absurd (at_more refl number)
told_front cell list ahead count es (q ∷ qs) payload fits in_list in_ahead apart none room number true at_first at_more c b d at one two = absurd (let zero_ = at_first refl in omega (arith, zero_, number))
told_front cell list ahead count es (q ∷ qs) payload fits in_list in_ahead apart none room number false at_first at_more c b d at one two =
    let more = ahead_more count list ahead (at_more refl) apart in
    let inner = inner_of list.jump list.head list.end ahead.jump ahead.head ahead.end in_list in_ahead more.0 more.1 in
    front_more cell list.jump list.head list.end es ahead.head ahead.end q qs payload fits (subst (λ (j : Option ℕ). AreGatesOrdered j ahead.head ahead.end) none in_ahead)
    (λ k used. let in_ = inner k used in (subst (λ (j : Option ℕ). IsPlaceUsed j ahead.head ahead.end k) none in_.0, in_.1)) (end_in list.jump list.head list.end in_list) (low_end list.jump list.head list.end in_list) room c b d
    (subst (λ (j : Option ℕ). StagedAt cell list.jump list.head list.end j ahead.head ahead.end es (q ∷ qs) c) none at) one two

-- the bytes behind the first
pub rest_is : (l : List ℕ) → take (length l - 1) (drop 1 l) ≡ drop 1 l
rest_is l = take_all (length l - 1) (drop 1 l) (omega (arith, length-drop 1 l))

pub rest_long : (l : List ℕ) → length (take (length l - 1) (drop 1 l)) ≡ length l - 1
rest_long l = ap length (rest_is l) ∙ length-drop 1 l

-- how far a file may grow
pub grows_torn : (most at n : ℕ) (c d : List ℕ) → at + n ≤ most → Torn at n c d → FileGrows most c d
grows_torn most at n c d fits torn = omega (arith, fits, torn.no_longer)

pub grows_lay : (most at n : ℕ) (first : Bool) (c d : List ℕ) → 1 ≤ n → at + n ≤ most → LaysTorn first at n c d → FileGrows most c d
grows_lay most at n true c d some fits torn = grows_torn most (at + 1) (n - 1) c d (omega (arith, some, fits)) torn
grows_lay most at n false c d some fits torn = grows_torn most at n c d fits torn

pub grows_refl : (most : ℕ) (c : List ℕ) → FileGrows most c c
grows_refl most c = omega arith

pub grows_trans : (most : ℕ) (a b c : List ℕ) → FileGrows most a b → FileGrows most b c → FileGrows most a c
grows_trans most a b c one two = omega (arith, one, two)
