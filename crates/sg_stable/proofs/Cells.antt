-- What each step of a put leaves of a cell.
use Rattle.std.proofs.Common.{◌≡◌, ◌⊎◌, inl, inr, ℕ, zero, suc, add-zero, ◌+◌, ◌<◌, ◌≤◌, ◌%◌, ◌^◌, List, [], ◌∷◌, length, get_or, refl, sym, ◌∙◌, ap, arith}
use Rattle.std.proofs.lemmas.Bool.{cases_eq, cases_lt}
use Rattle.std.proofs.lemmas.Bool.Decides.{nat_tests}
use Rattle.std.proofs.lemmas.List.{ext_get_or}
use Rattle.std.proofs.lemmas.Nat.{from_be_bytes-to_be_bytes_8}
use Rattle.std.specs.Int.{from_be_bytes, to_be_bytes, w64}
use Rattle.sg_device.specs.DiskBytes.{part, SameIn, Torn, Written}
use Rattle.sg_device.proofs.Parts.{length-part, part_at, part_same, torn_length, torn_elsewhere, torn_of_written}
use Rattle.sg_stable.specs.Cell.{word, slot, cell_value, IsOutside, HasCell, SameOutside}

pub slot_cases : (s : ℕ) → (slot s ≡ 16) ⊎ (slot s ≡ 32)
slot_cases s = elim (cases_eq (s % 2) 0) [ inl even ↦ inl (grind (arith, nat_tests)) | inr odd ↦ inr (grind (arith, nat_tests)) ]

-- the other slot
pub slot_next : (s : ℕ) → slot ((s + 1) % 2 ^ 8) + slot s ≡ 48
slot_next s = elim (cases_eq (s % 2) 0) [ inl even ↦ grind (arith, nat_tests) | inr odd ↦ grind (arith, nat_tests) ]

pub word_same : (at : ℕ) (c d : List ℕ) → at + 8 ≤ length c → at + 8 ≤ length d → SameIn at (at + 8) c d → word at d ≡ word at c
unfolding word
word_same at c d in_c in_d same = ap (λ (l : List ℕ). from_be_bytes w64 l) (part_same at 8 c d in_c in_d same)

pub word_of : (at v : ℕ) (c : List ℕ) → v < 2 ^ 64 → part at 8 c ≡ to_be_bytes w64 v → word at c ≡ v
unfolding word
word_of at v c fits is = ap (λ (l : List ℕ). from_be_bytes w64 l) is ∙ from_be_bytes-to_be_bytes_8 v fits

part_eight : (at : ℕ) (c : List ℕ) (k : ℕ) → k < 8 → get_or c (at + k) 0 ≡ get_or (get_or c at 0 ∷ get_or c (at + 1) 0 ∷ get_or c (at + 2) 0 ∷ get_or c (at + 3) 0 ∷ get_or c (at + 4) 0 ∷ get_or c (at + 5) 0 ∷ get_or c (at + 6) 0 ∷ get_or c (at + 7) 0 ∷ []) k 0
part_eight at c zero lt = rw add-zero refl
part_eight at c (suc zero) lt = refl
part_eight at c (suc (suc zero)) lt = refl
part_eight at c (suc (suc (suc zero))) lt = refl
part_eight at c (suc (suc (suc (suc zero)))) lt = refl
part_eight at c (suc (suc (suc (suc (suc zero))))) lt = refl
part_eight at c (suc (suc (suc (suc (suc (suc zero)))))) lt = refl
part_eight at c (suc (suc (suc (suc (suc (suc (suc zero))))))) lt = refl
part_eight at c (suc (suc (suc (suc (suc (suc (suc (suc k)))))))) lt = absurd (omega arith)

pub word_bytes : (at : ℕ) (c : List ℕ) → at + 8 ≤ length c → from_be_bytes w64 (get_or c at 0 ∷ get_or c (at + 1) 0 ∷ get_or c (at + 2) 0 ∷ get_or c (at + 3) 0 ∷ get_or c (at + 4) 0 ∷ get_or c (at + 5) 0 ∷ get_or c (at + 6) 0 ∷ get_or c (at + 7) 0 ∷ []) ≡ word at c
unfolding word
word_bytes at c le =
    let l = get_or c at 0 ∷ get_or c (at + 1) 0 ∷ get_or c (at + 2) 0 ∷ get_or c (at + 3) 0 ∷ get_or c (at + 4) 0 ∷ get_or c (at + 5) 0 ∷ get_or c (at + 6) 0 ∷ get_or c (at + 7) 0 ∷ [] in
    let same : part at 8 c ≡ l = ext_get_or 0 (part at 8 c) l (length-part at 8 c le) (λ k lt. let below : k < 8 = omega (arith, length-part at 8 c le) in part_at at 8 c k below ∙ part_eight at c k below) in
    ap (λ (l : List ℕ). from_be_bytes w64 l) (sym same)

out_of_slot : (at k : ℕ) → (at ≡ 16) ⊎ (at ≡ 32) → IsOutside k → (k < at) ⊎ (at + 8 ≤ k)
out_of_slot at k is out = elim (cases_lt k at) [ inl below ↦ inl below | inr above ↦ inr (omega (arith, is, out, above)) ]

module _ (s t v w : ℕ) (other : slot t + slot s ≡ 48) where
  -- a write of the slot that isn't selected, cut short
  pub slot_torn : (c d : List ℕ) → HasCell s v c → Torn (slot t) 8 c d → HasCell s v d × SameOutside c d
  slot_torn c d cell torn =
      let at_t = slot_cases t in
      let fits : slot t + 8 ≤ length c = omega (arith, cell.size, at_t, other) in
      let long = torn_length (slot t) 8 c d fits torn in
      let keeps = torn_elsewhere (slot t) 8 c d fits torn in (
        record {
          size = omega (arith, long, cell.size);
          selects = keeps 0 (inl (omega (arith, at_t, other))) ∙ cell.selects;
          holds = word_same (slot s) c d (omega (arith, cell.size, at_t, other)) (omega (arith, long, cell.size, at_t, other))
              (λ k low high. keeps k (elim at_t [ inl a ↦ inr (omega (arith, a, other, low, high)) | inr b ↦ inl (omega (arith, b, other, low, high)) ])) ∙ cell.holds;
        },
        record {
          size = long;
          rest = λ k out. keeps k (out_of_slot (slot t) k at_t out);
        },
      )

  pub slot_written : (c d : List ℕ) → w < 2 ^ 64 → HasCell s v c → Written (slot t) (to_be_bytes w64 w) c d → (HasCell s v d × SameOutside c d) × (word (slot t) d ≡ w)
  slot_written c d fits cell written = (slot_torn c d cell (torn_of_written (slot t) (to_be_bytes w64 w) c d written), word_of (slot t) w d fits written.there)

  -- a write of the selector, cut short
  pub selector_torn : (c d : List ℕ) → HasCell s v c → word (slot t) c ≡ w → Torn 0 1 c d → SameOutside c d × ((cell_value d ≡ v) ⊎ (cell_value d ≡ w))
  selector_torn c d cell staged torn =
      let keeps = torn_elsewhere 0 1 c d (omega (arith, cell.size)) torn in
      let long = torn_length 0 1 c d (omega (arith, cell.size)) torn in
      let at_s = slot_cases s in
      let at_t = slot_cases t in
      let now = get_or d 0 0 in
      let word_stays : (at : ℕ) → (at ≡ 16) ⊎ (at ≡ 32) → word at d ≡ word at c = λ at is. word_same at c d (omega (arith, is, cell.size)) (omega (arith, is, long, cell.size)) (λ k low high. keeps k (inr (omega (arith, is, low)))) in (
        record { size = long; rest = λ k out. keeps k (inr (omega (arith, out))) },
        elim (slot_is now) [
          | inl same ↦ inl (ap (λ (at : ℕ). word at d) same ∙ word_stays (slot s) at_s ∙ cell.holds)
          | inr same ↦ inr (ap (λ (at : ℕ). word at d) same ∙ word_stays (slot t) at_t ∙ staged)
        ],
      )
    where
      slot_is : (x : ℕ) → (slot x ≡ slot s) ⊎ (slot x ≡ slot t)
      slot_is x = elim (cases_eq (slot x) (slot s)) [
        | inl same ↦ inl same
        | inr differs ↦ inr (let at_x = slot_cases x in let at_s = slot_cases s in omega (arith, differs, at_x, at_s, other))
      ]

  pub selector_written : (c d : List ℕ) → HasCell s v c → word (slot t) c ≡ w → Written 0 (t ∷ []) c d → HasCell t w d × SameOutside c d
  selector_written c d cell staged written =
      let torn = torn_of_written 0 (t ∷ []) c d written in
      let keeps = torn_elsewhere 0 1 c d (omega (arith, cell.size)) torn in
      let long = torn_length 0 1 c d (omega (arith, cell.size)) torn in
      let at_t = slot_cases t in (
        record {
          size = omega (arith, long, cell.size);
          selects = sym (part_at 0 1 d 0 (omega arith)) ∙ ap (λ (l : List ℕ). get_or l 0 0) written.there;
          holds = word_same (slot t) c d (omega (arith, at_t, cell.size)) (omega (arith, at_t, long, cell.size)) (λ k low high. keeps k (inr (omega (arith, at_t, low)))) ∙ staged;
        },
        record { size = long; rest = λ k out. keeps k (inr (omega (arith, out))) },
      )

-- every write into the cell keeps what is outside it
pub slot_keeps : (t : ℕ) (c d : List ℕ) → 40 ≤ length c → Torn (slot t) 8 c d → SameOutside c d
slot_keeps t c d long torn =
    let at_t = slot_cases t in
    let fits : slot t + 8 ≤ length c = omega (arith, long, at_t) in
    record { size = torn_length (slot t) 8 c d fits torn; rest = λ k out. torn_elsewhere (slot t) 8 c d fits torn k (out_of_slot (slot t) k at_t out) }

pub selector_keeps : (c d : List ℕ) → 40 ≤ length c → Torn 0 1 c d → SameOutside c d
selector_keeps c d long torn = record { size = torn_length 0 1 c d (omega arith) torn; rest = λ k out. torn_elsewhere 0 1 c d (omega arith) torn k (inr (omega (arith, out))) }

pub outside_refl : (c : List ℕ) → SameOutside c c
outside_refl c = record { size = refl; rest = λ k out. refl }

pub outside_trans : (a b c : List ℕ) → SameOutside a b → SameOutside b c → SameOutside a c
outside_trans a b c one two = record { size = two.size ∙ one.size; rest = λ k out. two.rest k out ∙ one.rest k out }

pub value_of : (s v : ℕ) (c : List ℕ) → HasCell s v c → cell_value c ≡ v
value_of s v c cell = ap (λ (x : ℕ). word (slot x) c) cell.selects ∙ cell.holds

-- the cell's value is told by the first 40 bytes
pub cell_same : (c d : List ℕ) → 40 ≤ length c → 40 ≤ length d → SameIn 0 40 c d → cell_value d ≡ cell_value c
cell_same c d in_c in_d same =
    let s = get_or c 0 0 in
    let at_s = slot_cases s in
    ap (λ (x : ℕ). word (slot x) d) (same 0 (omega arith) (omega arith)) ∙ word_same (slot s) c d (omega (arith, at_s, in_c)) (omega (arith, at_s, in_d)) (λ k low high. same k (omega arith) (omega (arith, at_s, high)))

-- the cell, where the first 40 bytes stay
pub has_cell_same : (s v : ℕ) (c d : List ℕ) → HasCell s v c → 40 ≤ length d → ((k : ℕ) → k < 40 → get_or d k 0 ≡ get_or c k 0) → HasCell s v d
has_cell_same s v c d cell long same =
    let at_s = slot_cases s in
    record {
      size = long;
      selects = same 0 (omega arith) ∙ cell.selects;
      holds = word_same (slot s) c d (omega (arith, at_s, cell.size)) (omega (arith, at_s, long)) (λ k low high. same k (omega (arith, at_s, high))) ∙ cell.holds;
    }
