-- Opening the gate at the list's end, call by call.
use Rattle.std.proofs.Common.{◌≡◌, ◌⊎◌, inl, inr, ℕ, List, [], ◌∷◌, ◌++◌, length, get_or, sym, ◌∙◌, ap, subst, arith, Option}
use Rattle.std.proofs.lemmas.Bool.{cases_eq}
use Rattle.sg_device.specs.DiskBytes.{Torn, Written, Same}
use Rattle.sg_device.specs.Disk.{DiskState, content, Changes, Elapses, Preserves, Durable, Within, EachNow, WhereTold}
use Rattle.sg_device.proofs.Disks.{started, goes_on, same_on, durable_now, told_on, told_same}
use Rattle.sg_device.proofs.DiskCalls.{reads_as_image}
use Rattle.sg_device.proofs.Parts.{part_at, torn_refl, torn_of_written}
use Rattle.sg_stable.specs.declared.cell.Pair.{Pair}
use Rattle.std.proofs.lemmas.List.{append-nil}
use Rattle.sg_spool.specs.Ring.{Entries}
use Rattle.sg_spool.specs.Rows.{AreRows}
use Rattle.sg_spool.specs.View.{IsRing}
use Rattle.sg_spool.specs.declared.places.Places.{Places}
use Rattle.sg_spool.specs.declared.rows.Rows.{Rows}
use Rattle.sg_spool.proofs.Staging.{ahead_none}
use Rattle.sg_spool.specs.Staging.{OpensTo, StagedAt}
use Rattle.sg_spool.specs.Steps.{RingAt}
use Rattle.sg_spool.proofs.Chains.{elapses_as, elapses_join}
use Rattle.sg_spool.proofs.Rings.{ring_spared, shut_spares}

pub torn_trans : (at n : ℕ) (a b c : List ℕ) → Torn at n a b → Torn at n b c → Torn at n a c
torn_trans at n a b c one two = record {
  before = λ k low high. two.before k low (omega (arith, high, one.no_shorter)) ∙ one.before k low high;
  after = λ k low high. two.after k low (omega (arith, high, one.no_shorter)) ∙ one.after k low high;
  no_shorter = omega (arith, one.no_shorter, two.no_shorter);
  no_longer = omega (arith, one.no_longer, two.no_longer);
}

pub same_torn : (at n : ℕ) (d0 d1 : DiskState) → Elapses Same d0 d1 → Elapses (Torn at n) d0 d1
same_torn at n d0 d1 still = elapses_as d0 d1 (λ d c same. subst (λ (l : List ℕ). Torn at n d l) (sym same) (torn_refl at n d)) still

pub join_torn : (at n : ℕ) (d0 d1 d2 : DiskState) → Elapses (Torn at n) d0 d1 → Elapses (Torn at n) d1 d2 → Elapses (Torn at n) d0 d2
join_torn at n d0 d1 d2 one two = elapses_join (Torn at n) d0 d1 d2 (torn_refl at n) (torn_trans at n) one two

module _ (cell : Pair) (jump : Option ℕ) (head end : ℕ) (longer : Option ℕ) (first last : ℕ) (es : Entries) (p : List ℕ) (ps : Entries) where
  abbrev Old : List ℕ → Type 0
  Old c = RingAt cell jump head end es c

  abbrev New : List ℕ → Type 0
  New c = RingAt cell longer first last (es ++ p ∷ ps) c

  abbrev P : List ℕ → Type 0
  P c = Old c ⊎ New c

  abbrev StagedRing : List ℕ → Type 0
  StagedRing c = StagedAt cell jump head end longer first last es (p ∷ ps) c

  gate_torn : (d c : List ℕ) → StagedRing d → Torn end 1 d c → P c
  gate_torn d c at torn = elim (cases_eq (get_or c end 0) 0) [
    | inl shut ↦ inl (ring_spared cell jump head end es d c at.ring (shut_spares cell jump head end es d c at.ring torn shut))
    | inr opened ↦ inr (at.opens c torn opened)
  ]

  gate_written : (d c : List ℕ) → StagedRing d → Written end (1 ∷ []) d c → New c
  gate_written d c at put =
      let one : get_or c end 0 ≡ 1 = ap (λ (k : ℕ). get_or c k 0) (omega arith) ∙ sym (part_at end 1 c 0 (omega arith)) ∙ ap (λ (l : List ℕ). get_or l 0 0) put.there in
      at.opens c (torn_of_written end (1 ∷ []) d c put) (λ shut. let no : 1 ≡ 0 = sym one ∙ shut in omega (arith, no))

  module _ (d0 d1 : DiskState) (start : EachNow d0 Old) where
    pub commit1 : Elapses Same d0 d1 → Within d0 d1 P
    commit1 still = same_on d0 d0 d1 P (started d0 P (λ c left. inl (start c left))) still

    module _ (opens : WhereTold (content d0) (OpensTo cell end longer first last es (p ∷ ps))) (keeps1 : Preserves d0 d1) (durable1 : Durable d1) (d2 : DiskState) where
      staged0 : WhereTold (content d0) StagedRing
      staged0 b told = record { ring = start b (reads_as_image d0 b told); opens = opens b told }

      now1 : EachNow d1 StagedRing
      now1 = durable_now d1 StagedRing durable1 (told_same StagedRing keeps1.told staged0)

      pub commit2 : Elapses (Torn end 1) d1 d2 → Within d0 d2 P
      commit2 images2 = goes_on d0 d1 d2 P StagedRing (commit1 keeps1.still) images2 now1 gate_torn

      pub commit3 : Elapses (Torn end 1) d1 d2 → (d3 : DiskState) → Elapses Same d2 d3 → Within d0 d3 P
      commit3 images2 d3 still3 = same_on d0 d2 d3 P (commit2 images2) still3

      pub committed3 : Changes (Written end (1 ∷ [])) (content d1) (content d2) → (d3 : DiskState) → Preserves d2 d3 → Durable d3 → EachNow d3 New
      committed3 written2 d3 keeps3 durable3 = durable_now d3 New durable3 (told_same New keeps3.told (told_on StagedRing New written2 (λ b told. now1 b (reads_as_image d1 b told)) gate_written))

-- where something is staged
pub some_staged : (O Q : Entries → Type 0) (count : ℕ) (staged : Entries) → count ≡ length staged → (count ≡ 0 → ⊥) → ((p : List ℕ) (ps : Entries) → O (p ∷ ps) → Q (p ∷ ps)) → O staged → Q staged
some_staged O Q count [] number some goes opens = absurd (some number)
some_staged O Q count (p ∷ ps) number some goes opens = goes p ps opens

-- where nothing is
pub none_ring : (cell : Pair) (rows : Rows) (d0 : DiskState) (list staged : Entries) → AreRows rows → rows.staged ≡ 0 → rows.staged ≡ length staged → EachNow d0 (IsRing cell rows.list list) → EachNow d0 (IsRing cell rows.ahead (list ++ staged))
none_ring cell rows d0 list [] are none number start = subst (λ (a : Places). EachNow d0 (IsRing cell a (list ++ []))) (sym (ahead_none rows.staged rows.list rows.ahead none are.apart)) (subst (λ (l : Entries). EachNow d0 (IsRing cell rows.list l)) (sym (append-nil list)) start)
none_ring cell rows d0 list (p ∷ ps) are none number start = absurd (omega (arith, none, number))
