-- Spelling a list anew, call by call.
use Rattle.std.proofs.Common.{◌≡◌, ℕ, ◌+◌, ◌-◌, ◌<◌, ◌≤◌, List, length, map, refl, sym, ◌∙◌, ap, subst, ◌^◌, None, Option, Bool, true}
use Rattle.std.specs.Prelude.{is_some}
use Rattle.sg_device.specs.DiskBytes.{Written, Same}
use Rattle.sg_device.specs.Disk.{DiskState, content, IsImage, Changes, Elapses, Preserves, Durable, Within, EachNow, WhereTold}
use Rattle.sg_device.proofs.Disks.{durable_now, told_same, same_on}
use Rattle.sg_device.proofs.DiskCalls.{reads_as_image}
use Rattle.sg_stable.specs.Cell.{HasCell, PutsValue}
use Rattle.sg_stable.specs.declared.cell.Pair.{Pair}
use Rattle.sg_device.specs.Faults.{Rose}
use Rattle.sg_spool.specs.Answers.{HasReadCause, WhereNoMemory}
use Rattle.sg_spool.specs.declared.answers.RewriteRefusal.{RewriteRefusal}
use Rattle.sg_spool.specs.declared.answers.RewriteRefusal.TheVariants.{DiskFault, NoMemory}
use Rattle.sg_spool.specs.Copying.{Beyond}
use Rattle.sg_spool.specs.Lists.{Perhaps, Recodes}
use Rattle.sg_spool.specs.Places.{IsOrdered, gate_past}
use Rattle.sg_spool.specs.Rewriting.{past, written_of, AddsSpelled, SpellsRing}
use Rattle.sg_spool.specs.Ring.{Entries, IsPayload, IsEntry}
use Rattle.sg_spool.specs.Steps.{RingAt, Stems, After, Spares}
use Rattle.sg_spool.specs.View.{IsRing}
use Rattle.sg_spool.specs.declared.places.Places.{Places}
use Rattle.sg_spool.proofs.CellPuts.{IsPrepared, put_within, put_ring}
use Rattle.sg_spool.proofs.Chains.{elapses_as, spared_within, spared_now}
use Rattle.sg_spool.proofs.Copying.{beyond_spares}
use Rattle.sg_spool.proofs.Rewriting.{ready_spelled, adds_by, Spelling, spelling_none, spelling_more, spelled_all}
use Rattle.sg_spool.proofs.Rings.{ring_spared}

module _ (cell : Pair) (places : Places) (es : Entries) (meaning : List ℕ → List ℕ) (count : ℕ) (ordered : IsOrdered places) (d0 d1 : DiskState) (start : EachNow d0 (IsRing cell places es)) (images : Elapses (Beyond (past places)) d0 d1) where
  spares : (d c : List ℕ) → Beyond (past places) d c → Spares places.jump places.head places.end d c
  spares d c beyond = beyond_spares places.jump places.head places.end d c ordered beyond

  abbrev P : List ℕ → Type 0
  P c = Stems (IsImage d0) (After (Perhaps (Recodes meaning)) es) c

  time : Elapses (Spares places.jump places.head places.end) d0 d1
  time = elapses_as d0 d1 spares images

  pub rewriting : Within d0 d1 P
  rewriting = spared_within cell places.jump places.head places.end es d0 d1 start time (Recodes meaning)

  pub unchanged_ring : EachNow d1 (Stems (IsImage d0) (IsRing cell places es))
  unchanged_ring = spared_now cell places.jump places.head places.end es d0 d1 start time

  module _ (d2 : DiskState) where
    pub rewriting_on : Elapses Same d1 d2 → Within d0 d2 P
    rewriting_on still = same_on d0 d1 d2 P rewriting still

    module _ (keeps : Preserves d1 d2) (end : ℕ) (long : EachNow d0 (λ c. count ≡ length es)) (after : past places ≤ end) (spelled : Changes (SpellsRing meaning places count end) (content d0) (content d1)) (durable : Durable d2) (value : ℕ) (is : 64 + value ≡ past places) (d3 : DiskState) (put : Within d2 d3 (PutsValue (IsImage d2) cell.value value)) where
      abbrev Prepared : List ℕ → Type 0
      Prepared c = IsPrepared cell places.jump places.head places.end es None (past places) end (map meaning es) c

      told1 : WhereTold (content d1) (Stems (IsImage d0) Prepared)
      told1 c told =
          let a = spelled.back c told in
          let was = reads_as_image d0 a.0 a.1 in
          let ring = start a.0 was in
          record {
            origin = a.0;
            was = was;
            holds = record {
              ring = ring_spared cell places.jump places.head places.end es a.0 c ring (spares a.0 c a.2.beyond);
              ready = ready_spelled meaning places count end es a.0 c ordered ring.laid (long a.0 was) after a.2;
            };
          }

      now2 : EachNow d2 (Stems (IsImage d0) Prepared)
      now2 = durable_now d2 (Stems (IsImage d0) Prepared) durable (told_same (Stems (IsImage d0) Prepared) keeps.told told1)

      pub rewritten : Within d0 d3 P
      rewritten = put_within cell places.jump places.head places.end es None (past places) end (map meaning es) (Recodes meaning) refl value is d0 d2 d3 now2 put (rewriting_on keeps.still)

      pub new_ring : (next : Pair) → next.value ≡ value → EachNow d3 (HasCell next.selector next.value) → EachNow d3 (Stems (IsImage d0) (RingAt next None (past places) end (map meaning es)))
      new_ring next same has = put_ring cell places.jump places.head places.end es None (past places) end (map meaning es) (Recodes meaning) refl value is d0 d2 d3 now2 put next same has

pub added_changes : (last : Bool) (at : ℕ) (p : List ℕ) (old new : Option (List ℕ)) → IsPayload p → Changes (Written at (written_of last p)) old new → Changes (AddsSpelled at p last) old new
added_changes last at p old new fits change = record {
  back = λ c told. let from = change.back c told in (from.0, from.1, adds_by last at p from.0 c fits from.2);
  tells = change.tells;
}

pub spelling_start : (meaning : List ℕ → List ℕ) (places : Places) (count gate at : ℕ) (old : Option (List ℕ)) → 1 ≤ count → gate ≡ gate_past places.jump places.head → at ≡ past places → Changes (Spelling meaning places count count gate at) old old
spelling_start meaning places count gate at old some gate_is at_is = record {
  back = λ b told. (b, told, subst (λ (k : ℕ). Spelling meaning places count count k at b b) (sym gate_is) (subst (λ (k : ℕ). Spelling meaning places count count (gate_past places.jump places.head) k b b) (sym at_is) (spelling_none meaning places count b some)));
  tells = refl;
}

pub spelling_on : (meaning : List ℕ → List ℕ) (places : Places) (count left gate at : ℕ) (payload : List ℕ) (next : ℕ) (last : Bool)
    → IsPayload payload → 1 ≤ left → past places ≤ at → (left ≡ 1 → last ≡ true) → (gate + 5 + length payload < 2 ^ 63 → next ≡ gate_past places.jump (gate + 5 + length payload))
    → (d0 d1 d2 d3 : Option (List ℕ)) → Changes (Spelling meaning places count left gate at) d0 d1 → d2 ≡ d1 → WhereTold d1 (λ b. length b < 2 ^ 63) → WhereTold d1 (λ b. (p : List ℕ) → IsEntry b gate p → payload ≡ p) → Changes (AddsSpelled at (meaning payload) last) d2 d3
    → Changes (Spelling meaning places count (left - 1) next (at + 5 + length (meaning payload))) d0 d3
spelling_on meaning places count left gate at payload next last fits some high last_is next_is d0 d1 d2 d3 so same short read added = record {
  back = λ c told.
      let b = added.back c told in
      let told1 = sym same ∙ b.1 in
      let a = so.back b.0 told1 in
      (a.0, a.1, spelling_more meaning places count left gate at payload next last fits some high last_is next_is a.0 b.0 c (short b.0 told1) a.2 (read b.0 told1) b.2);
  tells = added.tells ∙ ap is_some same ∙ so.tells;
}

pub spelling_end : (meaning : List ℕ → List ℕ) (places : Places) (count left gate at : ℕ) (d0 d1 : Option (List ℕ)) → left ≡ 0 → Changes (Spelling meaning places count left gate at) d0 d1 → Changes (SpellsRing meaning places count at) d0 d1
spelling_end meaning places count left gate at d0 d1 none so = record {
  back = λ c told. let a = so.back c told in (a.0, a.1, spelled_all meaning places count left gate at a.0 c none a.2);
  tells = so.tells;
}

pub where_no_memory : (Q : Type 0) (e : RewriteRefusal) → Q → WhereNoMemory Q e
where_no_memory Q DiskFault q = tt
where_no_memory Q NoMemory q = q

pub lost_memory : (Q : Type 0) (e : RewriteRefusal) → e ≡ NoMemory → WhereNoMemory Q e → Q
lost_memory Q e is lost = subst (WhereNoMemory Q) is lost

pub fault_rose : (before now : ℕ) (e : RewriteRefusal) → e ≡ DiskFault → HasReadCause before now e → Rose before now
fault_rose before now e is cause = subst (HasReadCause before now) is cause

pub lost_still : (before now : ℕ) (e : RewriteRefusal) → e ≡ NoMemory → HasReadCause before now e → now ≡ before
lost_still before now e is cause = subst (HasReadCause before now) is cause
