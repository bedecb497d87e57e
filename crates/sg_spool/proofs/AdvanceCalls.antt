-- Taking the first entries off the list, call by call.
use Rattle.std.proofs.Common.{◌≡◌, ◌⊎◌, inl, inr, ⊎_elim, ℕ, ◌+◌, ◌-◌, ◌≤◌, List, length, drop, refl, sym, ◌∙◌, ap, subst, arith, Some, None, Option}
use Rattle.std.proofs.lemmas.Bool.{cases_lt}
use Rattle.std.proofs.lemmas.Bool.Decides.{nat_tests}
use Rattle.sg_device.specs.Disk.{DiskLog, DiskState, content, IsImage, Within, EachNow, bytes_after}
use Rattle.sg_device.proofs.Disks.{within_as}
use Rattle.sg_stable.specs.Cell.{HasCell, PutsValue}
use Rattle.sg_stable.specs.declared.cell.Pair.{Pair}
use Rattle.sg_spool.specs.Places.{AreGatesOrdered, IsOrdered, AreCompact, skipped, skip}
use Rattle.sg_spool.specs.Ring.{Entries, IsLaid}
use Rattle.sg_spool.specs.View.{IsRing}
use Rattle.sg_spool.specs.declared.places.Places.{Places}
use Rattle.sg_spool.specs.Advancing.{HasRingEntries, IsAdvanced, IsReadyAt}
use Rattle.sg_spool.proofs.CellPuts.{IsPrepared, put_laid, put_new}
use Rattle.sg_spool.proofs.Advancing.{ready_skip}

log_told : (told : Option DiskLog) (f : ℕ) (c : List ℕ) → IsImage (record { told = told; faults = f }) c → (b : List ℕ) × (content (record { told = told; faults = f }) ≡ Some b)
log_told None f c left = absurd left
log_told (Some log) f c left = (bytes_after log.first log.events, refl)

-- a disk of which there is an image tells its bytes
pub image_told : (d : DiskState) (c : List ℕ) → IsImage d c → (b : List ℕ) × (content d ≡ Some b)
image_told d c left = log_told d.told d.faults c left

pub head_high : (jump : Option ℕ) (head end : ℕ) → AreGatesOrdered jump head end → 64 ≤ head
head_high None head end ordered = ordered.0
head_high (Some jump) head end ordered = omega (arith, ordered.0, ordered.1)

-- a ring that is within the bound stays within it
pub compact_skip : (capacity : ℕ) (jump : Option ℕ) (head end size : ℕ) → AreGatesOrdered jump head end → AreCompact capacity jump head end → AreCompact capacity (skipped jump head end size).jump (skipped jump head end size).head (skipped jump head end size).end
compact_skip capacity None head end size ordered compact = compact
compact_skip capacity (Some jump) head end size ordered compact = elim (cases_lt size (jump - head)) [
  | inl before ↦
      let places : skipped (Some jump) head end size ≡ record { jump = Some jump; head = head + size; end = end } = grind (arith, nat_tests) in
      subst (λ (q : Places). AreCompact capacity q.jump q.head q.end) (sym places) (omega (arith, compact.0), compact.1)
  | inr behind ↦
      let places : skipped (Some jump) head end size ≡ record { jump = None; head = 64 + (size - (jump - head)); end = end } = grind (arith, nat_tests) in
      subst (λ (q : Places). AreCompact capacity q.jump q.head q.end) (sym places) (omega (arith, ordered.1, ordered.2, compact.1))
]

pub next_value : (q next : Places) → q ≡ next → IsOrdered q → 64 + (q.head - 64) ≡ next.head
next_value q next is ordered = let high = head_high q.jump q.head q.end ordered in omega (arith, high) ∙ ap (λ (r : Places). r.head) is

-- a file's length stays, while the cell is put
pub short_put : (most old value : ℕ) (d0 d1 : DiskState) → EachNow d0 (λ c. length c ≤ most) → Within d0 d1 (PutsValue (IsImage d0) old value) → Within d0 d1 (λ c. length c ≤ most)
short_put most old value d0 d1 start put = within_as d0 d1 (PutsValue (IsImage d0) old value) (λ c. length c ≤ most) put (λ c puts. let long = puts.outside.size in let was = start puts.before puts.was in omega (arith, long, was))

module _ (cell : Pair) (places next : Places) (n size : ℕ) (es : Entries) (ordered : IsOrdered places) (goes : next ≡ skip places size) (d0 d1 : DiskState) (start : EachNow d0 (HasRingEntries cell places n size es)) (value : ℕ) (is : 64 + value ≡ next.head) (put : Within d0 d1 (PutsValue (IsImage d0) cell.value value)) where
  prepared : EachNow d0 (IsPrepared cell places.jump places.head places.end es next.jump next.head next.end (drop n es))
  prepared c left =
      let at = start c left in
      record { ring = at.ring; ready = subst (λ (q : Places). IsReadyAt q (drop n es) c) (sym goes) (ready_skip places.jump places.head places.end n size es c ordered at.enough at.sized at.ring.laid) }

  within_bound : (capacity : ℕ) → AreCompact capacity places.jump places.head places.end → AreCompact capacity next.jump next.head next.end
  within_bound capacity compact = subst (λ (q : Places). AreCompact capacity q.jump q.head q.end) (sym goes) (compact_skip capacity places.jump places.head places.end size ordered compact)

  -- the ring, or the ring without its first entries
  pub advance_put : Within d0 d1 (IsAdvanced places n es)
  advance_put = within_as d0 d1 (λ c. IsLaid places.jump places.head places.end es c ⊎ IsLaid next.jump next.head next.end (drop n es) c) (IsAdvanced places n es)
      (put_laid cell places.jump places.head places.end es next.jump next.head next.end (drop n es) value is d0 d1 prepared put)
      (λ c at. ⊎_elim (λ old. inl old) (λ new. inr (record { next = next; laid = new; compact = within_bound })) at)

  pub advanced : (after : Pair) → after.value ≡ value → EachNow d1 (HasCell after.selector after.value) → EachNow d1 (IsRing after next (drop n es))
  advanced after same has = put_new cell places.jump places.head places.end es next.jump next.head next.end (drop n es) value is d0 d1 prepared put after same has
