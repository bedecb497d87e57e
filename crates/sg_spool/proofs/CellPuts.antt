-- What a change of the cell makes of a ring.
use Rattle.std.proofs.Common.{◌≡◌, ◌⊎◌, inl, inr, ⊎_elim, ℕ, ◌+◌, ◌≤◌, List, get_or, sym, ◌∙◌, ap, arith, Some, None, Option}
use Rattle.sg_device.specs.Disk.{DiskState, IsImage, Within, EachNow}
use Rattle.sg_device.proofs.Disks.{within_now, within_as}
use Rattle.sg_stable.specs.Cell.{cell_value, HasCell, SameOutside, PutsValue}
use Rattle.sg_stable.specs.declared.cell.Pair.{Pair}
use Rattle.sg_stable.proofs.Cells.{value_of}
use Rattle.sg_spool.specs.Advancing.{IsRingReady}
use Rattle.sg_spool.specs.Lists.{Perhaps}
use Rattle.sg_spool.specs.Ring.{Entries, IsBufferFile, IsRow, IsLaid}
use Rattle.sg_spool.specs.Steps.{RingAt, Stems, After}
use Rattle.sg_spool.proofs.Rings.{run_same, run_grows, head_above, end_above, size_same}
use Rattle.sg_spool.proofs.Chains.{after_stays, after_step, within_join}

-- the bytes behind the cell
behind : (c d : List ℕ) → SameOutside c d → (k : ℕ) → 40 ≤ k → get_or d k 0 ≡ get_or c k 0
behind c d same k le = same.rest k (inr (inr le))

row_outside : (jump : Option ℕ) (c d : List ℕ) (head end : ℕ) (es : Entries) → 64 ≤ head → SameOutside c d → IsRow jump c head end es → IsRow jump d head end es
row_outside None c d head end es high same row = run_same c d head es end row (λ k low up. behind c d same k (omega (arith, low, high))) (omega (arith, same.size))
row_outside (Some j) c d head end es high same row =
    let up = run_grows c head row.first j row.to_jump in
    let whole = row.jumps.whole in
    record {
      first = row.first;
      second = row.second;
      both = row.both;
      to_jump = run_same c d head row.first j row.to_jump (λ k low to. behind c d same k (omega (arith, low, high))) (omega (arith, same.size));
      jumps = record {
        whole = omega (arith, whole, same.size);
        opened = λ shut. row.jumps.opened (sym (behind c d same j (omega (arith, up, high))) ∙ shut);
        jumps = size_same (j + 1) c d (omega (arith, whole)) (omega (arith, whole, same.size)) (λ k low to. behind c d same k (omega (arith, low, up, high))) ∙ row.jumps.jumps;
      };
      from_front = run_same c d 64 row.second end row.from_front (λ k low to. behind c d same k (omega arith)) (omega (arith, same.size));
    }

pub ready_of : (jump : Option ℕ) (head end : ℕ) (es : Entries) (c : List ℕ) → IsLaid jump head end es c → IsRingReady jump head end es c
ready_of jump head end es c laid = record {
  size = laid.buffer.size;
  high = head_above c head laid.buffer;
  low = end_above jump c head end es laid.buffer laid.row;
  inside = laid.buffer.inside;
  row = laid.row;
  ends = laid.ends;
  below = laid.below;
}

-- once the cell has the value, the ring stands there
laid_by : (jump : Option ℕ) (head end : ℕ) (es : Entries) (other : ℕ) (c d : List ℕ) → IsRingReady jump head end es c → IsBufferFile c other → SameOutside c d → 64 + cell_value d ≡ head → IsLaid jump head end es d
laid_by jump head end es other c d ready buffer same is = record {
  buffer = record {
    size = omega (arith, ready.size, same.size);
    zeros = λ k lt out. same.rest k out ∙ buffer.zeros k lt out;
    at_head = is;
    inside = omega (arith, ready.inside, same.size);
  };
  row = row_outside jump c d head end es ready.high same ready.row;
  ends = record { inside = omega (arith, ready.ends.inside, same.size); shut = behind c d same end (omega (arith, ready.low)) ∙ ready.ends.shut };
  below = ready.below;
}

module _ (cell : Pair) (jump : Option ℕ) (head end : ℕ) (es : Entries) (longer : Option ℕ) (first last : ℕ) (fs : Entries) where
  -- the ring, and another that waits for the cell's value
  pub record IsPrepared (c : List ℕ) : Type 0 where
    pub ring : RingAt cell jump head end es c
    pub ready : IsRingReady longer first last fs c

  old_laid : (c d : List ℕ) → IsPrepared c → SameOutside c d → cell_value d ≡ cell.value → IsLaid jump head end es d
  old_laid c d at same value_is =
      laid_by jump head end es head c d (ready_of jump head end es c at.ring.laid) at.ring.laid.buffer same
      (ap (λ (v : ℕ). 64 + v) (value_is ∙ sym (value_of cell.selector cell.value c at.ring.has_cell)) ∙ at.ring.laid.buffer.at_head)

  new_laid : (value : ℕ) (is : 64 + value ≡ first) (c d : List ℕ) → IsPrepared c → SameOutside c d → cell_value d ≡ value → IsLaid longer first last fs d
  new_laid value is c d at same value_is = laid_by longer first last fs head c d at.ready at.ring.laid.buffer same (ap (λ (v : ℕ). 64 + v) value_is ∙ is)

  module _ (value : ℕ) (is : 64 + value ≡ first) (d1 d2 : DiskState) (now1 : EachNow d1 IsPrepared) (put : Within d1 d2 (PutsValue (IsImage d1) cell.value value)) where
    pub put_laid : Within d1 d2 (λ c. IsLaid jump head end es c ⊎ IsLaid longer first last fs c)
    put_laid = within_as d1 d2 (PutsValue (IsImage d1) cell.value value) (λ c. IsLaid jump head end es c ⊎ IsLaid longer first last fs c) put (λ c puts.
        let at = now1 puts.before puts.was in
        ⊎_elim (λ old. inl (old_laid puts.before c at puts.outside old)) (λ new. inr (new_laid value is puts.before c at puts.outside new)) puts.value)

    pub put_new : (after : Pair) → after.value ≡ value → EachNow d2 (HasCell after.selector after.value) → EachNow d2 (RingAt after longer first last fs)
    put_new after same has c left =
        let puts = within_now d1 d2 (PutsValue (IsImage d1) cell.value value) put c left in
        record { laid = new_laid value is puts.before c (now1 puts.before puts.was) puts.outside (value_of after.selector after.value c (has c left) ∙ same); has_cell = has c left }

  module _ (step : Entries → Entries → Type 0) (goes : step es fs) (value : ℕ) (is : 64 + value ≡ first) (d0 d1 d2 : DiskState) (now1 : EachNow d1 (Stems (IsImage d0) IsPrepared)) (put : Within d1 d2 (PutsValue (IsImage d1) cell.value value)) where
    abbrev P : List ℕ → Type 0
    P c = Stems (IsImage d0) (After (Perhaps step) es) c

    each : (c : List ℕ) → PutsValue (IsImage d1) cell.value value c → P c
    each c puts =
        let at = now1 puts.before puts.was in
        record {
          origin = at.origin;
          was = at.was;
          holds = ⊎_elim (λ old. after_stays step es c (record { jump = jump; head = head; end = end; laid = old_laid puts.before c at.holds puts.outside old }))
              (λ new. after_step step es fs c goes (record { jump = longer; head = first; end = last; laid = new_laid value is puts.before c at.holds puts.outside new })) puts.value;
        }

    pub put_within : Within d0 d1 P → Within d0 d2 P
    put_within so_far = within_join d0 d1 d2 P (PutsValue (IsImage d1) cell.value value) so_far put each

    pub put_ring : (after : Pair) → after.value ≡ value → EachNow d2 (HasCell after.selector after.value) → EachNow d2 (Stems (IsImage d0) (RingAt after longer first last fs))
    put_ring after same has c left =
        let puts = within_now d1 d2 (PutsValue (IsImage d1) cell.value value) put c left in
        let at = now1 puts.before puts.was in
        record {
          origin = at.origin;
          was = at.was;
          holds = record { laid = new_laid value is puts.before c at.holds puts.outside (value_of after.selector after.value c (has c left) ∙ same); has_cell = has c left };
        }
