-- Moving a list behind its jump, call by call.
use Rattle.std.proofs.Common.{◌≡◌, ⊎_elim, ℕ, ◌+◌, ◌-◌, ◌≤◌, List, length, refl, sym, ◌∙◌, ap, subst, arith, Some, None, Option}
use Rattle.std.specs.Prelude.{Result, is_some}
use Rattle.sg_device.specs.DiskBytes.{Written, AreBytesRead, Same}
use Rattle.sg_device.specs.Disk.{DiskState, content, IsImage, Changes, Elapses, Preserves, Durable, Within, EachNow, WhereTold, Writes}
use Rattle.sg_device.specs.declared.fault.DiskFault.{DiskFault}
use Rattle.sg_device.proofs.Disks.{changes_trans, durable_now, told_same, now_on, within_as}
use Rattle.sg_device.proofs.DiskCalls.{reads_as_image, unchanged, content_same, write_elapses}
use Rattle.sg_stable.specs.Cell.{HasCell, PutsValue}
use Rattle.sg_stable.specs.declared.cell.Pair.{Pair}
use Rattle.sg_spool.specs.Copying.{Beyond, Copies}
use Rattle.sg_spool.specs.Lists.{ListStays, Perhaps}
use Rattle.sg_spool.specs.Places.{AreGatesOrdered}
use Rattle.sg_spool.specs.Ring.{Entries}
use Rattle.sg_spool.specs.Steps.{RingAt, Stems, After, Spares}
use Rattle.sg_spool.proofs.CellPuts.{IsPrepared, put_within, put_ring}
use Rattle.sg_spool.proofs.Chains.{elapses_as, elapses_join, spared_within, stem_as}
use Rattle.sg_spool.proofs.Copying.{beyond_refl, beyond_trans, beyond_less, beyond_torn, beyond_spares, copies_none, copies_more, copies_piece, gathered}
use Rattle.sg_spool.proofs.Rings.{has_cell_same, ring_spared}

-- a call that changes no bytes
pub still_beyond : (at : ℕ) (d0 d1 : DiskState) → Elapses Same d0 d1 → Elapses (Beyond at) d0 d1
still_beyond at d0 d1 still = elapses_as d0 d1 (λ d c same. subst (λ (l : List ℕ). Beyond at d l) (sym same) (beyond_refl at d)) still

pub untold_beyond : (at : ℕ) (d0 d1 : DiskState) → d1.told ≡ d0.told → Elapses (Beyond at) d0 d1
untold_beyond at d0 d1 is = still_beyond at d0 d1 (unchanged d0 d1 is).still

pub join_beyond : (at : ℕ) (d0 d1 d2 : DiskState) → Elapses (Beyond at) d0 d1 → Elapses (Beyond at) d1 d2 → Elapses (Beyond at) d0 d2
join_beyond at d0 d1 d2 one two = elapses_join (Beyond at) d0 d1 d2 (beyond_refl at) (beyond_trans at) one two

pub less_beyond : (at more : ℕ) (d0 d1 : DiskState) → at ≤ more → Elapses (Beyond more) d0 d1 → Elapses (Beyond at) d0 d1
less_beyond at more d0 d1 le time = elapses_as d0 d1 (λ d c beyond. beyond_less at more d c le beyond) time

-- a piece, read and written
pub piece_images : (at : ℕ) (bytes : List ℕ) (d0 d1 d2 : DiskState) (result : Result Unit DiskFault) → d1.told ≡ d0.told → Writes d1 d2 at bytes result → Elapses (Beyond at) d0 d2
piece_images at bytes d0 d1 d2 result is writes = join_beyond at d0 d1 d2 (untold_beyond at d0 d1 is) (elapses_as d1 d2 (beyond_torn at (length bytes)) (write_elapses d1 d2 at bytes result writes))

pub piece_copied : (source at size count : ℕ) (before after : List ℕ) (d0 d1 d2 : DiskState) → d1.told ≡ d0.told → WhereTold (content d0) (λ b. AreBytesRead source b before after count) → length before ≡ size → length after ≡ size → Changes (Written at after) (content d1) (content d2) → Changes (Copies source at size) (content d0) (content d2)
piece_copied source at size count before after d0 d1 d2 is reads one two change = record {
  back = λ c told.
      let from = change.back c told in
      let was = sym (content_same d0 d1 is) ∙ from.1 in
      (from.0, was, copies_piece source at size count from.0 c before after (reads from.0 was) one two from.2);
  tells = change.tells ∙ ap is_some (content_same d0 d1 is);
}

pub copied_none : (source at : ℕ) (old : Option (List ℕ)) → Changes (Copies source at 0) old old
copied_none source at old = record { back = λ b is. (b, is, copies_none source at b); tells = refl }

pub copied_more : (source at done count : ℕ) (a b c : Option (List ℕ)) → source + done + count ≤ at → Changes (Copies source at done) a b → Changes (Copies (source + done) (at + done) count) b c → Changes (Copies source at (done + count)) a c
copied_more source at done count a b c apart one two = changes_trans (Copies source at (done + count)) one two (λ x y z first second. copies_more source at done count x y z apart first second)

-- the cell is before all that is written
pub beyond_cells : (s v at : ℕ) (d0 d1 : DiskState) → 40 ≤ at → EachNow d0 (HasCell s v) → Elapses (Beyond at) d0 d1 → EachNow d1 (HasCell s v)
beyond_cells s v at d0 d1 high start time = now_on d0 d1 (HasCell s v) (HasCell s v) time start
    (λ d c cell beyond. has_cell_same s v d c cell beyond.longer (λ k lt. beyond.same k (omega (arith, lt, high)) (omega (arith, lt, cell.size)))) (λ c cell. cell)

pub as_stays : (from : List ℕ → Type 0) (es : Entries) (c : List ℕ) → Stems from (After (Perhaps ListStays) es) c → Stems from (After ListStays es) c
as_stays from es c stem = stem_as from (After (Perhaps ListStays) es) (After ListStays es) c c stem (λ after. (after.0, ⊎_elim (λ same. same) (λ same. same) after.1, after.2))

module _ (cell : Pair) (jump head end : ℕ) (es : Entries) (ordered : AreGatesOrdered (Some jump) head end) (d0 d1 : DiskState) (start : EachNow d0 (RingAt cell (Some jump) head end es)) where
  spares : (d c : List ℕ) → Beyond (jump + 5) d c → Spares (Some jump) head end d c
  spares d c beyond = beyond_spares (Some jump) head end d c ordered beyond

  pub stays_beyond : Elapses (Beyond (jump + 5)) d0 d1 → Within d0 d1 (Stems (IsImage d0) (After ListStays es))
  stays_beyond time = within_as d0 d1 (Stems (IsImage d0) (After (Perhaps ListStays) es)) (Stems (IsImage d0) (After ListStays es))
      (spared_within cell (Some jump) head end es d0 d1 start (elapses_as d0 d1 spares time) ListStays) (as_stays (IsImage d0) es)

  module _ (d2 d3 d4 : DiskState) (one : Changes (Copies head (jump + 5) (jump - head)) (content d0) (content d1)) (two : Changes (Copies 64 (jump + 5 + (jump - head)) (end - 63)) (content d1) (content d2))
      (keeps : Preserves d2 d3) (durable : Durable d3) (time : Elapses (Beyond (jump + 5)) d0 d3) (value : ℕ) (is : 64 + value ≡ jump + 5) (put : Within d3 d4 (PutsValue (IsImage d3) cell.value value)) where
    abbrev Prepared : List ℕ → Type 0
    Prepared c = IsPrepared cell (Some jump) head end es None (jump + 5) (jump + 5 + (jump - head) + (end - 64)) es c

    told2 : WhereTold (content d2) (Stems (IsImage d0) Prepared)
    told2 c told =
        let b = two.back c told in
        let a = one.back b.0 b.1 in
        let was = reads_as_image d0 a.0 a.1 in
        let ring = start a.0 was in
        record {
          origin = a.0;
          was = was;
          holds = record {
            ring = ring_spared cell (Some jump) head end es a.0 c ring (spares a.0 c (beyond_trans (jump + 5) a.0 b.0 c a.2.beyond (beyond_less (jump + 5) (jump + 5 + (jump - head)) b.0 c (omega arith) b.2.beyond)));
            ready = gathered jump head end es a.0 b.0 c ordered ring.laid a.2 b.2;
          };
        }

    now3 : EachNow d3 (Stems (IsImage d0) Prepared)
    now3 = durable_now d3 (Stems (IsImage d0) Prepared) durable (told_same (Stems (IsImage d0) Prepared) keeps.told told2)

    pub stays_put : Within d0 d4 (Stems (IsImage d0) (After ListStays es))
    stays_put = within_as d0 d4 (Stems (IsImage d0) (After (Perhaps ListStays) es)) (Stems (IsImage d0) (After ListStays es))
        (put_within cell (Some jump) head end es None (jump + 5) (jump + 5 + (jump - head) + (end - 64)) es ListStays refl value is d0 d3 d4 now3 put
        (spared_within cell (Some jump) head end es d0 d3 start (elapses_as d0 d3 spares time) ListStays)) (as_stays (IsImage d0) es)

    pub ring_put : (after : Pair) → after.value ≡ value → EachNow d4 (HasCell after.selector after.value) → EachNow d4 (Stems (IsImage d0) (RingAt after None (jump + 5) (jump + 5 + (jump - head) + (end - 64)) es))
    ring_put after same has = put_ring cell (Some jump) head end es None (jump + 5) (jump + 5 + (jump - head) + (end - 64)) es ListStays refl value is d0 d3 d4 now3 put after same has
