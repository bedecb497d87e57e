-- The first entries are taken off.
use Rattle.std.proofs.Common.{◌≡◌, ⊎_elim, inl, inr, ℕ, zero, suc, ◌+◌, ◌≤◌, List, [], ◌∷◌, map, take, drop, None, refl, sym, ap, ◌∙◌, arith, subst, true, false, Bool}
use Rattle.std.specs.Prelude.{Ok, Err}
use Rattle.std.proofs.lemmas.List.{append-nil, length-drop}
use Rattle.sg_device.specs.Disk.{DiskState, content, Within, WhereTold}
use Rattle.sg_device.specs.declared.fault.DiskFault.{DiskFault}
use Rattle.sg_device.proofs.Disks.{started, within_as}
use Rattle.sg_device.proofs.DiskCalls.{reads_as_image}
use Rattle.sg_codec.proofs.WriteLemmas.{length-spelling}
use Rattle.sg_spool.specs.Ring.{Entries, IsList, space as spool_space}
use Rattle.sg_spool.specs.Lists.{IsEitherList}
use Rattle.sg_spool.specs.Places.{live}
use Rattle.sg_spool.specs.Calls.{SpoolLasts, LeavesImages}
use Rattle.sg_spool.specs.Answers.{AdvancesSpool as SpoolAdvances}
use Rattle.sg_spool.specs.View.{View, HoldsAt}
use Rattle.sg_spool.specs.declared.rows.Rows.{Rows}
use Rattle.sg_spool.proofs.Unique.{list_unique}
use Rattle.sg_buffer.specs.Entries.{AreKept, spelled}
use Rattle.sg_machine.specs.Runs.{BufferedEntry}
use Rattle.sg_sinks.specs.Fitting.{space}
use Rattle.sg_stores.specs.Stores.{StoreState, HoldsEntries, HasBufferSize, coded, length_of, buffer_state}
use Rattle.sg_stores.specs.Advancing.{HasFirst, IsListOrRest, AdvancesStore}
use Rattle.sg_stores.proofs.StoreLemmas.{goes_refl, goes_open, goes_closed, list-of, each-held, space-parts}

-- a store that has failed stays as it is
pub failed-advances : (store : StoreState) (n size : ℕ) → store.failed ≡ true → AdvancesStore store store n size
failed-advances store n size failed = record {
  position = refl;
  goes = goes_refl store;
  before = λ f. refl;
  cause = λ works. absurd (let no : true ≡ false = sym failed ∙ works in cc);
  within = λ list held. started store.disk (IsListOrRest n list) (λ c left. inl (each-held store list [] held c left));
  holds = λ works. absurd (let no : true ≡ false = sym failed ∙ works in cc);
  sized = λ works. absurd (let no : true ≡ false = sym failed ∙ works in cc);
}

-- one that isn't a disk-buffer has no entries
pub none-advances : (store : StoreState) (n size : ℕ) (failed : Bool) → store.failed ≡ failed → (store.failed ≡ false → HasFirst store n size) → store.buffer ≡ None → AdvancesStore store store n size
none-advances store n size true is first none = failed-advances store n size is
none-advances store n size false is first none =
    let can = first is in
    absurd (subst (λ b. HasBufferSize can.capacity (map length_of can.list) b) none can.sized)

-- what the first entries take
space-spelled : (n : ℕ) (list : List BufferedEntry) → spool_space (take n (spelled (map coded list))) ≡ space (take n (map length_of list))
space-spelled zero list = refl
space-spelled (suc n) [] = refl
space-spelled (suc n) (k ∷ list) = let i = space-spelled n list in omega (arith, i, length-spelling (coded k))

drop-spelled : (n : ℕ) (list : List BufferedEntry) → drop n (spelled (map coded list)) ≡ spelled (map coded (drop n list))
drop-spelled zero list = refl
drop-spelled (suc n) [] = refl
drop-spelled (suc n) (k ∷ list) = drop-spelled n list

kept-drop : (n : ℕ) (list : List BufferedEntry) → AreKept (map coded list) → AreKept (map coded (drop n list))
kept-drop zero list are = are
kept-drop (suc n) [] are = are
kept-drop (suc n) (k ∷ list) are = kept-drop n list are.1

module _ {D : Type 0} (state : D → DiskState) (old : View D) (f : Bool) (n size : ℕ) where
  -- what can be taken off
  pub first-inside : HasFirst (buffer_state state f old) n size → size ≤ live old.rows.list
  first-inside first = let parts = space-parts n (map length_of first.list) in let is = first.spaced in let sized = first.sized.listed in omega (arith, parts, is, sized)

  pub first-sized : HasFirst (buffer_state state f old) n size → WhereTold (content (state old.disk)) (λ bytes. (list : Entries) → IsList list bytes → size ≡ spool_space (take n list))
  first-sized first bytes told list is =
      let same : spelled (map coded first.list) ≡ list = list_unique (spelled (map coded first.list)) list bytes (first.holds.holds.images bytes (reads_as_image (state old.disk) bytes told)) is in
      first.spaced ∙ sym (space-spelled n first.list) ∙ ap (λ (e : Entries). spool_space (take n e)) same

  module _ (new : View D) (lasts : SpoolLasts state old new) (leaves : LeavesImages state old new (λ list staged. drop n list)) (works : f ≡ false) where
    advance-within : (list : List BufferedEntry) → HoldsEntries (buffer_state state f old) list [] → Within (state old.disk) (state new.disk) (IsListOrRest n list)
    advance-within list held =
        let kept : AreKept (map coded list) = subst (λ (l : List BufferedEntry). AreKept (map coded l)) (append-nil list) held.kept in
        within_as (state old.disk) (state new.disk) (IsEitherList (spelled (map coded list)) (drop n (spelled (map coded list)))) (IsListOrRest n list) (leaves.within (spelled (map coded list)) [] held.holds)
        (λ c is. ⊎_elim (λ one. inl (list-of list c kept one)) (λ two. inr (list-of (drop n list) c (kept-drop n list kept) (subst (λ (e : Entries). IsList e c) (drop-spelled n list) two))) is)

    -- they are off the list
    pub done-advances : (done : Unit) → SpoolAdvances state old new n (Ok done) → live new.rows.list + size ≡ live old.rows.list → AdvancesStore (buffer_state state f old) (buffer_state state f new) n size
    done-advances done advances lives = record {
      position = refl;
      goes = goes_open state f old new lasts advances.1;
      before = λ failed. absurd (let no : false ≡ true = sym works ∙ failed in cc);
      cause = λ w failed. absurd (let no : false ≡ true = sym works ∙ failed in cc);
      within = advance-within;
      holds = λ w list held. record {
        holds = subst (λ (e : Entries). HoldsAt (state new.disk) new.rows e []) (drop-spelled n list) (advances.4 (spelled (map coded list)) held.holds);
        kept = subst (λ (l : List BufferedEntry). AreKept (map coded l)) (sym (append-nil (drop n list))) (kept-drop n list (subst (λ (l : List BufferedEntry). AreKept (map coded l)) (append-nil list) held.kept));
      };
      sized = λ w capacity lengths size0 spaced.
          let parts = space-parts n lengths in
          let long = length-drop n lengths in
          let rows = advances.2 in
          let left : live new.rows.list ≡ space (drop n lengths) = omega (arith, parts, spaced, lives, size0.listed) in
          record {
            limit = lasts.capacity ∙ size0.limit;
            count = ap (λ (r : Rows). r.count) rows ∙ (let counted = size0.count in omega (arith, counted, long));
            listed = left;
            ahead = ap (λ (r : Rows). live r.ahead) rows ∙ left;
            unstaged = ap (λ (r : Rows). r.staged) rows;
          };
    }

    -- the disk failed
    pub failed-advance : (e : DiskFault) → old.closed ≡ false → SpoolAdvances state old new n (Err e) → AdvancesStore (buffer_state state f old) (buffer_state state true new) n size
    failed-advance e open_ advances = record {
      position = refl;
      goes = goes_closed state f old new lasts open_ advances.1;
      before = λ failed. absurd (let no : false ≡ true = sym works ∙ failed in cc);
      cause = λ w failed. lasts.blames (state old.disk).faults (omega arith) (λ closed. absurd (let no : false ≡ true = sym open_ ∙ closed in cc)) advances.1;
      within = advance-within;
      holds = λ no. absurd (let wrong : true ≡ false = no in cc);
      sized = λ no. absurd (let wrong : true ≡ false = no in cc);
    }
