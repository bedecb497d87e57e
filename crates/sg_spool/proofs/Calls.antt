-- What every call keeps.
use Rattle.std.proofs.Common.{◌≡◌, ◌⊎◌, inl, inr, ⊎_elim, ℕ, ◌+◌, ◌-◌, ◌≤◌, ◌^◌, min, List, [], ◌∷◌, ◌++◌, length, refl, sym, ◌∙◌, ap, subst, arith}
use Rattle.std.specs.Prelude.{Bool, true, false, Result, Ok, Err}
use Rattle.sg_device.specs.Disk.{DiskState, Moves, Preserves, Within}
use Rattle.sg_device.specs.Faults.{Rose}
use Rattle.sg_device.proofs.Disks.{moves_refl, now_same, within_as, within_preserves}
use Rattle.sg_device.proofs.DiskCalls.{content_same, moves_trans, unchanged}
use Rattle.sg_device.specs.declared.fault.DiskFault.{DiskFault as DeviceFault}
use Rattle.sg_spool.specs.Answers.{AdvancesSpool}
use Rattle.sg_spool.specs.Calls.{SpoolLasts, LeavesImages}
use Rattle.sg_spool.specs.Lists.{IsEitherList}
use Rattle.std.proofs.lemmas.List.{append-nil}
use Rattle.sg_spool.specs.Ring.{Entries, IsList}
use Rattle.sg_spool.specs.Rows.{listed, committed, total}
use Rattle.sg_spool.specs.declared.rows.Rows.{Rows}
use Rattle.sg_spool.proofs.Chains.{within_join}
use Rattle.sg_spool.specs.View.{View, HoldsAt, IsCompactAt, IsCompactIn}
use Rattle.sg_spool.proofs.Whole.{stay_one, stay_short, listed_same}

-- nothing changed
pub lasts_same : {D : Type 0} (state : D → DiskState) (v : View D) → SpoolLasts state v v
lasts_same state v = record {
  capacity = refl;
  moves = moves_refl (state v.disk);
  untouched = λ shut. refl;
  later = omega arith;
  works = λ works. refl;
  blames = λ f le was shut. was shut;
}

pub leaves_same : {D : Type 0} (state : D → DiskState) (v : View D) (step : Entries → Entries → Entries) → LeavesImages state v v step
leaves_same state v step = record {
  within = λ list staged holds. stay_one v.rows list staged (step list staged) (state v.disk) holds;
  short = λ compact. stay_short v.rows v.capacity (state v.disk) compact;
  compact = λ compact. compact;
}

-- an open one went on
pub lasts_open : {D : Type 0} (state : D → DiskState) (old new : View D) → old.closed ≡ false → new.capacity ≡ old.capacity → Moves (state old.disk) (state new.disk) → (state old.disk).faults ≤ (state new.disk).faults → (new.closed ≡ false → (state new.disk).faults ≡ (state old.disk).faults) → (new.closed ≡ true → Rose (state old.disk).faults (state new.disk).faults) → SpoolLasts state old new
lasts_open state old new open_ capacity moves later works rose = record {
  capacity = capacity;
  moves = moves;
  untouched = λ shut. absurd (let no : false ≡ true = sym open_ ∙ shut in cc);
  later = later;
  works = works;
  blames = λ f le was shut. let now = rose shut in omega (arith, le, now);
}

-- one that isn't closed wasn't before
open_before : {D : Type 0} (state : D → DiskState) (mid new : View D) → SpoolLasts state mid new → new.closed ≡ false → (shut : Bool) → mid.closed ≡ shut → mid.closed ≡ false
open_before state mid new lasts works true is = absurd (let same = lasts.untouched is in let no : true ≡ false = sym is ∙ sym (ap (λ (v : View _). v.closed) same) ∙ works in cc)
open_before state mid new lasts works false is = is

pub lasts_trans : {D : Type 0} (state : D → DiskState) (old mid new : View D) → SpoolLasts state old mid → SpoolLasts state mid new → SpoolLasts state old new
lasts_trans state old mid new one two = record {
  capacity = two.capacity ∙ one.capacity;
  moves = moves_trans (state old.disk) (state mid.disk) (state new.disk) one.moves two.moves;
  untouched = λ shut. let same = one.untouched shut in two.untouched (ap (λ (v : View _). v.closed) same ∙ shut) ∙ same;
  later = omega (arith, one.later, two.later);
  works = λ works. two.works works ∙ one.works (open_before state mid new two works mid.closed refl);
  blames = λ f le was shut. two.blames f (omega (arith, le, one.later)) (one.blames f le was) shut;
}

no_payloads : (ps : Entries) (n : ℕ) → n ≡ 0 → n ≡ length ps → ps ≡ []
no_payloads [] n none is = refl
no_payloads (p ∷ ps) n none is = absurd (omega (arith, none, is))

-- an append, which is a stage and a commit where nothing was staged
module _ {D : Type 0} (state : D → DiskState) (old mid : View D) (payload : List ℕ) (none : old.rows.staged ≡ 0) (first : LeavesImages state old mid (λ list staged. list ++ staged)) where
  append_first : (list staged : Entries) → HoldsAt (state old.disk) old.rows list staged → Within (state old.disk) (state mid.disk) (IsEitherList list (list ++ payload ∷ []))
  append_first list staged holds = within_as (state old.disk) (state mid.disk) (IsEitherList list (list ++ staged)) (IsEitherList list (list ++ payload ∷ [])) (first.within list staged holds)
      (λ c at. ⊎_elim (λ one. inl one) (λ two. inl (subst (λ (l : Entries). IsList l c) (ap (λ (ps : Entries). list ++ ps) (no_payloads staged old.rows.staged none holds.number) ∙ append-nil list) two)) at)

  pub append_failed : LeavesImages state old mid (λ list staged. list ++ payload ∷ [])
  append_failed = record { within = append_first; short = first.short; compact = first.compact }

  module _ (new : View D) (capacity : mid.capacity ≡ old.capacity) (P Q : Type 0) (done : (list staged : Entries) → HoldsAt (state old.disk) old.rows list staged → (HoldsAt (state mid.disk) mid.rows list (staged ++ payload ∷ []) × P) ⊎ (HoldsAt (state mid.disk) mid.rows (list ++ staged) (payload ∷ []) × Q))
    where
      pub append_held : (list staged : Entries) → HoldsAt (state old.disk) old.rows list staged → HoldsAt (state mid.disk) mid.rows list (payload ∷ [])
      append_held list staged holds =
          let empty = no_payloads staged old.rows.staged none holds.number in
          ⊎_elim (λ one. subst (λ (ps : Entries). HoldsAt (state mid.disk) mid.rows list (ps ++ payload ∷ [])) empty one.0)
          (λ two. subst (λ (l : Entries). HoldsAt (state mid.disk) mid.rows l (payload ∷ [])) (ap (λ (ps : Entries). list ++ ps) empty ∙ append-nil list) two.0) (done list staged holds)

      pub append_both : LeavesImages state mid new (λ list staged. list ++ staged) → LeavesImages state old new (λ list staged. list ++ payload ∷ [])
      append_both second = record {
        within = λ list staged holds. within_join (state old.disk) (state mid.disk) (state new.disk) (IsEitherList list (list ++ payload ∷ [])) (IsEitherList list (list ++ payload ∷ [])) (append_first list staged holds)
            (second.within list (payload ∷ []) (append_held list staged holds)) (λ c at. at);
        short = λ compact. within_join (state old.disk) (state mid.disk) (state new.disk) (IsCompactIn old.capacity) (IsCompactIn mid.capacity) (first.short compact) (second.short (first.compact compact))
            (λ c at. subst (λ (n : ℕ). IsCompactIn n c) capacity at);
        compact = λ compact. second.compact (first.compact compact);
      }

pub appended_rows : (old mid new : Rows) → old.staged ≡ 0 → total mid ≡ min (total old + 1) (2 ^ 64 - 1) → new ≡ committed mid → new ≡ listed new.list (min (old.count + 1) (2 ^ 64 - 1))
appended_rows old mid new none totals is =
    let count : total mid ≡ min (old.count + 1) (2 ^ 64 - 1) = omega (arith, totals, none) in
    listed_same mid.ahead (min (old.count + 1) (2 ^ 64 - 1)) new (is ∙ ap (λ (k : ℕ). listed mid.ahead k) count)

-- a call before which the disk was only read
module _ {D : Type 0} (state : D → DiskState) (old : View D) (disk : D) (told : (state disk).told ≡ (state old.disk).told) (later : (state old.disk).faults ≤ (state disk).faults) where
  abbrev pub mid : View D
  mid = record old { disk = disk }

  keeps : Preserves (state old.disk) (state disk)
  keeps = unchanged (state old.disk) (state disk) told

  holds_read : (list staged : Entries) → HoldsAt (state old.disk) old.rows list staged → HoldsAt (state disk) old.rows list staged
  holds_read list staged h = record {
    images = now_same (state old.disk) (state disk) (IsList list) keeps.still h.images;
    number = h.number;
    waits = λ b is. h.waits b (sym (content_same (state old.disk) (state disk) told) ∙ is);
  }

  compact_read : IsCompactAt (state old.disk) old.capacity old.rows → IsCompactAt (state disk) old.capacity old.rows
  compact_read compact = record { list = compact.list; ahead = compact.ahead; images = now_same (state old.disk) (state disk) (IsCompactIn old.capacity) keeps.still compact.images }

  pub leaves_read : (new : View D) (step : Entries → Entries → Entries) → LeavesImages state mid new step → LeavesImages state old new step
  leaves_read new step second = record {
    within = λ list staged holds. within_join (state old.disk) (state disk) (state new.disk) (IsEitherList list (step list staged)) (IsEitherList list (step list staged))
        (within_preserves (state old.disk) (state old.disk) (state disk) (IsEitherList list (step list staged)) (stay_one old.rows list staged (step list staged) (state old.disk) holds) keeps)
        (second.within list staged (holds_read list staged holds)) (λ c at. at);
    short = λ compact. within_join (state old.disk) (state disk) (state new.disk) (IsCompactIn old.capacity) (IsCompactIn old.capacity)
        (within_preserves (state old.disk) (state old.disk) (state disk) (IsCompactIn old.capacity) (stay_short old.rows old.capacity (state old.disk) compact) keeps)
        (second.short (compact_read compact)) (λ c at. at);
    compact = λ compact. second.compact (compact_read compact);
  }

  pub advances_read : (new : View D) (n : ℕ) (result : Result Unit DeviceFault) → AdvancesSpool state mid new n result → AdvancesSpool state old new n result
  advances_read new n (Ok done) answer = (answer.0, answer.1, answer.2, answer.3, λ list holds. answer.4 list (holds_read list [] holds))
  advances_read new n (Err e) answer = (⊎_elim (λ shut. inl shut) (λ rose. inr (omega (arith, rose, later))) answer.0, answer.1, answer.2)
