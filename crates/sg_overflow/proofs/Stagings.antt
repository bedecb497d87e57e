-- Frames of memory that are staged one after another.
use Rattle.std.proofs.Common.{◌≡◌, inl, inr, ◌⊎◌, ◌≤◌, ℕ, ◌+◌, ◌-◌, ◌^◌, min, List, [], ◌∷◌, ◌++◌, map, take, refl, sym, ◌∙◌, ap, subst, append_assoc, arith, Some, slice_get, Bool, true, false}
use Rattle.std.proofs.lemmas.List.{append-nil, map_push}
use Rattle.sg_device.specs.Disk.{DiskState, Within}
use Rattle.sg_device.proofs.Disks.{started}
use Rattle.sg_spool.specs.Calls.{LeavesImages}
use Rattle.sg_spool.specs.Lists.{IsEitherList}
use Rattle.sg_spool.specs.Ring.{Entries, IsList}
use Rattle.sg_spool.specs.Rows.{committed, total}
use Rattle.sg_spool.specs.View.{View, RingHolds}
use Rattle.sg_spool.specs.declared.rows.Rows.{Rows}
use Rattle.sg_spool.proofs.Chains.{within_join}
use Rattle.sg_overflow.specs.Payload.{tagged}
use Rattle.sg_overflow.specs.Held.{SpillStop}
use Rattle.sg_overflow.specs.Staging.{IsListWith, HoldsFirst, IsStagedFirst, StagesFirst, StageStop, IsWrittenFirst, WritesFirst}
use Rattle.sg_overflow.specs.Stops.{is_store}
use Rattle.sg_overflow.specs.declared.step.Stop.{Stop}
use Rattle.sg_overflow.specs.declared.step.Stop.TheVariants.{Open, Outlet, Later, Store, NoMemory}
use Rattle.sg_overflow.proofs.Sizes.{take_one}
use Rattle.sg_overflow.proofs.Spills.{committed_either}

-- nothing is staged yet
pub staged_none : {D : Type 0} (disk : D → DiskState) (store : View D) (memory : List (List ℕ)) → store.closed ≡ false → store.rows.staged ≡ 0 → IsStagedFirst disk store store memory 0
staged_none disk store memory works none = record {
  works = works;
  total = omega arith;
  holds = λ list ring. record { front = []; staged = []; both = refl; holds = subst (λ (l : Entries). RingHolds disk store l []) (sym (append-nil list)) ring };
}

pub images_none : {D : Type 0} (disk : D → DiskState) (store : View D) (memory : List (List ℕ)) (list : Entries) → RingHolds disk store list [] → Within (disk store.disk) (disk store.disk) (IsListWith list memory)
images_none disk store memory list ring =
    started (disk store.disk) (IsListWith list memory) (λ c image. record { count = 0; is = subst (λ (l : Entries). IsList l c) (sym (append-nil list)) (ring.images c image) })

-- one more
module _ {D : Type 0} (disk : D → DiskState) (old mid new : View D) (memory : List (List ℕ)) (k : ℕ) (frame : List ℕ) (at : slice_get memory k ≡ Some frame) (before : IsStagedFirst disk old mid memory k)
    (leaves : LeavesImages disk mid new (λ list staged. list ++ staged)) where
  pub images_more : (list : Entries) → RingHolds disk old list [] → Within (disk old.disk) (disk mid.disk) (IsListWith list memory) → Within (disk old.disk) (disk new.disk) (IsListWith list memory)
  images_more list ring images =
      let h = before.holds list ring in
      within_join (disk old.disk) (disk mid.disk) (disk new.disk) (IsListWith list memory) (IsEitherList (list ++ h.front) ((list ++ h.front) ++ h.staged))
      images (leaves.within (list ++ h.front) h.staged h.holds) (λ c either. committed_either disk mid list memory k h c either)

  module _ (block : List ℕ) (spelled : block ≡ tagged frame) (works : new.closed ≡ false) (sum : total new.rows ≡ min (total mid.rows + 1) (2 ^ 64 - 1))
      (answer : (list staged : Entries) → RingHolds disk mid list staged → (RingHolds disk new list (staged ++ block ∷ []) × (new.rows.count ≡ mid.rows.count)) ⊎ (RingHolds disk new (list ++ staged) (block ∷ []) × (new.rows.count ≡ total mid.rows))) where
    all_more : (front staged : Entries) → front ++ staged ≡ map tagged (take k memory) → (front ++ staged) ++ block ∷ [] ≡ map tagged (take (k + 1) memory)
    all_more front staged both =
        (λ i. both i ++ spelled i ∷ []) ∙ sym (map_push tagged (take k memory) frame) ∙ ap (map tagged) (sym (take_one memory k frame at))

    holds_more : (list : Entries) (h : HoldsFirst disk mid list memory k)
        → (RingHolds disk new (list ++ h.front) (h.staged ++ block ∷ []) × (new.rows.count ≡ mid.rows.count)) ⊎ (RingHolds disk new ((list ++ h.front) ++ h.staged) (block ∷ []) × (new.rows.count ≡ total mid.rows))
        → HoldsFirst disk new list memory (k + 1)
    holds_more list h (inl stays) = record {
      front = h.front;
      staged = h.staged ++ block ∷ [];
      both = sym (append_assoc h.front h.staged (block ∷ [])) ∙ all_more h.front h.staged h.both;
      holds = stays.0;
    }
    holds_more list h (inr grows) = record {
      front = h.front ++ h.staged;
      staged = block ∷ [];
      both = all_more h.front h.staged h.both;
      holds = subst (λ (l : Entries). RingHolds disk new l (block ∷ [])) (append_assoc list h.front h.staged) grows.0;
    }

    pub staged_more : IsStagedFirst disk old new memory (k + 1)
    staged_more = record {
      works = works;
      total = omega (arith, sum, before.total);
      holds = λ list ring. (let h = before.holds list ring in holds_more list h (answer (list ++ h.front) h.staged h.holds));
    }

-- ---- all that was staged is committed

module _ {D : Type 0} (disk : D → DiskState) (old mid new : View D) (memory : List (List ℕ)) (k : ℕ) (staged : IsStagedFirst disk old mid memory k)
    (leaves : LeavesImages disk mid new (λ list staged. list ++ staged)) where
  pub images_committed : (list : Entries) → RingHolds disk old list [] → Within (disk old.disk) (disk mid.disk) (IsListWith list memory) → Within (disk old.disk) (disk new.disk) (IsListWith list memory)
  images_committed list ring images =
      let h = staged.holds list ring in
      within_join (disk old.disk) (disk mid.disk) (disk new.disk) (IsListWith list memory) (IsEitherList (list ++ h.front) ((list ++ h.front) ++ h.staged))
      images (leaves.within (list ++ h.front) h.staged h.holds) (λ c either. committed_either disk mid list memory k h c either)

  pub written_first : new.closed ≡ false → new.rows ≡ committed mid.rows → ((list staged : Entries) → RingHolds disk mid list staged → RingHolds disk new (list ++ staged) []) → IsWrittenFirst disk old new memory k
  written_first works rows holds = record {
    works = works;
    unstaged = ap (λ (r : Rows). r.staged) rows;
    number = ap (λ (r : Rows). r.count) rows ∙ staged.total;
    holds = λ list ring. (
        let h = staged.holds list ring in
        subst (λ (l : Entries). RingHolds disk new l []) (append_assoc list h.front h.staged ∙ ap (λ (l : Entries). list ++ l) h.both) (holds (list ++ h.front) h.staged h.holds));
  }

-- ---- how it ends

pub store_is : (stop : Stop) → is_store stop ≡ true → stop ≡ Store
store_is Open is = absurd (let no : false ≡ true = is in cc)
store_is Outlet is = absurd (let no : false ≡ true = is in cc)
store_is Later is = absurd (let no : false ≡ true = is in cc)
store_is Store is = refl
store_is NoMemory is = absurd (let no : false ≡ true = is in cc)

-- of a store that failed while frames were staged
pub stage_failed : {D : Type 0} (disk : D → DiskState) (old new : View D) (frames : List (List ℕ)) (count : ℕ) (stop : Stop) → is_store stop ≡ true → StagesFirst disk old new frames count stop
    → (new.closed ≡ true) × (new.rows.staged ≡ 0)
stage_failed disk old new frames count stop is stages = subst (λ (s : Stop). StagesFirst disk old new frames count s) (store_is stop is) stages

-- of one that works
pub stage_works : {D : Type 0} (disk : D → DiskState) (old new : View D) (frames : List (List ℕ)) (count : ℕ) (stop : Stop) → is_store stop ≡ false → StagesFirst disk old new frames count stop
    → IsStagedFirst disk old new frames count
stage_works disk old new frames count Open is stages = stages
stage_works disk old new frames count Outlet is stages = absurd stages
stage_works disk old new frames count Later is stages = absurd stages
stage_works disk old new frames count Store is stages = absurd (let no : true ≡ false = is in cc)
stage_works disk old new frames count NoMemory is stages = stages

pub write_as : {D : Type 0} (disk : D → DiskState) (old mid new : View D) (frames : List (List ℕ)) (count : ℕ) (stop : Stop) → is_store stop ≡ false → StagesFirst disk old mid frames count stop
    → IsWrittenFirst disk old new frames count → WritesFirst disk old new frames count stop
write_as disk old mid new frames count Open is stages written = written
write_as disk old mid new frames count Outlet is stages written = absurd stages
write_as disk old mid new frames count Later is stages written = absurd stages
write_as disk old mid new frames count Store is stages written = absurd (let no : true ≡ false = is in cc)
write_as disk old mid new frames count NoMemory is stages written = written

pub write_failed : {D : Type 0} (disk : D → DiskState) (old new : View D) (frames : List (List ℕ)) (count : ℕ) (stop : Stop) → is_store stop ≡ true → WritesFirst disk old new frames count stop
    → (new.closed ≡ true) × (new.rows.staged ≡ 0)
write_failed disk old new frames count stop is writes = subst (λ (s : Stop). WritesFirst disk old new frames count s) (store_is stop is) writes

pub write_works : {D : Type 0} (disk : D → DiskState) (old new : View D) (frames : List (List ℕ)) (count : ℕ) (stop : Stop) → is_store stop ≡ false → WritesFirst disk old new frames count stop
    → IsWrittenFirst disk old new frames count
write_works disk old new frames count Open is writes = writes
write_works disk old new frames count Outlet is writes = absurd writes
write_works disk old new frames count Later is writes = absurd writes
write_works disk old new frames count Store is writes = absurd (let no : true ≡ false = is in cc)
write_works disk old new frames count NoMemory is writes = writes

pub stage_few : (n count : ℕ) (stop : Stop) → StageStop n count stop → count ≤ n
stage_few n count Open is = omega (arith, is)
stage_few n count Outlet is = absurd is
stage_few n count Later is = absurd is
stage_few n count Store is = omega (arith, is)
stage_few n count NoMemory is = omega (arith, is)

-- what is left in memory then
pub spill_stop : (kept all excess count : ℕ) (closed : Bool) (stop : Stop) → is_store stop ≡ false → excess ≡ all - kept → 1 ≤ excess → StageStop excess count stop
    → SpillStop kept (all - count) closed stop
spill_stop kept all excess count closed Open is over some count_is = omega (arith, over, some, count_is)
spill_stop kept all excess count closed Outlet is over some count_is = absurd count_is
spill_stop kept all excess count closed Later is over some count_is = absurd count_is
spill_stop kept all excess count closed Store is over some count_is = absurd (let no : true ≡ false = is in cc)
spill_stop kept all excess count closed NoMemory is over some count_is = omega (arith, over, some, count_is)
