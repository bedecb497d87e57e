-- What is held at an opening.
use Rattle.std.proofs.Common.{◌≡◌, inl, inr, ◌≤◌, ℕ, ◌-◌, ◌^◌, min, [], ◌++◌, length, drop, refl, sym, ◌∙◌, ap, subst, arith, Option, Some, None, false, Ok, Err}
use Rattle.std.proofs.lemmas.List.{append-nil, drop_all, length-append}
use Rattle.std.specs.Prelude.{Result, IfSome, IfOk, IfErr}
use Rattle.std.specs.Option.{option_map}
use Rattle.sg_device.specs.Disk.{DiskState, content, WhereTold}
use Rattle.sg_device.specs.Faults.{Rose}
use Rattle.sg_device.specs.Outlet.{OutletState, IsUnusedOutlet}
use Rattle.sg_device.proofs.Disks.{told_back, told_forth}
use Rattle.sg_device.proofs.DiskCalls.{content_same}
use Rattle.sg_spool.specs.Calls.{OnlyReadsSpool}
use Rattle.sg_spool.specs.Opening.{HasRingReason}
use Rattle.sg_spool.specs.Ring.{Entries, IsList}
use Rattle.sg_spool.specs.View.{View as Spooled}
use Rattle.sg_spool.specs.declared.rows.Rows.{Rows}
use Rattle.sg_stable.specs.Opening.{IsSynced}
use Rattle.sg_stable.specs.declared.fault.StoreRefusal.{StoreRefusal}
use Rattle.sg_stable.specs.declared.fault.StoreRefusal.TheVariants.{Damage, DiskFault, NoMemory}
use Rattle.sg_overflow.specs.Opening.{AreFrames, CheckReason, HasReason, IsHeldOpened, IsLoaded, IsOpened}
use Rattle.sg_overflow.specs.Payload.{frames_in}
use Rattle.sg_overflow.specs.Tallies.{fresh_tally}
use Rattle.sg_overflow.specs.View.{Held, OverflowView, both, held_of, held_count, IsHeldTold, IsOverflowSound, IsStored}
use Rattle.sg_overflow.specs.declared.answers.Limits.{Limits}
use Rattle.sg_overflow.specs.declared.tally.OutletTally.{OutletTally}
use Rattle.sg_overflow.proofs.Works.{Texts, held_works, list_now, stored_read}

-- ---- the store

-- a look at the payloads of a list leaves it as it is
pub stored_looked : {D : Type 0} (disk : D → DiskState) (old new : Spooled D) → WhereTold (content (disk old.disk)) (IsLoaded disk old) → AreFrames (disk old.disk) → OnlyReadsSpool disk old new
    → WhereTold (content (disk new.disk)) (λ bytes. IsStored disk new new.rows.count)
stored_looked disk old new loaded frames reads b told =
    let before : content (disk old.disk) ≡ Some b = sym (content_same (disk old.disk) (disk new.disk) reads.told) ∙ told in
    let l = loaded b before in
    subst (λ (n : ℕ). IsStored disk new n) (sym (ap (λ (r : Rows). r.count) reads.rows))
    (stored_read disk old new old.rows.count reads (record { list = l.0; holds = l.2; tagged = frames b before l.0 l.1; number = l.3 }))

pub held_looked : {D : Type 0} (disk : D → DiskState) (old new : Spooled D) (limits : Limits) (held : Held D) → WhereTold (content (disk old.disk)) (IsLoaded disk old) → AreFrames (disk old.disk)
    → OnlyReadsSpool disk old new → new.closed ≡ false → held ≡ record { store = new; memory = []; limits = limits; stored = new.rows.count; behind = false } → held.stored ≤ 2 ^ 64 - 1
    → IsHeldOpened disk old.disk limits held
held_looked {D} disk old new limits held loaded frames reads works is few = record {
  limits = ap (λ (h : Held D). h.limits) is;
  memory = ap (λ (h : Held D). h.memory) is;
  works = ap (λ (h : Held D). h.store.closed) is ∙ works;
  list = λ b told. (
      let now : content (disk new.disk) ≡ Some b = content_same (disk old.disk) (disk new.disk) reads.told ∙ told in
      let s = stored_looked disk old new loaded frames reads b now in (
        frames_in s.list,
        subst (λ (l : Entries). IsList l b) (sym s.tagged) (list_now disk new new.rows.count s b now),
        ap (λ (h : Held D). held_of disk h) is
            ∙ held_works disk (record { store = new; memory = []; limits = limits; stored = new.rows.count; behind = false }) b refl now s
            ∙ ap Some (append-nil (frames_in s.list)),
      ));
  well = ap (λ (h : Held D). (disk h.store.disk).faults) is ∙ reads.lasts.works works;
  few = few;
}

pub looked_reason : (old new : DiskState) (r : StoreRefusal) → CheckReason old new r → HasReason old new r
looked_reason old new (Damage at) reason = λ b told. inr (reason b told)
looked_reason old new DiskFault reason = reason
looked_reason old new NoMemory reason = tt

pub ring_reason : (old new : DiskState) (r : StoreRefusal) → HasRingReason old new r → HasReason old new r
ring_reason old new (Damage at) reason = λ b told. inl (reason b told)
ring_reason old new DiskFault reason = reason
ring_reason old new NoMemory reason = tt

-- ---- behind the sync of an opening

pub loaded_synced : {D : Type 0} (disk : D → DiskState) (before : D) (spool : Spooled D) → WhereTold (content (disk before)) (IsLoaded disk spool) → IsSynced (disk before) (disk spool.disk)
    → WhereTold (content (disk spool.disk)) (IsLoaded disk spool)
loaded_synced disk before spool loaded synced b told = loaded b (told_back (disk before) (disk spool.disk) b synced.preserves told)

pub held_synced : {D : Type 0} (disk : D → DiskState) (before mid : D) (limits : Limits) (held : Held D) → IsSynced (disk before) (disk mid) → IsHeldOpened disk mid limits held → IsHeldOpened disk before limits held
held_synced disk before mid limits held synced opened = record {
  limits = opened.limits;
  memory = opened.memory;
  works = opened.works;
  list = λ b told. opened.list b (told_forth (content (disk before)) (content (disk mid)) b synced.preserves.told told);
  well = opened.well ∙ synced.well;
  few = opened.few;
}

pub reason_synced : (before mid new : DiskState) (r : StoreRefusal) → IsSynced before mid → HasReason mid new r → HasReason before new r
reason_synced before mid new (Damage at) synced reason = λ b told. reason b (told_forth (content before) (content mid) b synced.preserves.told told)
reason_synced before mid new DiskFault synced reason = subst (λ (n : ℕ). Rose n new.faults) synced.well reason
reason_synced before mid new NoMemory synced reason = tt

pub opened_result : {D E : Type 0} (disk : D → DiskState) (before mid : D) (limits : Limits) (r : Result (Held D) E) → IsSynced (disk before) (disk mid) → IfOk r (IsHeldOpened disk mid limits)
    → IfOk r (IsHeldOpened disk before limits)
opened_result disk before mid limits (Ok held) synced opened = held_synced disk before mid limits held synced opened
opened_result disk before mid limits (Err e) synced opened = tt

pub reason_result : {D T : Type 0} (disk : D → DiskState) (before mid : D) (r : Result T (D × StoreRefusal)) → IsSynced (disk before) (disk mid) → IfErr r (λ e. HasReason (disk mid) (disk e.0) e.1)
    → IfErr r (λ e. HasReason (disk before) (disk e.0) e.1)
reason_result disk before mid (Ok held) synced reason = tt
reason_result disk before mid (Err e) synced reason = reason_synced (disk before) (disk mid) (disk e.0) e.1 synced reason

-- ---- the outlet

fresh_taken : (a h : Option Texts) (n : ℕ) → IfSome a (λ frames. frames ≡ []) → IfSome h (λ frames. length frames ≡ n)
    → IfSome (option_map (drop n) (both (λ (x y : Texts). x ++ y) a h)) (λ frames. frames ≡ [])
fresh_taken None h n none many = tt
fresh_taken (Some a) None n none many = tt
fresh_taken (Some a) (Some h) n none many = ap (λ (x : Texts). drop n (x ++ h)) none ∙ drop_all n h (omega (arith, many))

fresh_few : (a h : Option Texts) (n : ℕ) → IfSome h (λ frames. length frames ≡ n) → IfSome (both (λ (x y : Texts). x ++ y) a h) (λ line. n ≤ length line)
fresh_few None h n many = tt
fresh_few (Some a) None n many = tt
fresh_few (Some a) (Some h) n many = omega (arith, many, length-append a h)

module _ {O D : Type 0} (outlet : O → OutletState) (disk : D → DiskState) (before : D) (limits : Limits) (inner : O) (held : Held D) (unused : IsUnusedOutlet (outlet inner)) (opened : IsHeldOpened disk before limits held)
    (loaded : ℕ) (told : IsHeldTold disk held) (number : loaded ≡ min (held_count held) (2 ^ 64 - 1)) (tally : OutletTally) (fresh : tally ≡ fresh_tally loaded) where
  abbrev pub opened_view : OverflowView O D
  opened_view = record { inner = inner; held = held; reopens = false; tally = tally }

  all : held_count held ≡ tally.loaded
  all =
      let none : length held.memory ≡ 0 = ap (λ (l : Texts). length l) opened.memory in
      let is : tally.loaded ≡ loaded = ap (λ (t : OutletTally). t.loaded) fresh in
      omega (arith, none, is, number, opened.few)

  many : IfSome (held_of disk held) (λ frames. length frames ≡ tally.loaded)
  many = subst (λ (n : ℕ). IfSome (held_of disk held) (λ frames. length frames ≡ n)) all told.count

  pub opened_sound : IsOverflowSound outlet disk opened_view
  opened_sound = record {
    loaded = fresh_few (outlet inner).taken (held_of disk held) tally.loaded many;
    memory = let none : length held.memory ≡ 0 = ap (λ (l : Texts). length l) opened.memory in omega (arith, none);
  }

  pub opened_as : IsOpened outlet disk before opened_view
  opened_as = record {
    fresh = record {
      taken = fresh_taken (outlet inner).taken (held_of disk held) tally.loaded unused.taken many;
      count = ap (λ (t : OutletTally). t.count) fresh;
      failing = ap (λ (t : OutletTally). t.failing) fresh;
    };
    memory = opened.memory;
    works = opened.works;
    list = opened.list;
    well = opened.well;
  }
