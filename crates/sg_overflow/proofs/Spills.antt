-- The oldest frames of memory go to the store.
use Rattle.std.proofs.Common.{◌≡◌, inl, inr, ◌≤◌, ℕ, ◌+◌, ◌-◌, ◌^◌, List, [], ◌∷◌, ◌++◌, length, map, take, drop, refl, sym, ◌∙◌, ap, subst, append_assoc, arith, length-drop, take-add, Some, None, Bool, true, false}
use Rattle.std.proofs.lemmas.List.{append-nil, take_all, take_at, drop_at, take-take, take-map, take-append-drop, map-append, length-map, length-append, length-take, length-take-le}
use Rattle.std.proofs.lemmas.Bool.{cases_lt}
use Rattle.sg_device.specs.Disk.{DiskState, content, Within}
use Rattle.sg_device.specs.Outlet.{OutletState}
use Rattle.sg_device.proofs.Disks.{within_as}
use Rattle.sg_spool.specs.Calls.{SpoolLasts}
use Rattle.sg_spool.specs.Lists.{IsEitherList}
use Rattle.sg_spool.specs.Ring.{Entries, IsList}
use Rattle.sg_spool.specs.View.{View as Store, RingHolds}
use Rattle.sg_overflow.specs.Held.{SettlesHeld, SpillStop, SettleStop}
use Rattle.sg_overflow.specs.declared.step.Stop.{Stop}
use Rattle.sg_overflow.specs.declared.step.Stop.TheVariants.{Open, Outlet, Later, Store as StoreFailed, NoMemory}
use Rattle.sg_overflow.specs.Line.{IsCovered, MovesLine}
use Rattle.sg_overflow.specs.Listing.{entries_in}
use Rattle.sg_overflow.specs.Payload.{tagged, untagged, frames_in, AreTagged}
use Rattle.sg_overflow.specs.Staging.{IsListWith, HoldsFirst, IsWrittenFirst}
use Rattle.sg_overflow.specs.View.{Held, held_of, standing, IsHeldSound, IsStored}
use Rattle.sg_overflow.proofs.Listings.{entries_are}
use Rattle.sg_overflow.proofs.Sizes.{size_drop, size_take}
use Rattle.sg_overflow.proofs.Told.{mapped, map_some, tells_on, told_earlier, told_later, read_within}
use Rattle.sg_overflow.proofs.Works.{Texts, held_by, held_works, working, list_now, covers, moves_held, blames_now}

-- ---- frames as payloads

pub frames_tagged : (xs : Texts) → frames_in (map tagged xs) ≡ xs
frames_tagged [] = refl
frames_tagged (x ∷ xs) = ap (λ (l : Texts). x ∷ l) (frames_tagged xs)

frames_more : (list : Entries) (xs : Texts) → frames_in (list ++ map tagged xs) ≡ frames_in list ++ xs
frames_more list xs = map-append untagged list (map tagged xs) ∙ ap (λ (l : Texts). frames_in list ++ l) (frames_tagged xs)

tagged_more : (list : Entries) (xs : Texts) → AreTagged list → AreTagged (list ++ map tagged xs)
tagged_more list xs same =
    ap (map tagged) (frames_more list xs) ∙ map-append tagged (frames_in list) xs ∙ ap (λ (l : Entries). l ++ map tagged xs) same

length_more : (list : Entries) (xs : Texts) (n : ℕ) → n ≤ length xs → length (list ++ map tagged (take n xs)) ≡ length list + n
length_more list xs n few =
    length-append list (map tagged (take n xs)) ∙ ap (λ (k : ℕ). length list + k) (length-map (take n xs) tagged ∙ length-take-le n xs few)

-- ---- images

covers_with : (list : Entries) (frames memory : Texts) (kept : ℕ) (bytes : List ℕ) → AreTagged list → frames ≡ frames_in list ++ memory → kept ≡ length list
    → IsListWith list memory bytes → IsCovered (frames ++ []) 0 kept bytes
covers_with list frames memory kept bytes same parts number w =
    covers (list ++ map tagged (take w.count memory)) (frames ++ []) (drop w.count memory) kept bytes (tagged_more list (take w.count memory) same) w.is
    (append-nil frames ∙ parts ∙ ap (λ (l : Texts). frames_in list ++ l) (sym (take-append-drop w.count memory))
    ∙ sym (append_assoc (frames_in list) (take w.count memory) (drop w.count memory))
    ∙ ap (λ (l : Texts). l ++ drop w.count memory) (sym (frames_more list (take w.count memory))))
    (omega (arith, number, length-append list (map tagged (take w.count memory))))

-- the first of what is staged, as frames
front_is : (front staged : Entries) (memory : Texts) (k : ℕ) → front ++ staged ≡ map tagged (take k memory) → front ≡ map tagged (take (length front) memory)
front_is front staged memory k both =
    let long : length front ≤ k = omega (arith, length-append front staged, ap length both, length-map (take k memory) tagged, length-take k memory) in
    sym (take_at front staged (length front) refl) ∙ ap (take (length front)) both ∙ take-map tagged (length front) (take k memory)
    ∙ ap (map tagged) (take-take (length front) k memory long)

pub committed_either : {D : Type 0} (disk : D → DiskState) (store : Store D) (list : Entries) (memory : Texts) (k : ℕ) (h : HoldsFirst disk store list memory k) (bytes : List ℕ)
    → IsEitherList (list ++ h.front) ((list ++ h.front) ++ h.staged) bytes → IsListWith list memory bytes
committed_either disk store list memory k h bytes (inl one) = record {
  count = length h.front;
  is = subst (λ (l : Entries). IsList (list ++ l) bytes) (front_is h.front h.staged memory k h.both) one;
}
committed_either disk store list memory k h bytes (inr other) = record {
  count = k;
  is = subst (λ (l : Entries). IsList l bytes) (append_assoc list h.front h.staged ∙ ap (λ (l : Entries). list ++ l) h.both) other;
}

-- ---- written

module _ {D : Type 0} (disk : D → DiskState) (held : Held D) (sound : IsHeldSound disk false held) (new : Store D) (lasts : SpoolLasts disk held.store new)
    (images : (list : Entries) → RingHolds disk held.store list [] → Within (disk held.store.disk) (disk new.disk) (IsListWith list held.memory)) where
  pub spilled_images : (frames : Texts) → held_of disk held ≡ Some frames → Within (disk held.store.disk) (disk new.disk) (IsCovered (frames ++ []) 0 held.stored)
  spilled_images frames is =
      let w = working disk held frames sound is in
      within_as (disk held.store.disk) (disk new.disk) (IsListWith w.stored.list held.memory) (IsCovered (frames ++ []) 0 held.stored) (images w.stored.list w.stored.holds)
      (λ c with. covers_with w.stored.list frames held.memory held.stored c w.stored.tagged w.is w.stored.number with)

  -- the list is as before, perhaps with frames of memory behind it, where the store failed
  module _ (closed : new.closed ≡ true) (unstaged : new.rows.staged ≡ 0) where
    abbrev pub now : Held D
    now = record held { store = new }

    entries_with : (s : IsStored disk held.store held.stored) (b : List ℕ) → content (disk new.disk) ≡ Some b → (k : ℕ) × (entries_in b ≡ s.list ++ map tagged (take k held.memory))
    entries_with s b told =
        let with = read_within (disk held.store.disk) (disk new.disk) (IsListWith s.list held.memory) (images s.list s.holds) b told in
        (with.count, entries_are (s.list ++ map tagged (take with.count held.memory)) b with.is)

    pub sound_spill_failed : IsHeldSound disk true now
    sound_spill_failed = record {
      closed = closed;
      unstaged = unstaged;
      counted = λ works. absurd (let no : true ≡ false = works in cc);
      front = λ works. absurd (let no : true ≡ false = works in cc);
      stored = λ works. absurd (let no : true ≡ false = works in cc);
      enough = λ b told. (
          let before = told_earlier (disk held.store.disk) (disk new.disk) lasts.moves b told in
          let s = sound.stored refl before.0 before.1 in
          let all = entries_with s b told in
          let same : length (entries_in b) ≡ length (s.list ++ map tagged (take all.0 held.memory)) = ap length all.1 in
          omega (arith, same, s.number, length-append s.list (map tagged (take all.0 held.memory))));
      blamed = λ is. blames_now disk held.store new sound.closed lasts closed;
      limit = lasts.capacity ∙ sound.limit;
      small = sound.small;
      fits = sound.fits;
    }

    pub moves_spill_failed : (inner : OutletState) → MovesLine disk [] 0 0 inner inner held now
    moves_spill_failed inner = moves_held disk held now inner refl lasts refl (omega arith) (omega arith)
        (map_some (λ (b : List ℕ). standing held.stored held.behind b ++ held.memory) (content (disk new.disk))
        ∙ tells_on (disk held.store.disk) (disk new.disk) lasts.moves
        ∙ sym (map_some (λ (b : List ℕ). standing held.stored held.behind b ++ held.memory) (content (disk held.store.disk))))
        (λ frames is.
        let w = working disk held frames sound is in
        let later = told_later (disk held.store.disk) (disk new.disk) lasts.moves w.bytes w.told in
        let all = entries_with w.stored later.0 later.1 in
        held_by disk now later.0 later.1
        ∙ ap (λ (b : Bool). Some (standing held.stored b later.0 ++ held.memory)) (sound.front refl)
        ∙ ap (λ (es : Entries). Some (frames_in (take held.stored es) ++ held.memory)) all.1
        ∙ ap (λ (es : Entries). Some (frames_in es ++ held.memory)) (take_at w.stored.list (map tagged (take all.0 held.memory)) held.stored (sym w.stored.number))
        ∙ ap Some (sym w.is))
        (λ works frames is. spilled_images frames is)

  -- so many of memory are in the list
  module _ (k : ℕ) (few : k ≤ length held.memory) (small : held.stored + k ≤ 2 ^ 64 - 1) (written : IsWrittenFirst disk held.store new held.memory k) where
    abbrev pub later_held : Held D
    later_held = record held { store = new; memory = drop k held.memory; stored = held.stored + k }

    stored_more : (s : IsStored disk held.store held.stored) → IsStored disk new (held.stored + k)
    stored_more s = record {
      list = s.list ++ map tagged (take k held.memory);
      holds = written.holds s.list s.holds;
      tagged = tagged_more s.list (take k held.memory) s.tagged;
      number = omega (arith, s.number, length_more s.list held.memory k few);
    }

    pub sound_spilled : IsHeldSound disk false later_held
    sound_spilled = record {
      closed = written.works;
      unstaged = written.unstaged;
      counted = λ works. omega (arith, written.number, sound.counted refl, sound.unstaged, small);
      front = λ works. sound.front refl;
      stored = λ works b told. (let before = told_earlier (disk held.store.disk) (disk new.disk) lasts.moves b told in stored_more (sound.stored refl before.0 before.1));
      enough = λ b told. (
          let before = told_earlier (disk held.store.disk) (disk new.disk) lasts.moves b told in
          let s = stored_more (sound.stored refl before.0 before.1) in
          let same : length (entries_in b) ≡ length s.list = ap length (entries_are s.list b (list_now disk new (held.stored + k) s b told)) in
          omega (arith, same, s.number));
      blamed = λ is. absurd (let no : false ≡ true = is in cc);
      limit = lasts.capacity ∙ sound.limit;
      small = sound.small;
      fits = let less = size_drop k held.memory in omega (arith, less, sound.fits);
    }

    pub moves_spilled : (inner : OutletState) → MovesLine disk [] 0 0 inner inner held later_held
    unfolding stored_more
    moves_spilled inner = moves_held disk held later_held inner refl lasts
        (omega (arith, few, length-drop k held.memory)) (omega (arith, length-drop k held.memory)) (omega arith)
        (map_some (λ (b : List ℕ). standing (held.stored + k) held.behind b ++ drop k held.memory) (content (disk new.disk))
        ∙ tells_on (disk held.store.disk) (disk new.disk) lasts.moves
        ∙ sym (map_some (λ (b : List ℕ). standing held.stored held.behind b ++ held.memory) (content (disk held.store.disk))))
        (λ frames is.
        let w = working disk held frames sound is in
        let later = told_later (disk held.store.disk) (disk new.disk) lasts.moves w.bytes w.told in
        held_works disk later_held later.0 (sound.front refl) later.1 (stored_more w.stored)
        ∙ ap (λ (l : Texts). Some (l ++ drop k held.memory)) (frames_more w.stored.list (take k held.memory))
        ∙ ap Some (append_assoc (frames_in w.stored.list) (take k held.memory) (drop k held.memory)
        ∙ ap (λ (l : Texts). frames_in w.stored.list ++ l) (take-append-drop k held.memory) ∙ sym w.is))
        (λ works frames is. spilled_images frames is)

-- ---- the newest are dropped

pub sound_cut : {D : Type 0} (disk : D → DiskState) (failed : Bool) (held : Held D) (n : ℕ) → IsHeldSound disk failed held → IsHeldSound disk failed (record held { memory = take n held.memory })
sound_cut disk failed held n sound = record {
  closed = sound.closed;
  unstaged = sound.unstaged;
  counted = sound.counted;
  front = sound.front;
  stored = sound.stored;
  enough = sound.enough;
  blamed = sound.blamed;
  limit = sound.limit;
  small = sound.small;
  fits = let less = size_take n held.memory in omega (arith, less, sound.fits);
}

pub take_behind : (front rest : Texts) (n : ℕ) → take (length front + n) (front ++ rest) ≡ front ++ take n rest
take_behind front rest n =
    take-add (length front) n (front ++ rest)
    ∙ (λ i. take_at front rest (length front) refl i ++ take n (drop_at front rest (length front) refl i))

cut_behind : (front memory : Texts) (kept dropped : ℕ) → dropped ≡ length memory - kept → take (length (front ++ memory) - dropped) (front ++ memory) ≡ front ++ take kept memory
cut_behind front memory kept dropped is = elim (cases_lt kept (length memory)) [
  | inr less ↦
      take_all (length (front ++ memory) - dropped) (front ++ memory) (omega (arith, is, less)) ∙ ap (λ (l : Texts). front ++ l) (sym (take_all kept memory less))
  | inl more ↦
      let count : length (front ++ memory) - dropped ≡ length front + kept = omega (arith, is, more, length-append front memory) in
      ap (λ (k : ℕ). take k (front ++ memory)) count ∙ take_behind front memory kept
]

abbrev pub no_outlet : OutletState
no_outlet = record { taken = None; count = 0; faults = 0; failing = 0; laters = 0 }

pub settles_held : {D : Type 0} (disk : D → DiskState) (old mid : Held D) (kept dropped : ℕ) → MovesLine disk [] 0 0 no_outlet no_outlet old mid
    → kept ≡ old.limits.memory → dropped ≡ length mid.memory - kept → SettlesHeld disk old (record mid { memory = take kept mid.memory }) dropped
settles_held disk old mid kept dropped moves limit is = record {
  limits = moves.limits;
  lasts = moves.lasts;
  tells = map_some (λ (b : List ℕ). standing mid.stored mid.behind b ++ take kept mid.memory) (content (disk mid.store.disk))
      ∙ sym (map_some (λ (b : List ℕ). standing mid.stored mid.behind b ++ mid.memory) (content (disk mid.store.disk))) ∙ moves.tells;
  holds = λ frames held. (
      let now : held_of disk mid ≡ Some frames = moves.holds frames held ∙ ap Some (append-nil frames) in
      let at = mapped (λ (b : List ℕ). standing mid.stored mid.behind b ++ mid.memory) (content (disk mid.store.disk)) frames now in
      held_by disk (record mid { memory = take kept mid.memory }) at.0 at.1
      ∙ ap Some (sym (cut_behind (standing mid.stored mid.behind at.0) mid.memory kept dropped is))
      ∙ ap (λ (l : Texts). Some (take (length l - dropped) l)) (sym at.2));
  number = omega (arith, moves.number, is, length-take kept mid.memory);
  few = omega (arith, moves.memory, is, limit);
  stays = omega (arith, moves.stays);
  images = λ works frames held. within_as (disk old.store.disk) (disk mid.store.disk) (IsCovered (frames ++ []) 0 old.stored) (IsCovered frames 0 old.stored)
      (moves.images works frames held) (λ c covered. subst (λ (l : Texts). IsCovered l 0 old.stored c) (append-nil frames) covered);
}

-- how many are dropped, by how many are left
pub settle_stop : (kept memory dropped : ℕ) (closed : Bool) (stop : Stop) → dropped ≡ memory - kept → SpillStop kept memory closed stop → SettleStop dropped closed stop
settle_stop kept memory dropped closed Open is stops = omega (arith, is, stops)
settle_stop kept memory dropped closed Outlet is stops = absurd stops
settle_stop kept memory dropped closed Later is stops = absurd stops
settle_stop kept memory dropped closed StoreFailed is stops = (omega (arith, is, stops.0), stops.1)
settle_stop kept memory dropped closed NoMemory is stops = omega (arith, is, stops)
