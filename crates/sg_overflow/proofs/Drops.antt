-- The first of the frames that are held go out.
use Rattle.std.proofs.Common.{◌≡◌, ◌⊎◌, inl, inr, ◌≤◌, ℕ, ◌-◌, List, [], ◌++◌, length, map, take, drop, refl, sym, ◌∙◌, ap, subst, arith, length-drop, Some, Bool, true, false}
use Rattle.std.proofs.lemmas.List.{append-nil, drop-append-le, drop-map, take_all}
use Rattle.sg_device.specs.Disk.{DiskState, content, WhereTold, Within}
use Rattle.sg_device.proofs.Disks.{started, within_as}
use Rattle.sg_device.proofs.DiskCalls.{reads_as_image}
use Rattle.sg_spool.specs.Calls.{SpoolLasts, LeavesImages}
use Rattle.sg_spool.specs.Lists.{IsEitherList}
use Rattle.sg_spool.specs.Ring.{Entries, IsList}
use Rattle.sg_spool.specs.Rows.{listed}
use Rattle.sg_spool.specs.View.{View as Store, RingHolds}
use Rattle.sg_spool.specs.declared.rows.Rows.{Rows}
use Rattle.sg_spool.proofs.Calls.{lasts_same}
use Rattle.sg_overflow.specs.Held.{DropsHeld}
use Rattle.sg_overflow.specs.Line.{IsCovered}
use Rattle.sg_overflow.specs.Listing.{entries_in}
use Rattle.sg_overflow.specs.Payload.{tagged, untagged, frames_in, AreTagged}
use Rattle.sg_overflow.specs.View.{Held, held_of, held_count, last, standing, IsHeldSound, IsStored}
use Rattle.sg_overflow.proofs.Listings.{entries_are}
use Rattle.sg_overflow.proofs.Sizes.{size_drop}
use Rattle.sg_overflow.proofs.Told.{mapped, map_some, tells_on, told_earlier, told_later, read_within}
use Rattle.sg_overflow.proofs.Works.{IsWorking, Texts, standing_none, held_by, working, list_now, count_of, covers, covers_more, covers_now, sound_works, blames_now}

-- ---- nothing

pub drops_none : {D : Type 0} (disk : D → DiskState) (failed : Bool) (held : Held D) → IsHeldSound disk failed held → DropsHeld disk 0 held held
drops_none disk failed held sound = record {
  limits = refl;
  lasts = lasts_same disk held.store;
  tells = refl;
  holds = λ frames is. is;
  number = omega arith;
  memory = omega arith;
  stays = omega arith;
  images = λ works frames is. within_as (disk held.store.disk) (disk held.store.disk) (IsCovered (frames ++ []) 0 held.stored) (IsCovered frames 0 held.stored)
      (started (disk held.store.disk) (IsCovered (frames ++ []) 0 held.stored) (covers_now disk held frames [] (sound_works disk failed held sound works) is))
      (λ c covered. subst (λ (l : Texts). IsCovered l 0 held.stored c) (append-nil frames) covered);
}

-- ---- of memory

-- with none in the store all frames are those in memory
pub memory_all : {D : Type 0} (disk : D → DiskState) (held : Held D) (frames : Texts) → held.stored ≡ 0 → held_of disk held ≡ Some frames → frames ≡ held.memory
memory_all disk held frames none is =
    let at = mapped (λ (b : List ℕ). standing held.stored held.behind b ++ held.memory) (content (disk held.store.disk)) frames is in
    at.2 ∙ ap (λ (n : ℕ). standing n held.behind at.0 ++ held.memory) none ∙ ap (λ (l : Texts). l ++ held.memory) (standing_none held.behind at.0)

pub drops_memory : {D : Type 0} (disk : D → DiskState) (failed : Bool) (held : Held D) (n : ℕ) → IsHeldSound disk failed held → held.stored ≡ 0 → n ≤ held_count held
    → DropsHeld disk n held (record held { memory = drop n held.memory })
drops_memory disk failed held n sound none few = record {
  limits = refl;
  lasts = lasts_same disk held.store;
  tells = map_some (λ (b : List ℕ). standing held.stored held.behind b ++ drop n held.memory) (content (disk held.store.disk))
      ∙ sym (map_some (λ (b : List ℕ). standing held.stored held.behind b ++ held.memory) (content (disk held.store.disk)));
  holds = λ frames is. (
      let at = mapped (λ (b : List ℕ). standing held.stored held.behind b ++ held.memory) (content (disk held.store.disk)) frames is in
      held_by disk (record held { memory = drop n held.memory }) at.0 at.1
      ∙ ap (λ (k : ℕ). Some (standing k held.behind at.0 ++ drop n held.memory)) none
      ∙ ap (λ (l : Texts). Some (l ++ drop n held.memory)) (standing_none held.behind at.0)
      ∙ ap (λ (l : Texts). Some (drop n l)) (sym (memory_all disk held frames none is)));
  number = omega (arith, none, few, length-drop n held.memory);
  memory = omega (arith, length-drop n held.memory);
  stays = omega (arith, none);
  images = λ works frames is. within_as (disk held.store.disk) (disk held.store.disk) (IsCovered (frames ++ []) 0 held.stored) (IsCovered frames n held.stored)
      (started (disk held.store.disk) (IsCovered (frames ++ []) 0 held.stored) (covers_now disk held frames [] (sound_works disk failed held sound works) is))
      (λ c covered. covers_more frames 0 n held.stored c (omega arith) (subst (λ (l : Texts). IsCovered l 0 held.stored c) (append-nil frames) covered));
}

pub sound_memory : {D : Type 0} (disk : D → DiskState) (failed : Bool) (held : Held D) (n : ℕ) → IsHeldSound disk failed held → IsHeldSound disk failed (record held { memory = drop n held.memory })
sound_memory disk failed held n sound = record {
  closed = sound.closed;
  unstaged = sound.unstaged;
  counted = sound.counted;
  front = sound.front;
  stored = sound.stored;
  enough = sound.enough;
  blamed = sound.blamed;
  limit = sound.limit;
  small = sound.small;
  fits = let less = size_drop n held.memory in omega (arith, less, sound.fits);
}

-- ---- of the store

pub tagged_drop : (n : ℕ) (list : Entries) → AreTagged list → AreTagged (drop n list)
tagged_drop n list same =
    ap (map tagged) (sym (drop-map untagged n list)) ∙ sym (drop-map tagged n (frames_in list)) ∙ ap (drop n) same

-- an image is the list, or the list without its first entries
covers_either : (list : Entries) (line rest : Texts) (n kept : ℕ) (bytes : List ℕ) → AreTagged list → line ≡ frames_in list ++ rest → kept ≡ length list → n ≤ kept
    → IsEitherList list (drop n list) bytes → IsCovered line n kept bytes
covers_either list line rest n kept bytes same parts number few (inl one) = covers_more line 0 n kept bytes (omega arith) (covers list line rest kept bytes same one parts (omega (arith, number)))
covers_either list line rest n kept bytes same parts number few (inr other) =
    let frames : frames_in (drop n list) ≡ drop n (frames_in list) = sym (drop-map untagged n list) in
    let long : length (drop n list) ≡ length list - n = length-drop n list in
    let left : drop n line ≡ frames_in (drop n list) ++ rest =
    ap (drop n) parts ∙ drop-append-le n (frames_in list) rest (omega (arith, few, number, count_of list)) ∙ ap (λ (l : Texts). l ++ rest) (sym frames) in
    let c = covers (drop n list) (drop n line) rest (kept - n) bytes (tagged_drop n list same) other left (omega (arith, long, number)) in
    record {
      frames = c.frames;
      stored = c.stored;
      first = n;
      front = omega arith;
      stands = c.stands ∙ (let zero_first : c.first ≡ 0 = omega (arith, c.front) in ap (λ (k : ℕ). take (length c.frames) (drop k (drop n line))) zero_first);
      enough = omega (arith, c.enough, c.front);
    }

module _ {D : Type 0} (disk : D → DiskState) (held : Held D) (n : ℕ) (sound : IsHeldSound disk false held) (few : n ≤ held.stored) (new : Store D)
    (lasts : SpoolLasts disk held.store new) (leaves : LeavesImages disk held.store new (λ list staged. drop n list)) (behind : Bool) where
  abbrev pub now : Held D
  now = record held { store = new; stored = held.stored - n; behind = behind }

  pub drops_within : (frames : Texts) → held_of disk held ≡ Some frames → Within (disk held.store.disk) (disk new.disk) (IsCovered frames n held.stored)
  drops_within frames is =
      let w = working disk held frames sound is in
      within_as (disk held.store.disk) (disk new.disk) (IsEitherList w.stored.list (drop n w.stored.list)) (IsCovered frames n held.stored)
      (leaves.within w.stored.list [] w.stored.holds)
      (λ c either. covers_either w.stored.list frames held.memory n held.stored c w.stored.tagged w.is w.stored.number few either)

  -- where it is known what stands behind it
  pub drops_store : ((frames : Texts) → held_of disk held ≡ Some frames → held_of disk now ≡ Some (drop n frames)) → DropsHeld disk n held now
  drops_store holds = record {
    limits = refl;
    lasts = lasts;
    tells = map_some (λ (b : List ℕ). standing (held.stored - n) behind b ++ held.memory) (content (disk new.disk))
        ∙ tells_on (disk held.store.disk) (disk new.disk) lasts.moves
        ∙ sym (map_some (λ (b : List ℕ). standing held.stored held.behind b ++ held.memory) (content (disk held.store.disk)));
    holds = holds;
    number = omega (arith, few);
    memory = omega arith;
    stays = omega (arith, few);
    images = λ works frames is. drops_within frames is;
  }

  dropped_front : (frames : Texts) (w : IsWorking disk held frames) → drop n frames ≡ frames_in (drop n w.stored.list) ++ held.memory
  dropped_front frames w =
      ap (drop n) w.is ∙ drop-append-le n (frames_in w.stored.list) held.memory (omega (arith, few, w.stored.number, count_of w.stored.list))
      ∙ ap (λ (l : Texts). l ++ held.memory) (drop-map untagged n w.stored.list)

  -- ---- the store works

  advanced : (closed : new.closed ≡ false) (rows : new.rows ≡ listed new.rows.list (held.store.rows.count - n)) (holds : (list : Entries) → RingHolds disk held.store list [] → RingHolds disk new (drop n list) [])
      → WhereTold (content (disk new.disk)) (λ bytes. IsStored disk new (held.stored - n))
  advanced closed rows holds b told =
      let before = told_earlier (disk held.store.disk) (disk new.disk) lasts.moves b told in
      let s = sound.stored refl before.0 before.1 in
      record {
        list = drop n s.list;
        holds = holds s.list s.holds;
        tagged = tagged_drop n s.list s.tagged;
        number = omega (arith, s.number, length-drop n s.list);
      }

  module _ (front : behind ≡ false) (closed : new.closed ≡ false) (rows : new.rows ≡ listed new.rows.list (held.store.rows.count - n))
      (holds : (list : Entries) → RingHolds disk held.store list [] → RingHolds disk new (drop n list) []) where
    pub sound_advanced : IsHeldSound disk false now
    sound_advanced = record {
      closed = closed;
      unstaged = ap (λ (r : Rows). r.staged) rows;
      counted = λ works. ap (λ (r : Rows). r.count) rows ∙ ap (λ (k : ℕ). k - n) (sound.counted refl);
      front = λ works. front;
      stored = λ works. advanced closed rows holds;
      enough = λ b told. (
          let s = advanced closed rows holds b told in
          let same : length (entries_in b) ≡ length s.list = ap length (entries_are s.list b (list_now disk new (held.stored - n) s b told)) in
          omega (arith, same, s.number));
      blamed = λ is. absurd (let no : false ≡ true = is in cc);
      limit = lasts.capacity ∙ sound.limit;
      small = sound.small;
      fits = sound.fits;
    }

    pub drops_advanced : DropsHeld disk n held now
    drops_advanced = drops_store (λ frames is.
        let w = working disk held frames sound is in
        let later = told_later (disk held.store.disk) (disk new.disk) lasts.moves w.bytes w.told in
        let ring = holds w.stored.list w.stored.holds in
        let list : IsList (drop n w.stored.list) later.0 = ring.images later.0 (reads_as_image (disk new.disk) later.0 later.1) in
        held_by disk now later.0 later.1
        ∙ ap (λ (b : Bool). Some (standing (held.stored - n) b later.0 ++ held.memory)) front
        ∙ ap (λ (es : Entries). Some (frames_in (take (held.stored - n) es) ++ held.memory)) (entries_are (drop n w.stored.list) later.0 list)
        ∙ ap (λ (es : Entries). Some (frames_in es ++ held.memory)) (take_all (held.stored - n) (drop n w.stored.list) (omega (arith, length-drop n w.stored.list, w.stored.number)))
        ∙ ap Some (sym (dropped_front frames w)))

  -- ---- the store failed: its list has the frames still, or not

  last_of : (list es : Entries) → held.stored ≡ length list → (es ≡ list) ⊎ (es ≡ drop n list) → (last (held.stored - n) es ≡ drop n list) × (held.stored - n ≤ length es)
  last_of list es number (inl is) =
      let count : length es - (held.stored - n) ≡ n = let same : length es ≡ length list = ap length is in omega (arith, same, number, few) in (
        (λ i. drop (count i) (is i)),
        (let same : length es ≡ length list = ap length is in omega (arith, same, number)),
      )
  last_of list es number (inr is) =
      let long : length es ≡ length list - n = ap length is ∙ length-drop n list in
      let count : length es - (held.stored - n) ≡ 0 = omega (arith, long, number) in (
        ap (λ (k : ℕ). drop k es) count ∙ is,
        omega (arith, long, number),
      )

  entries_either : (list : Entries) (b : List ℕ) → IsEitherList list (drop n list) b → (entries_in b ≡ list) ⊎ (entries_in b ≡ drop n list)
  entries_either list b (inl one) = inl (entries_are list b one)
  entries_either list b (inr other) = inr (entries_are (drop n list) b other)

  either_now : (frames : Texts) (w : IsWorking disk held frames) (b : List ℕ) → content (disk new.disk) ≡ Some b
      → (last (held.stored - n) (entries_in b) ≡ drop n w.stored.list) × (held.stored - n ≤ length (entries_in b))
  either_now frames w b told =
      last_of w.stored.list (entries_in b) w.stored.number
      (entries_either w.stored.list b (read_within (disk held.store.disk) (disk new.disk) (IsEitherList w.stored.list (drop n w.stored.list)) (leaves.within w.stored.list [] w.stored.holds) b told))

  module _ (last_ones : behind ≡ true) (closed : new.closed ≡ true) (rows : new.rows ≡ held.store.rows) where
    pub drops_failed : DropsHeld disk n held now
    drops_failed = drops_store (λ frames is.
        let w = working disk held frames sound is in
        let later = told_later (disk held.store.disk) (disk new.disk) lasts.moves w.bytes w.told in
        held_by disk now later.0 later.1
        ∙ ap (λ (b : Bool). Some (standing (held.stored - n) b later.0 ++ held.memory)) last_ones
        ∙ ap (λ (es : Entries). Some (frames_in es ++ held.memory)) (either_now frames w later.0 later.1).0
        ∙ ap Some (sym (dropped_front frames w)))

    pub sound_failed : IsHeldSound disk true now
    sound_failed = record {
      closed = closed;
      unstaged = ap (λ (r : Rows). r.staged) rows ∙ sound.unstaged;
      counted = λ works. absurd (let no : true ≡ false = works in cc);
      front = λ works. absurd (let no : true ≡ false = works in cc);
      stored = λ works. absurd (let no : true ≡ false = works in cc);
      enough = λ b told. (
          let before = told_earlier (disk held.store.disk) (disk new.disk) lasts.moves b told in
          let all = held_by disk held before.0 before.1 in
          let frames = standing held.stored held.behind before.0 ++ held.memory in
          (either_now frames (working disk held frames sound all) b told).1);
      blamed = λ is. blames_now disk held.store new sound.closed lasts closed;
      limit = lasts.capacity ∙ sound.limit;
      small = sound.small;
      fits = sound.fits;
    }
