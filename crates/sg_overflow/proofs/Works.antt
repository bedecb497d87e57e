-- What is held while the store works, and behind a call that only reads it.
use Rattle.std.proofs.Common.{◌≡◌, ◌≤◌, ℕ, suc, ◌+◌, ◌-◌, List, [], ◌∷◌, ◌++◌, length, map, take, drop, refl, sym, ◌∙◌, ap, subst, append_assoc, length-drop, arith, Option, Some, None, Bool, true, false}
use Rattle.std.proofs.lemmas.List.{append-nil, take_all, drop_all, take_at, length-append, length-take-le}
use Rattle.std.specs.Prelude.{is_some, IfSome}
use Rattle.std.specs.Option.{option_map}
use Rattle.sg_device.specs.Disk.{DiskState, content, EachNow, Within}
use Rattle.sg_device.specs.Outlet.{OutletState}
use Rattle.sg_device.proofs.Disks.{now_preserves, same_on, started}
use Rattle.sg_device.proofs.DiskCalls.{reads_as_image, content_same, unchanged}
use Rattle.sg_spool.specs.Calls.{OnlyReadsSpool, SpoolLasts}
use Rattle.sg_spool.specs.Ring.{Entries, IsList}
use Rattle.sg_spool.specs.View.{View as Store}
use Rattle.sg_spool.specs.declared.rows.Rows.{Rows}
use Rattle.sg_spool.proofs.Calls.{lasts_same}
use Rattle.sg_overflow.specs.Held.{ReadsHeld}
use Rattle.sg_overflow.specs.Line.{IsCovered, MovesLine}
use Rattle.sg_overflow.specs.Listing.{entries_in}
use Rattle.sg_overflow.specs.Payload.{tagged, frames_in}
use Rattle.sg_overflow.specs.View.{Held, held_of, held_count, standing, IsHeldSound, IsHeldTold, IsStored}
use Rattle.sg_overflow.proofs.Listings.{entries_are}
use Rattle.sg_overflow.proofs.Sizes.{some_is}
use Rattle.sg_overflow.proofs.Told.{mapped}

abbrev pub Texts : Type 0
Texts = List (List ℕ)

-- ---- what is held, by the entries that stand

pub standing_none : (behind : Bool) (bytes : List ℕ) → standing 0 behind bytes ≡ []
standing_none false bytes = refl
standing_none true bytes = ap frames_in (drop_all (length (entries_in bytes) - 0) (entries_in bytes) (let all : length (entries_in bytes) ≤ length (entries_in bytes) - 0 = omega arith in all))

pub held_by : {D : Type 0} (disk : D → DiskState) (held : Held D) (bytes : List ℕ) → content (disk held.store.disk) ≡ Some bytes
    → held_of disk held ≡ Some (standing held.stored held.behind bytes ++ held.memory)
held_by disk held bytes told = ap (option_map (λ (b : List ℕ). standing held.stored held.behind b ++ held.memory)) told

-- ---- a store that works

-- its list, and the frames of it with those in memory
pub record IsWorking {D : Type 0} (disk : D → DiskState) (held : Held D) (frames : Texts) : Type 0 where
  pub bytes : List ℕ
  pub told : content (disk held.store.disk) ≡ Some bytes
  pub stored : IsStored disk held.store held.stored
  pub is : frames ≡ frames_in stored.list ++ held.memory

pub list_now : {D : Type 0} (disk : D → DiskState) (store : Store D) (n : ℕ) (s : IsStored disk store n) (bytes : List ℕ) → content (disk store.disk) ≡ Some bytes → IsList s.list bytes
list_now disk store n s bytes told = s.holds.images bytes (reads_as_image (disk store.disk) bytes told)

pub held_works : {D : Type 0} (disk : D → DiskState) (held : Held D) (bytes : List ℕ) → held.behind ≡ false → content (disk held.store.disk) ≡ Some bytes
    → (s : IsStored disk held.store held.stored) → held_of disk held ≡ Some (frames_in s.list ++ held.memory)
held_works disk held bytes front told s =
    held_by disk held bytes told
    ∙ ap (λ (b : Bool). Some (standing held.stored b bytes ++ held.memory)) front
    ∙ ap (λ (es : Entries). Some (frames_in (take held.stored es) ++ held.memory)) (entries_are s.list bytes (list_now disk held.store held.stored s bytes told))
    ∙ ap (λ (es : Entries). Some (frames_in es ++ held.memory)) (take_all held.stored s.list (let all : length s.list ≤ held.stored = omega (arith, s.number) in all))

pub working : {D : Type 0} (disk : D → DiskState) (held : Held D) (frames : Texts) → IsHeldSound disk false held → held_of disk held ≡ Some frames → IsWorking disk held frames
working disk held frames sound is =
    let at = mapped (λ (b : List ℕ). standing held.stored held.behind b ++ held.memory) (content (disk held.store.disk)) frames is in
    let s = sound.stored refl at.0 at.1 in
    record {
      bytes = at.0;
      told = at.1;
      stored = s;
      is = some_is frames (frames_in s.list ++ held.memory) (sym is ∙ held_works disk held at.0 (sound.front refl) at.1 s);
    }

-- ---- images

pub count_of : (list : Entries) → length (frames_in list) ≡ length list
count_of [] = refl
count_of (p ∷ ps) = ap suc (count_of ps)

pub covers : (list : Entries) (line rest : Texts) (kept : ℕ) (bytes : List ℕ) → map tagged (frames_in list) ≡ list → IsList list bytes
    → line ≡ frames_in list ++ rest → kept ≤ length list → IsCovered line 0 kept bytes
covers list line rest kept bytes same is parts enough = record {
  frames = frames_in list;
  stored = subst (λ (l : Entries). IsList l bytes) (sym same) is;
  first = 0;
  front = omega arith;
  stands = sym (take_at (frames_in list) rest (length (frames_in list)) refl) ∙ ap (take (length (frames_in list))) (sym parts);
  enough = omega (arith, enough, count_of list);
}

pub covers_more : (line : Texts) (n m kept : ℕ) (bytes : List ℕ) → n ≤ m → IsCovered line n kept bytes → IsCovered line m kept bytes
covers_more line n m kept bytes more c = record {
  frames = c.frames;
  stored = c.stored;
  first = c.first;
  front = omega (arith, more, c.front);
  stands = c.stands;
  enough = c.enough;
}

-- of a store that works each image is its list
pub covers_now : {D : Type 0} (disk : D → DiskState) (held : Held D) (frames given : Texts) → IsHeldSound disk false held → held_of disk held ≡ Some frames
    → EachNow (disk held.store.disk) (IsCovered (frames ++ given) 0 held.stored)
covers_now disk held frames given sound is bytes image =
    let w = working disk held frames sound is in
    covers w.stored.list (frames ++ given) (held.memory ++ given) held.stored bytes w.stored.tagged (w.stored.holds.images bytes image)
    (ap (λ (l : Texts). l ++ given) w.is ∙ append_assoc (frames_in w.stored.list) held.memory given) (omega (arith, w.stored.number))

-- ---- behind a call that only reads the store

pub stored_read : {D : Type 0} (disk : D → DiskState) (old new : Store D) (n : ℕ) → OnlyReadsSpool disk old new → IsStored disk old n → IsStored disk new n
stored_read disk old new n reads s = record {
  list = s.list;
  holds = record {
    images = now_preserves (disk old.disk) (disk new.disk) (IsList s.list) (unchanged (disk old.disk) (disk new.disk) reads.told) s.holds.images;
    number = ap (λ (r : Rows). r.staged) reads.rows ∙ s.holds.number;
    waits = λ b told. tt;
  };
  tagged = s.tagged;
  number = s.number;
}

-- a store that worked counted a fault where it is closed
pub blames_now : {D : Type 0} (disk : D → DiskState) (old new : Store D) → old.closed ≡ false → SpoolLasts disk old new → new.closed ≡ true → 1 ≤ (disk new.disk).faults
blames_now disk old new works lasts closed =
    let rose = lasts.blames (disk old.disk).faults (omega arith) (λ is. absurd (let no : false ≡ true = sym works ∙ is in cc)) closed in
    omega (arith, rose)

pub map_nothing : (told : Option Texts) → told ≡ option_map (λ (before : Texts). before ++ []) told
map_nothing None = refl
map_nothing (Some t) = ap Some (sym (append-nil t))

-- what a call that leaves all frames where they are comes to
pub moves_held : {D : Type 0} (disk : D → DiskState) (old new : Held D) (inner : OutletState) → new.limits ≡ old.limits → SpoolLasts disk old.store new.store
    → held_count new ≡ held_count old → length new.memory ≤ length old.memory → old.stored ≤ new.stored
    → is_some (held_of disk new) ≡ is_some (held_of disk old)
    → ((frames : Texts) → held_of disk old ≡ Some frames → held_of disk new ≡ Some frames)
    → (old.store.closed ≡ false → (frames : Texts) → held_of disk old ≡ Some frames → Within (disk old.store.disk) (disk new.store.disk) (IsCovered (frames ++ []) 0 old.stored))
    → MovesLine disk [] 0 0 inner inner old new
moves_held disk old new inner limits lasts number memory stays tells holds images = record {
  limits = limits;
  lasts = lasts;
  tells = tells;
  inner_tells = refl;
  faults = omega arith;
  laters = omega arith;
  few = omega arith;
  number = omega (arith, number);
  memory = omega (arith, memory);
  some = λ frames is. omega arith;
  forwards = λ frames is. map_nothing inner.taken;
  holds = λ frames is. holds frames is ∙ ap Some (sym (append-nil frames));
  stays = omega (arith, stays);
  images = images;
}

pub reads_held : {D : Type 0} (disk : D → DiskState) (held : Held D) (new : Store D) → IsHeldSound disk false held → OnlyReadsSpool disk held.store new
    → ReadsHeld disk held (record held { store = new })
reads_held disk held new sound reads =
    let same = content_same (disk held.store.disk) (disk new.disk) reads.told in
    let all = ap (option_map (λ (b : List ℕ). standing held.stored held.behind b ++ held.memory)) same in
    record {
      same = refl;
      moves = λ inner. moves_held disk held (record held { store = new }) inner refl reads.lasts refl (omega arith) (omega arith)
          (ap (λ (o : Option Texts). is_some o) all) (λ frames is. all ∙ is)
          (λ works frames is. same_on (disk held.store.disk) (disk held.store.disk) (disk new.disk) (IsCovered (frames ++ []) 0 held.stored)
          (started (disk held.store.disk) (IsCovered (frames ++ []) 0 held.stored) (covers_now disk held frames [] sound is))
          (unchanged (disk held.store.disk) (disk new.disk) reads.told).still);
    }

-- ---- nothing happens

pub sound_works : {D : Type 0} (disk : D → DiskState) (failed : Bool) (held : Held D) → IsHeldSound disk failed held → held.store.closed ≡ false → IsHeldSound disk false held
sound_works disk failed held sound works = subst (λ (f : Bool). IsHeldSound disk f held) (sym sound.closed ∙ works) sound

pub moves_none : {D : Type 0} (disk : D → DiskState) (failed : Bool) (held : Held D) (inner : OutletState) → IsHeldSound disk failed held → MovesLine disk [] 0 0 inner inner held held
moves_none disk failed held inner sound =
    moves_held disk held held inner refl (lasts_same disk held.store) refl (omega arith) (omega arith) refl (λ frames is. is)
    (λ works frames is. started (disk held.store.disk) (IsCovered (frames ++ []) 0 held.stored) (covers_now disk held frames [] (sound_works disk failed held sound works) is))

pub reads_none : {D : Type 0} (disk : D → DiskState) (failed : Bool) (held : Held D) → IsHeldSound disk failed held → ReadsHeld disk held held
reads_none disk failed held sound = record { same = refl; moves = λ inner. moves_none disk failed held inner sound }

-- ---- its number

standing_many : (n : ℕ) (behind : Bool) (bytes : List ℕ) → n ≤ length (entries_in bytes) → length (standing n behind bytes) ≡ n
standing_many n false bytes enough = count_of (take n (entries_in bytes)) ∙ length-take-le n (entries_in bytes) enough
standing_many n true bytes enough =
    count_of (drop (length (entries_in bytes) - n) (entries_in bytes)) ∙ length-drop (length (entries_in bytes) - n) (entries_in bytes)
    ∙ (let left : length (entries_in bytes) - (length (entries_in bytes) - n) ≡ n = omega (arith, enough) in left)

many_some : (o : Option (List ℕ)) (f : List ℕ → Texts) (n : ℕ) → ((b : List ℕ) → o ≡ Some b → length (f b) ≡ n) → IfSome (option_map f o) (λ frames. length frames ≡ n)
many_some None f n each = tt
many_some (Some b) f n each = each b refl

pub told_of : {D : Type 0} (disk : D → DiskState) (failed : Bool) (held : Held D) → IsHeldSound disk failed held → IsHeldTold disk held
told_of disk failed held sound = record {
  count = many_some (content (disk held.store.disk)) (λ b. standing held.stored held.behind b ++ held.memory) (held_count held)
      (λ b told. length-append (standing held.stored held.behind b) held.memory ∙ ap (λ (k : ℕ). k + length held.memory) (standing_many held.stored held.behind b (sound.enough b told)));
  blamed = λ is. sound.blamed (sym sound.closed ∙ is);
}
