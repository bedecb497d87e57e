-- New frames that are kept.
use Rattle.std.proofs.Common.{◌≡◌, ◌⊎◌, inl, inr, ◌≤◌, ◌<◌, ℕ, ◌+◌, ◌-◌, List, [], ◌∷◌, ◌++◌, get_or, length, take, drop, refl, sym, ◌∙◌, ap, subst, append_assoc, arith, length-drop, Some, Bool, true, false}
use Rattle.std.proofs.lemmas.List.{append-nil, take-take, length-take, length-take-le, take-append-drop, take-append-le, length-append, take_more, get_or-drop, drop-drop, length-map}
use Rattle.std.specs.Prelude.{is_some, map}
use Rattle.sg_device.specs.Disk.{DiskState, content}
use Rattle.sg_device.specs.Outlet.{OutletState}
use Rattle.sg_device.specs.Frames.{joined, total}
use Rattle.sg_device.proofs.Disks.{within_as}
use Rattle.sg_device.proofs.FrameParts.{frame-fits, frame-there, total-more}
use Rattle.sg_overflow.specs.Held.{StandsStill, SettlesHeld, SettleStop}
use Rattle.sg_overflow.specs.Keeping.{IsPushedAs, KeepCause}
use Rattle.sg_overflow.specs.Line.{IsCovered, MovesLine}
use Rattle.sg_overflow.specs.Stops.{is_open}
use Rattle.sg_overflow.specs.View.{Held, held_of, standing, IsWithinMemory}
use Rattle.sg_overflow.specs.declared.step.Stop.{Stop}
use Rattle.sg_overflow.specs.declared.step.Stop.TheVariants.{Open, Outlet, Later, Store, NoMemory}
use Rattle.sg_overflow.proofs.Sends.{moves_given}
use Rattle.sg_overflow.proofs.Told.{mapped, map_some}
use Rattle.sg_overflow.proofs.Works.{held_by, map_nothing}
use Rattle.sg_overflow.proofs.Spills.{take_behind}

abbrev pub Texts : Type 0
Texts = List (List ℕ)

-- ---- one frame after another

-- the bytes of a frame are there
pub fits_next : (frames : Texts) (sizes rest : List ℕ) (i : ℕ) → sizes ≡ map length frames → i < length sizes → rest ≡ drop (total (take i (map length frames))) (joined frames)
    → get_or sizes i 0 ≤ length rest
fits_next frames sizes rest i same low is =
    let many : length sizes ≡ length (map length frames) = ap (λ (l : List ℕ). length l) same in
    let inside : i < length frames = omega (arith, low, many, length-map frames length) in
    let size : get_or sizes i 0 ≡ get_or (map length frames) i 0 = ap (λ (l : List ℕ). get_or l i 0) same in
    let left : length rest ≡ length (drop (total (take i (map length frames))) (joined frames)) = ap (λ (l : List ℕ). length l) is in
    omega (arith, size, left, length-drop (total (take i (map length frames))) (joined frames), frame-fits frames i inside)

-- it is the one at its place, and the others stand behind it
pub next_frame : (frames : Texts) (sizes rest frame behind : List ℕ) (i : ℕ) → sizes ≡ map length frames → i < length sizes → rest ≡ drop (total (take i (map length frames))) (joined frames)
    → frame ≡ take (get_or sizes i 0) rest → behind ≡ drop (get_or sizes i 0) rest
    → (i < length frames) × (frame ≡ get_or frames i []) × (behind ≡ drop (total (take (i + 1) (map length frames))) (joined frames))
next_frame frames sizes rest frame behind i same low is front back =
    let many : length sizes ≡ length (map length frames) = ap (λ (l : List ℕ). length l) same in
    let inside : i < length frames = omega (arith, low, many, length-map frames length) in
    let before = total (take i (map length frames)) in
    let size : get_or sizes i 0 ≡ get_or (map length frames) i 0 = ap (λ (l : List ℕ). get_or l i 0) same in
    let sum : before + get_or sizes i 0 ≡ total (take (i + 1) (map length frames)) = omega (arith, size, total-more (map length frames) i (omega (arith, inside, length-map frames length))) in (
      inside,
      front ∙ ap (λ (l : List ℕ). take (get_or sizes i 0) l) is ∙ ap (λ (n : ℕ). take n (drop before (joined frames))) size ∙ frame-there frames i inside,
      back ∙ ap (λ (l : List ℕ). drop (get_or sizes i 0) l) is ∙ drop-drop (get_or sizes i 0) before (joined frames) ∙ ap (λ (n : ℕ). drop n (joined frames)) sum,
    )

-- one more is pushed
pub pushed_next : (memory frames : Texts) (frame : List ℕ) (first place : ℕ) → first ≤ place → place < length frames → frame ≡ get_or frames place []
    → (memory ++ take (place - first) (drop first frames)) ++ frame ∷ [] ≡ memory ++ take (place + 1 - first) (drop first frames)
pushed_next memory frames frame first place from inside is =
    let count : place + 1 - first ≡ (place - first) + 1 = omega (arith, from) in
    let at : first + (place - first) ≡ place = omega (arith, from) in
    append_assoc memory (take (place - first) (drop first frames)) (frame ∷ [])
    ∙ ap (λ (l : Texts). memory ++ l)
    (ap (λ (f : List ℕ). take (place - first) (drop first frames) ++ f ∷ []) (is ∙ sym (get_or-drop first frames (place - first) [] ∙ ap (λ (k : ℕ). get_or frames k []) at))
    ∙ sym (take_more (drop first frames) (place - first) [] (omega (arith, from, inside, length-drop first frames)))
    ∙ ap (λ (k : ℕ). take k (drop first frames)) (sym count))

-- none is pushed yet
pub pushed_none : (memory frames : Texts) (first : ℕ) → memory ≡ memory ++ take (0 - first) (drop first frames)
pushed_none memory frames first =
    let none : 0 - first ≡ 0 = omega arith in
    sym (ap (λ (k : ℕ). memory ++ take k (drop first frames)) none ∙ append-nil memory)

-- those in front are passed by
pub passed_next : (memory frames : Texts) (first place : ℕ) → place < first → memory ++ take (place - first) (drop first frames) ≡ memory ++ take (place + 1 - first) (drop first frames)
passed_next memory frames first place before =
    let same : place - first ≡ place + 1 - first = omega (arith, before) in
    ap (λ (k : ℕ). memory ++ take k (drop first frames)) same

-- ---- images

covers_longer : (line more : Texts) (kept : ℕ) (bytes : List ℕ) → IsCovered line 0 kept bytes → IsCovered (line ++ more) 0 kept bytes
covers_longer line more kept bytes c =
    let zero_first : c.first ≡ 0 = omega (arith, c.front) in
    let stands : c.frames ≡ take (length c.frames) line = c.stands ∙ ap (λ (k : ℕ). take (length c.frames) (drop k line)) zero_first in
    let long : length c.frames ≤ length line = omega (arith, ap length stands, length-take (length c.frames) line) in
    record {
      frames = c.frames;
      stored = c.stored;
      first = 0;
      front = omega arith;
      stands = stands ∙ sym (take-append-le (length c.frames) line more long);
      enough = omega (arith, c.enough, zero_first);
    }

module _ {D : Type 0} (disk : D → DiskState) (frames : Texts) (first : ℕ) (old : Held D) (count : ℕ) (from : first ≤ count) (within : count ≤ length frames) where
  abbrev pub p : ℕ
  p = count - first

  abbrev pub given : Texts
  given = drop first frames

  abbrev pub pushed : Held D
  pushed = record old { memory = old.memory ++ take p given }

  long : length (take p given) ≡ p
  long = length-take-le p given (omega (arith, from, within, length-drop first frames))

  pushed_tells : is_some (held_of disk pushed) ≡ is_some (held_of disk old)
  pushed_tells =
      map_some (λ (b : List ℕ). standing old.stored old.behind b ++ (old.memory ++ take p given)) (content (disk old.store.disk))
      ∙ sym (map_some (λ (b : List ℕ). standing old.stored old.behind b ++ old.memory) (content (disk old.store.disk)))

  pushed_is : (held : Texts) → held_of disk old ≡ Some held → held_of disk pushed ≡ Some (held ++ take p given)
  pushed_is held is =
      let at = mapped (λ (b : List ℕ). standing old.stored old.behind b ++ old.memory) (content (disk old.store.disk)) held is in
      held_by disk pushed at.0 at.1
      ∙ ap Some (sym (append_assoc (standing old.stored old.behind at.0) old.memory (take p given)) ∙ ap (λ (l : Texts). l ++ take p given) (sym at.2))

  module _ (new : Held D) (dropped : ℕ) (settles : SettlesHeld disk pushed new dropped) (memory : IsWithinMemory old) where
    pub few_dropped : dropped ≤ p
    few_dropped = omega (arith, settles.few, memory, long, length-append old.memory (take p given))

    pub moves_settled : (inner : OutletState) → MovesLine disk given (count - dropped - first) 0 inner inner old new
    moves_settled inner = record {
      limits = settles.limits;
      lasts = settles.lasts;
      tells = settles.tells ∙ pushed_tells;
      inner_tells = refl;
      faults = omega arith;
      laters = omega arith;
      few = omega (arith, within, length-drop first frames);
      number = omega (arith, settles.number, few_dropped, from, long, length-append old.memory (take p given));
      memory = omega (arith, settles.number, settles.stays, few_dropped, from, long, length-append old.memory (take p given));
      some = λ held is. omega arith;
      forwards = λ held is. map_nothing inner.taken;
      holds = λ held is. (
          let less = few_dropped in
          let left : length (held ++ take p given) - dropped ≡ length held + (p - dropped) = omega (arith, less, long, length-append held (take p given)) in
          let kept : p - dropped ≡ count - dropped - first = omega (arith, from) in
          settles.holds (held ++ take p given) (pushed_is held is)
          ∙ ap (λ (k : ℕ). Some (take k (held ++ take p given))) left
          ∙ ap Some (take_behind held (take p given) (p - dropped)
          ∙ ap (λ (l : Texts). held ++ l) (take-take (p - dropped) p given (omega arith) ∙ ap (λ (k : ℕ). take k given) kept)));
      stays = omega (arith, settles.stays);
      images = λ works held is.
          within_as (disk old.store.disk) (disk new.store.disk) (IsCovered (held ++ take p given) 0 old.stored) (IsCovered (held ++ given) 0 old.stored)
          (settles.images works (held ++ take p given) (pushed_is held is))
          (λ c covered. subst (λ (l : Texts). IsCovered l 0 old.stored c)
          (append_assoc held (take p given) (drop p given) ∙ ap (λ (l : Texts). held ++ l) (take-append-drop p given))
          (covers_longer (held ++ take p given) (drop p given) old.stored c covered));
    }

-- none of them is kept
pub kept_none : {D : Type 0} (disk : D → DiskState) (frames : Texts) (count : ℕ) (inner : OutletState) (held : Held D) → StandsStill disk held
    → MovesLine disk (drop count frames) (count - count) 0 inner inner held held
kept_none disk frames count inner held still =
    let none : 0 ≡ count - count = omega arith in
    subst (λ (n : ℕ). MovesLine disk (drop count frames) n 0 inner inner held held) none (moves_given disk (drop count frames) 0 inner inner held held (still inner))

-- a frame isn't pushed
pub ended_as : (before stop : Stop) (count length : ℕ) → count < length → (stop ≡ before) ⊎ (stop ≡ NoMemory) → IsPushedAs before count length stop
ended_as before stop count length less (inl same) = inl same
ended_as before stop count length less (inr none) = inr (none, less)

-- none is dropped: all is as it was pushed
pub kept_as : (before stop : Stop) (closed : Bool) (count length : ℕ) → IsPushedAs before count length stop → KeepCause before closed count length stop
kept_as before stop closed count length (inl same) = inl same
kept_as before stop closed count length (inr none) = inr (none.1, inl none.0)

-- some are dropped
pub kept_fewer : (before settled : Stop) (closed : Bool) (count dropped length : ℕ) → count ≤ length → dropped ≤ count → is_open settled ≡ false → SettleStop dropped closed settled → KeepCause before closed (count - dropped) length settled
kept_fewer before Open closed count dropped length few less is stop = absurd (let no : true ≡ false = is in cc)
kept_fewer before Outlet closed count dropped length few less is stop = absurd stop
kept_fewer before Later closed count dropped length few less is stop = absurd stop
kept_fewer before Store closed count dropped length few less is stop = inr (omega (arith, few, less, stop.0), inr (refl, stop.1))
kept_fewer before NoMemory closed count dropped length few less is stop = inr (omega (arith, few, less, stop), inl refl)

pub settled_none : (dropped : ℕ) (closed : Bool) (stop : Stop) → is_open stop ≡ true → SettleStop dropped closed stop → dropped ≡ 0
settled_none dropped closed Open is none = none
settled_none dropped closed Outlet is none = absurd none
settled_none dropped closed Later is none = absurd none
settled_none dropped closed Store is none = absurd (let no : false ≡ true = is in cc)
settled_none dropped closed NoMemory is none = absurd (let no : false ≡ true = is in cc)
