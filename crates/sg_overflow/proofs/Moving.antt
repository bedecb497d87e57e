-- A call behind another one.
use Rattle.std.proofs.Common.{◌≡◌, inl, inr, ℕ, ◌+◌, ◌-◌, ◌≤◌, Bool, true, false, List, [], ◌++◌, length, take, drop, refl, sym, ◌∙◌, ap, subst, arith, append_assoc, length-drop, take-add, Some, None, Option}
use Rattle.std.proofs.lemmas.Bool.{cases_lt}
use Rattle.std.proofs.lemmas.List.{append-nil, length-append, length-take, length-take-le, take-append-le, drop-append-le, drop-drop, take-append-drop}
use Rattle.std.specs.Option.{option_map}
use Rattle.sg_device.specs.Disk.{DiskState, clock, Within}
use Rattle.sg_device.specs.Outlet.{OutletState}
use Rattle.sg_device.proofs.Disks.{within_as}
use Rattle.sg_spool.proofs.Calls.{lasts_trans}
use Rattle.sg_overflow.specs.View.{Held, held_of}
use Rattle.sg_overflow.specs.Line.{IsCovered, MovesLine}

abbrev pub Texts : Type 0
Texts = List (List ℕ)

-- what is left of the frames held, with others behind them
left_of : (held given : Texts) (n : ℕ) → n ≤ length held → drop n (held ++ []) ++ given ≡ drop n (held ++ given)
left_of held given n few = ap (λ (l : Texts). drop n l ++ given) (append-nil held) ∙ sym (drop-append-le n held given few)

pub covers_front : (held given : Texts) (n m kept : ℕ) (bytes : List ℕ) → n ≤ length held
    → IsCovered (held ++ []) n kept bytes → IsCovered (held ++ given) (n + m) kept bytes
covers_front held given n m kept bytes few c =
    let count = length c.frames in
    let stands : c.frames ≡ take count (drop c.first held) = c.stands ∙ ap (λ (l : Texts). take count (drop c.first l)) (append-nil held) in
    let inside : count ≤ length (drop c.first held) = omega (arith, ap length stands ∙ length-take count (drop c.first held)) in
    record {
      frames = c.frames;
      stored = c.stored;
      first = c.first;
      front = omega (arith, c.front);
      stands = stands ∙ sym (take-append-le count (drop c.first held) given inside)
          ∙ ap (take count) (sym (drop-append-le c.first held given (omega (arith, c.front, few))));
      enough = c.enough;
    }

covers_behind : (held given : Texts) (n m kept later : ℕ) (bytes : List ℕ) → n ≤ length held → kept ≤ n + later
    → IsCovered (drop n (held ++ []) ++ given) m later bytes → IsCovered (held ++ given) (n + m) kept bytes
covers_behind held given n m kept later bytes few stays c = record {
  frames = c.frames;
  stored = c.stored;
  first = n + c.first;
  front = omega (arith, c.front);
  stands = c.stands ∙ ap (λ (l : Texts). take (length c.frames) (drop c.first l)) (left_of held given n few)
      ∙ ap (take (length c.frames)) (drop-drop c.first n (held ++ given));
  enough = omega (arith, c.enough, stays);
}

within_then : (old mid new : DiskState) (P Q R : List ℕ → Type 0) → Within old mid P → Within mid new Q
    → ((c : List ℕ) → P c → R c) → ((c : List ℕ) → Q c → R c) → Within old new R
within_then old mid new P Q R one two from_one from_two = record {
  later = omega (arith, one.later, two.later);
  past = λ t c le left. one.past t c le (two.past t c (omega (arith, le, one.later)) left);
  kept = λ t c le left. two.kept t c (omega (arith, le, one.later)) (one.kept t c le left);
  each = λ t c low high left. elim (cases_lt (clock mid) t) [
    | inr early ↦ from_one c (one.each t c low early (two.past t c early left))
    | inl late ↦ from_two c (two.each t c (omega (arith, late)) high left)
  ];
}

-- where the first call's fault closed the store, the second leaves it as it is
pub images_then : {D : Type 0} (disk : D → DiskState) (held given : Texts) (n m : ℕ) (old mid new : Held D) (closed : Bool)
    → n ≤ length held → old.stored ≤ n + mid.stored → closed ≡ mid.store.closed
    → (mid.store.closed ≡ true → new.store ≡ mid.store)
    → Within (disk old.store.disk) (disk mid.store.disk) (IsCovered (held ++ []) n old.stored)
    → (mid.store.closed ≡ false → Within (disk mid.store.disk) (disk new.store.disk) (IsCovered (drop n (held ++ []) ++ given) m mid.stored))
    → Within (disk old.store.disk) (disk new.store.disk) (IsCovered (held ++ given) (n + m) old.stored)
images_then {D = D} disk held given n m old mid new true few stays is same one two =
    subst (λ (d : D). Within (disk old.store.disk) (disk d) (IsCovered (held ++ given) (n + m) old.stored))
    (ap (λ s. s.disk) (sym (same (sym is))))
    (within_as (disk old.store.disk) (disk mid.store.disk) (IsCovered (held ++ []) n old.stored) (IsCovered (held ++ given) (n + m) old.stored) one
    (λ c covered. covers_front held given n m old.stored c few covered))
images_then disk held given n m old mid new false few stays is same one two =
    within_then (disk old.store.disk) (disk mid.store.disk) (disk new.store.disk) (IsCovered (held ++ []) n old.stored)
    (IsCovered (drop n (held ++ []) ++ given) m mid.stored) (IsCovered (held ++ given) (n + m) old.stored) one (two (sym is))
    (λ c covered. covers_front held given n m old.stored c few covered)
    (λ c covered. covers_behind held given n m old.stored mid.stored c few stays covered)

pub map_twice : (told : Option Texts) (a b c : Texts) → a ++ b ≡ c
    → option_map (λ (t : Texts). t ++ b) (option_map (λ (t : Texts). t ++ a) told) ≡ option_map (λ (t : Texts). t ++ c) told
map_twice None a b c is = refl
map_twice (Some t) a b c is = ap Some (append_assoc t a b ∙ ap (λ (l : Texts). t ++ l) is)

-- frames are forwarded, and then a call takes some
pub moves_then : {D : Type 0} (disk : D → DiskState) (given : Texts) (taken n m : ℕ) (i j k : OutletState) (old mid new : Held D)
    → MovesLine disk [] 0 n i j old mid → MovesLine disk given taken m j k mid new → MovesLine disk given taken (n + m) i k old new
moves_then disk given taken n m i j k old mid new one two = record {
  limits = two.limits ∙ one.limits;
  lasts = lasts_trans disk old.store mid.store new.store one.lasts two.lasts;
  tells = two.tells ∙ one.tells;
  inner_tells = two.inner_tells ∙ one.inner_tells;
  faults = omega (arith, one.faults, two.faults);
  laters = omega (arith, one.laters, two.laters);
  few = two.few;
  number = omega (arith, one.number, two.number);
  memory = omega (arith, one.memory, two.memory);
  some = λ held is. (
      let first = one.some held is in
      let left = two.some (drop n (held ++ [])) (one.holds held is) in
      let size : length (drop n (held ++ [])) ≡ length held - n = ap (λ (l : Texts). length (drop n l)) (append-nil held) ∙ length-drop n held in
      omega (arith, first, left, size));
  forwards = λ held is. (
      let few : n ≤ length held = omega (arith, one.some held is) in
      let line = held ++ take taken given in
      let fronts : take n (held ++ []) ≡ take n line = ap (take n) (append-nil held) ∙ sym (take-append-le n held (take taken given) few) in
      let rests : take m (drop n (held ++ []) ++ take taken given) ≡ take m (drop n line) = ap (take m) (left_of held (take taken given) n few) in
      two.forwards (drop n (held ++ [])) (one.holds held is)
      ∙ ap (option_map (λ (t : Texts). t ++ take m (drop n (held ++ []) ++ take taken given))) (one.forwards held is)
      ∙ map_twice i.taken (take n (held ++ [])) (take m (drop n (held ++ []) ++ take taken given)) (take (n + m) line)
      ((λ x. fronts x ++ rests x) ∙ sym (take-add n m line)));
  holds = λ held is. (
      let few : n ≤ length held = omega (arith, one.some held is) in
      two.holds (drop n (held ++ [])) (one.holds held is)
      ∙ ap (λ (l : Texts). Some (drop m l)) (left_of held (take taken given) n few)
      ∙ ap Some (drop-drop m n (held ++ take taken given)));
  stays = omega (arith, one.stays, two.stays);
  images = λ works held is.
      images_then disk held given n m old mid new mid.store.closed (omega (arith, one.some held is)) one.stays refl two.lasts.untouched
      (one.images works held is) (λ open'. two.images open' (drop n (held ++ [])) (one.holds held is));
}

-- what is left behind a call that took the first of these frames, with the others behind them
line_behind : (held given : Texts) (k n : ℕ) → n ≤ length (held ++ take k given)
    → drop n (held ++ take k given) ++ drop k given ≡ drop n (held ++ given)
line_behind held given k n few =
    sym (drop-append-le n (held ++ take k given) (drop k given) few)
    ∙ ap (drop n) (append_assoc held (take k given) (drop k given) ∙ ap (λ (l : Texts). held ++ l) (take-append-drop k given))

-- some frames are taken, and then others of those behind them are kept
keep_image : (held given : Texts) (k n kept later : ℕ) (bytes : List ℕ) → n ≤ length held + k → k ≤ length given → kept ≤ n + later
    → IsCovered (drop n (held ++ take k given) ++ drop k given) 0 later bytes → IsCovered (held ++ given) n kept bytes
keep_image held given k n kept later bytes few all stays c =
    let long : n ≤ length (held ++ take k given) = omega (arith, few, length-append held (take k given), length-take-le k given all) in
    let zero_first : c.first ≡ 0 = omega (arith, c.front) in
    record {
      frames = c.frames;
      stored = c.stored;
      first = n;
      front = omega arith;
      stands = c.stands ∙ ap (λ (j : ℕ). take (length c.frames) (drop j (drop n (held ++ take k given) ++ drop k given))) zero_first
          ∙ ap (take (length c.frames)) (line_behind held given k n long);
      enough = omega (arith, c.enough, zero_first, stays);
    }

images_kept : {D : Type 0} (disk : D → DiskState) (held given : Texts) (k n : ℕ) (old mid new : Held D) (closed : Bool)
    → n ≤ length held + k → k ≤ length given → old.stored ≤ n + mid.stored → closed ≡ mid.store.closed → (mid.store.closed ≡ true → new.store ≡ mid.store)
    → Within (disk old.store.disk) (disk mid.store.disk) (IsCovered (held ++ given) n old.stored)
    → (mid.store.closed ≡ false → Within (disk mid.store.disk) (disk new.store.disk) (IsCovered (drop n (held ++ take k given) ++ drop k given) 0 mid.stored))
    → Within (disk old.store.disk) (disk new.store.disk) (IsCovered (held ++ given) n old.stored)
images_kept disk held given k n old mid new true few all stays is same one two =
    subst (λ d. Within (disk old.store.disk) (disk d) (IsCovered (held ++ given) n old.stored)) (ap (λ s. s.disk) (sym (same (sym is)))) one
images_kept disk held given k n old mid new false few all stays is same one two =
    within_then (disk old.store.disk) (disk mid.store.disk) (disk new.store.disk) (IsCovered (held ++ given) n old.stored)
    (IsCovered (drop n (held ++ take k given) ++ drop k given) 0 mid.stored) (IsCovered (held ++ given) n old.stored) one (two (sym is))
    (λ c covered. covered) (λ c covered. keep_image held given k n old.stored mid.stored c few all stays covered)

take_parts : (given : Texts) (k more : ℕ) → take k given ++ take more (drop k given) ≡ take (k + more) given
take_parts given k more = sym (take-add k more given)

map_none : (told : Option Texts) → option_map (λ (t : Texts). t ++ []) told ≡ told
map_none None = refl
map_none (Some t) = ap Some (append-nil t)

pub moves_kept : {D : Type 0} (disk : D → DiskState) (given : Texts) (k more n : ℕ) (i j l : OutletState) (old mid new : Held D)
    → MovesLine disk given k n i j old mid → MovesLine disk (drop k given) more 0 j l mid new → l ≡ j → MovesLine disk given (k + more) n i l old new
moves_kept disk given k more n i j l old mid new one two still = record {
  limits = two.limits ∙ one.limits;
  lasts = lasts_trans disk old.store mid.store new.store one.lasts two.lasts;
  tells = two.tells ∙ one.tells;
  inner_tells = two.inner_tells ∙ one.inner_tells;
  faults = omega (arith, one.faults, two.faults);
  laters = omega (arith, one.laters, two.laters);
  few = omega (arith, one.few, two.few, length-drop k given);
  number = omega (arith, one.number, two.number);
  memory = omega (arith, one.memory, two.memory);
  some = λ held is. (let few = one.some held is in omega (arith, few));
  forwards = λ held is.
      ap (λ (o : OutletState). o.taken) still ∙ one.forwards held is
      ∙ ap (λ (f : Texts). option_map (λ (t : Texts). t ++ f) i.taken) (front_same held is);
  holds = λ held is.
      two.holds (drop n (held ++ take k given)) (one.holds held is)
      ∙ ap Some (sym (drop-append-le n (held ++ take k given) (take more (drop k given)) (long held is))
      ∙ ap (drop n) (append_assoc held (take k given) (take more (drop k given)) ∙ ap (λ (f : Texts). held ++ f) (take_parts given k more)));
  stays = omega (arith, one.stays, two.stays);
  images = λ works held is.
      images_kept disk held given k n old mid new mid.store.closed (one.some held is) one.few one.stays refl two.lasts.untouched
      (one.images works held is) (λ open'. two.images open' (drop n (held ++ take k given)) (one.holds held is));
}
  where
    long : (held : Texts) → held_of disk old ≡ Some held → n ≤ length (held ++ take k given)
    long held is = omega (arith, one.some held is, length-append held (take k given), length-take-le k given one.few)

    front_same : (held : Texts) → held_of disk old ≡ Some held → take n (held ++ take k given) ≡ take n (held ++ take (k + more) given)
    front_same held is =
        sym (take-append-le n (held ++ take k given) (take more (drop k given)) (long held is))
        ∙ ap (take n) (append_assoc held (take k given) (take more (drop k given)) ∙ ap (λ (f : Texts). held ++ f) (take_parts given k more))
