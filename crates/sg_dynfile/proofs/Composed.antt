-- Sends to one outlet, one behind another.
use Rattle.std.proofs.Common.{◌≡◌, ◌≤◌, ◌<◌, ℕ, zero, suc, ◌+◌, List, [], ◌∷◌, ◌++◌, length, take, refl, sym, ap, ◌∙◌, arith, subst, append_assoc, length-append}
use Rattle.std.specs.Prelude.{false, ◌==◌, if◌then◌else◌, Option, Some, None, Result, Ok, Err}
use Rattle.std.specs.Option.{option_map}
use Rattle.std.proofs.lemmas.Bool.{ne_eqb}
use Rattle.std.proofs.lemmas.List.{append-nil, take-append-le}
use Rattle.sg_device.specs.Faults.{Rose}
use Rattle.sg_device.specs.Outlet.{OutletState, TakesFirst, Sends, failing_after, one_more}
use Rattle.sg_device.specs.declared.fault.SendRefusal.{SendRefusal}
use Rattle.sg_device.specs.declared.fault.SendRefusal.TheVariants.{Fault, Later, NoMemory}
use Rattle.sg_dynfile.specs.Sending.{TakesAll}

pub behind-none : {A : Type 0} (taken : Option (List A)) → taken ≡ option_map (λ before. before ++ []) taken
behind-none None = refl
behind-none {A} (Some xs) = ap (λ (l : List A). Some l) (sym (append-nil xs))

behind-two : (xs ys zs : List (List ℕ)) (taken : Option (List (List ℕ))) → xs ++ ys ≡ zs → option_map (λ before. before ++ ys) (option_map (λ before. before ++ xs) taken) ≡ option_map (λ before. before ++ zs) taken
behind-two xs ys zs None is = refl
behind-two xs ys zs (Some l) is = ap (λ (m : List (List ℕ)). Some m) (append_assoc l xs ys ∙ ap (λ (m : List (List ℕ)). l ++ m) is)

take-both : (f g : List (List ℕ)) (k : ℕ) → take (length f) f ++ take k g ≡ take (length f + k) (f ++ g)
take-both [] g k = let on : k ≡ zero + k = omega arith in ap (λ (n : ℕ). take n g) on
take-both (x ∷ f) g k =
    let on : suc (length f + k) ≡ suc (length f) + k = omega arith in
    ap (λ (l : List (List ℕ)). x ∷ l) (take-both f g k) ∙ ap (λ (n : ℕ). take n (x ∷ f ++ g)) on

-- a frame that is taken ends the failures in a row
pub after-some : (k failing : ℕ) → 0 < k → failing_after k failing ≡ 0
after-some k failing some =
    let no : (k == 0) ≡ false = ne_eqb k 0 (λ (z : k ≡ 0). omega (arith, z, some)) in
    ap (λ b. if b then failing else 0) no

failing-two : (m k failing : ℕ) → failing_after k (failing_after m failing) ≡ failing_after (m + k) failing
failing-two m zero failing = let on : m ≡ m + zero = omega arith in ap (λ (n : ℕ). failing_after n failing) on
failing-two m (suc k) failing =
    let one : 0 < suc k = omega arith in
    let both : 0 < m + suc k = omega arith in
    after-some (suc k) (failing_after m failing) one ∙ sym (after-some (m + suc k) failing both)

-- nothing was taken, and nothing failed
pub all-none : (s : OutletState) → TakesAll [] s s
all-none s = record {
  takes = record { taken = behind-none s.taken; count = omega arith; laters = refl; faults = omega arith };
  faults = refl;
  failing = refl;
}

first-two : (f g : List (List ℕ)) (k : ℕ) (a b c : OutletState) → TakesAll f a b → TakesFirst k g b c → TakesFirst (length f + k) (f ++ g) a c
first-two f g k a b c one h = record {
  taken =
      h.taken
      ∙ ap (λ (t : Option (List (List ℕ))). option_map (λ before. before ++ take k g) t) one.takes.taken
      ∙ behind-two (take (length f) f) (take k g) (take (length f + k) (f ++ g)) a.taken (take-both f g k);
  count = omega (arith, h.count, one.takes.count);
  laters = h.laters ∙ one.takes.laters;
  faults = omega (arith, h.faults, one.takes.faults);
}

failing-behind : (f : List (List ℕ)) (k : ℕ) (a b : OutletState) → TakesAll f a b → failing_after k b.failing ≡ failing_after (length f + k) a.failing
failing-behind f k a b one = ap (λ (n : ℕ). failing_after k n) one.failing ∙ failing-two (length f) k a.failing

-- what was taken behind what was taken
pub all-two : (f g : List (List ℕ)) (a b c : OutletState) → TakesAll f a b → TakesAll g b c → TakesAll (f ++ g) a c
all-two f g a b c one two =
    let long : length f + length g ≡ length (f ++ g) = sym (length-append f g) in
    record {
      takes = subst (λ (n : ℕ). TakesFirst n (f ++ g) a c) long (first-two f g (length g) a b c one two.takes);
      faults = two.faults ∙ one.faults;
      failing = two.failing ∙ failing-behind f (length g) a b one ∙ ap (λ (n : ℕ). failing_after n a.failing) long;
    }

-- a send that took all, and counted no fault
pub sends-all : (f : List (List ℕ)) (a b : OutletState) (done : Unit) → 0 < length f → Sends a b f (Ok done) → b.faults ≡ a.faults → TakesAll f a b
sends-all f a b done some h well = record { takes = h.0; faults = well; failing = h.1 ∙ sym (after-some (length f) a.failing some) }

all-later : (f : List (List ℕ)) (a b : OutletState) → TakesAll f a b → TakesAll f (record a { laters = a.laters + 1 }) (record b { laters = b.laters + 1 })
all-later f a b one = record {
  takes = record {
    taken = one.takes.taken;
    count = one.takes.count;
    laters = ap (λ (n : ℕ). n + 1) one.takes.laters;
    faults = one.takes.faults;
  };
  faults = one.faults;
  failing = one.failing;
}

-- a send behind what was taken
pub all-sends : (f g : List (List ℕ)) (a b c : OutletState) (answer : Result Unit SendRefusal) → TakesAll f a b → Sends b c g answer → Sends a c (f ++ g) answer
all-sends f g a b c (Ok done) one h = (
  subst (λ (n : ℕ). TakesFirst n (f ++ g) a c) (sym (length-append f g)) (first-two f g (length g) a b c one h.0),
  h.1,
)
all-sends f g a b c (Err Fault) one h =
    let k : ℕ = h.0.0 in
    let fewer : length f + k < length (f ++ g) = omega (arith, h.0.1, length-append f g) in (
      (length f + k, fewer, first-two f g k a b c one h.0.2, h.0.3 ∙ ap one_more (failing-behind f k a b one)),
      subst (λ (n : ℕ). Rose n c.faults) one.faults h.1,
    )
all-sends f g a b c (Err Later) one h =
    let k : ℕ = h.0 in
    let fewer : length f + k < length (f ++ g) = omega (arith, h.1, length-append f g) in
    (length f + k, fewer, first-two f g k (record a { laters = a.laters + 1 }) (record b { laters = b.laters + 1 }) c (all-later f a b one) h.2, h.3 ∙ one.faults, h.4 ∙ failing-behind f k a b one)
all-sends f g a b c (Err NoMemory) one h =
    let k : ℕ = h.0 in
    let fewer : length f + k < length (f ++ g) = omega (arith, h.1, length-append f g) in
    (length f + k, fewer, first-two f g k a b c one h.2, h.3 ∙ failing-behind f k a b one)

first-early : (f g : List (List ℕ)) (k : ℕ) (a c : OutletState) → k ≤ length f → TakesFirst k f a c → TakesFirst k (f ++ g) a c
first-early f g k a c within h = record {
  taken = h.taken ∙ ap (λ (l : List (List ℕ)). option_map (λ before. before ++ l) a.taken) (sym (take-append-le k f g within));
  count = h.count;
  laters = h.laters;
  faults = h.faults;
}

-- a refusal of the first frames is one of all of them
pub sends-early : (f g : List (List ℕ)) (a c : OutletState) (refusal : SendRefusal) → Sends a c f (Err refusal) → Sends a c (f ++ g) (Err refusal)
sends-early f g a c Fault h =
    let within : h.0.0 ≤ length f = omega (arith, h.0.1) in
    ((h.0.0, omega (arith, h.0.1, length-append f g), first-early f g h.0.0 a c within h.0.2, h.0.3), h.1)
sends-early f g a c Later h =
    let within : h.0 ≤ length f = omega (arith, h.1) in
    (h.0, omega (arith, h.1, length-append f g), first-early f g h.0 (record a { laters = a.laters + 1 }) c within h.2, h.3, h.4)
sends-early f g a c NoMemory h =
    let within : h.0 ≤ length f = omega (arith, h.1) in
    (h.0, omega (arith, h.1, length-append f g), first-early f g h.0 a c within h.2, h.3)

-- memory ran out behind what was taken
pub all-starved : (f g : List (List ℕ)) (a b : OutletState) → TakesAll f a b → 0 < length g → Sends a b (f ++ g) (Err NoMemory)
all-starved f g a b one some =
    (length f, omega (arith, some, length-append f g), first-early f g (length f) a b (omega arith) one.takes, one.failing)
