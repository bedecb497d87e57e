-- The entries on a disk among those that are left.
use Rattle.std.proofs.Common.{◌≡◌, ℕ, ◌+◌, ◌-◌, ◌≤◌, List, [], ◌∷◌, ◌++◌, length, take, drop, Bool, true, false, if◌then◌else◌, refl, sym, ap, ◌∙◌, arith, suc, zero, map, subst, min}
use Rattle.std.specs.Prelude.{◌==◌}
use Rattle.std.proofs.lemmas.List.{append-nil, length-append}
use Rattle.sg_msg.specs.Length.{encoded_len}
use Rattle.sg_machine.specs.declared.event.Act.TheVariants.{Settle}
use Rattle.sg_machine.specs.declared.state.Dest.{Dest}
use Rattle.sg_machine.specs.declared.state.DestEntry.{DestEntry}
use Rattle.sg_machine.specs.Counts.{as_kept}
use Rattle.sg_machine.specs.Runs.{BufferedEntry}
use Rattle.sg_machine.specs.Safe.{IsSafeList, spooled_of}
use Rattle.sg_sinks.specs.Standing.{are_split, are_waiting, lengths_of}
use Rattle.sg_sinks.proofs.LeftLemmas.{first-waits, rest-waits}
use Rattle.sg_sinks.proofs.SettleSteps.{drop-waiting}
use Rattle.sg_stores.specs.Stores.{length_of}
use Rattle.sg_standing.proofs.Safes.{spooled-append, spooled-left}
use Rattle.sg_core.proofs.SettleSteps.{spooled-rest, split-by}

pub spooled-cons : (b : Bool) (e : DestEntry) (es : List DestEntry) → e.spooled ≡ b → spooled_of (e ∷ es) ≡ (if b then as_kept e ∷ spooled_of es else spooled_of es)
spooled-cons true e es h = rw h refl
spooled-cons false e es h = rw h refl

pub waiting-none : (es : List DestEntry) → are_waiting es ≡ true → spooled_of es ≡ []
waiting-none [] h = refl
waiting-none (e ∷ es) h = spooled-cons false e es (first-waits e es h) ∙ waiting-none es (rest-waits e es h)

take-nil : (n : ℕ) → take n (let none : List BufferedEntry = [] in none) ≡ []
take-nil zero = refl
take-nil (suc n) = refl

drop-nil : (n : ℕ) → drop n (let none : List BufferedEntry = [] in none) ≡ []
drop-nil zero = refl
drop-nil (suc n) = refl

take-waiting : (n : ℕ) (es : List DestEntry) → are_waiting es ≡ true → are_waiting (take n es) ≡ true
take-waiting zero es h = refl
take-waiting (suc n) [] h = refl
take-waiting (suc n) (e ∷ es) h = let rest = take-waiting n es (rest-waits e es h) in grind (arith, rest, h)

drop-by : (b : Bool) (n : ℕ) (e : DestEntry) (es : List DestEntry) → e.spooled ≡ b → are_split (e ∷ es) ≡ true → spooled_of (drop n es) ≡ drop n (spooled_of es) → spooled_of (drop n es) ≡ drop (suc n) (spooled_of (e ∷ es))
drop-by true n e es h split rest = rest ∙ ap (drop (suc n)) (sym (spooled-cons true e es h))
drop-by false n e es h split rest =
    let w = rest-waits e es (split-by false e es h split) in
    let none = spooled-cons false e es h ∙ waiting-none es w in
    waiting-none (drop n es) (drop-waiting n es w) ∙ ap (drop (suc n)) (sym none)

pub spooled-drop : (n : ℕ) (es : List DestEntry) → are_split es ≡ true → spooled_of (drop n es) ≡ drop n (spooled_of es)
spooled-drop zero es split = refl
spooled-drop (suc n) [] split = refl
spooled-drop (suc n) (e ∷ es) split = drop-by e.spooled n e es refl split (spooled-drop n es (spooled-rest e.spooled e es refl split))

take-by : (b : Bool) (n : ℕ) (e : DestEntry) (es : List DestEntry) → e.spooled ≡ b → are_split (e ∷ es) ≡ true → spooled_of (take n es) ≡ take n (spooled_of es) → spooled_of (e ∷ take n es) ≡ take (suc n) (spooled_of (e ∷ es))
take-by true n e es h split rest = spooled-cons true e (take n es) h ∙ ap (λ ks. as_kept e ∷ ks) rest ∙ ap (take (suc n)) (sym (spooled-cons true e es h))
take-by false n e es h split rest =
    let w = rest-waits e es (split-by false e es h split) in
    let none = spooled-cons false e es h ∙ waiting-none es w in
    spooled-cons false e (take n es) h ∙ waiting-none (take n es) (take-waiting n es w) ∙ ap (take (suc n)) (sym none)

pub spooled-take : (n : ℕ) (es : List DestEntry) → are_split es ≡ true → spooled_of (take n es) ≡ take n (spooled_of es)
spooled-take zero es split = refl
spooled-take (suc n) [] split = refl
spooled-take (suc n) (e ∷ es) split = take-by e.spooled n e es refl split (spooled-take n es (spooled-rest e.spooled e es refl split))

lengths-by : (b : Bool) (e : DestEntry) (es : List DestEntry) → e.spooled ≡ b → lengths_of es ≡ map length_of (spooled_of es) → lengths_of (e ∷ es) ≡ map length_of (spooled_of (e ∷ es))
lengths-by true e es h rest = rw h (ap (λ ns. encoded_len e.message ∷ ns) rest)
lengths-by false e es h rest = rw h rest

pub lengths-spooled : (es : List DestEntry) → lengths_of es ≡ map length_of (spooled_of es)
lengths-spooled [] = refl
lengths-spooled (e ∷ es) = lengths-by e.spooled e es refl (lengths-spooled es)

-- Lists within a settle.

drop-drop : (a k : ℕ) (ks : List BufferedEntry) → drop (a + k) ks ≡ drop k (drop a ks)
drop-drop zero k ks = ap (λ n. drop n ks) (omega arith)
drop-drop (suc a) k [] = drop-nil (suc a + k) ∙ sym (drop-nil k)
drop-drop (suc a) k (x ∷ ks) = let e : suc a + k ≡ suc (a + k) = omega arith in rw e (drop-drop a k ks)

length-take-min : (n : ℕ) (ks : List BufferedEntry) → length (take n ks) ≡ min n (length ks)
length-take-min zero ks = omega arith
length-take-min (suc n) [] = omega arith
length-take-min (suc n) (x ∷ ks) = let r = length-take-min n ks in omega (arith, r)

-- those without the first n that are settled are safe within the settle
pub safe-dropped : (x : Dest) (d n k : ℕ) (failed : List ℕ) (tried : List BufferedEntry) → are_split x.left ≡ true → k ≡ min n (length (spooled_of x.left)) → IsSafeList x d (Settle d n) failed tried (drop k (spooled_of x.left))
safe-dropped x d n k failed tried split at =
    let a : ℕ = length (spooled_of x.settled) in
    let here : (d == d) ≡ true = grind arith in
    record {
      gone = a + k;
      added = 0;
      parts = sym (append-nil (drop k (spooled_of x.left))) ∙ ap (λ ks. ks ++ []) (ap (drop k) (sym (spooled-left x)) ∙ sym (drop-drop a k (spooled_of (x.settled ++ x.left))));
      settled =
          let len : length (spooled_of (x.settled ++ take n x.left)) ≡ a + k =
          ap length (spooled-append x.settled (take n x.left)) ∙ length-append (spooled_of x.settled) (spooled_of (take n x.left)) ∙ ap (λ m. a + m) (ap length (spooled-take n x.left split) ∙ length-take-min n (spooled_of x.left) ∙ sym at) in
          let P : Bool → Type 0 = λ b. a + k ≤ length (spooled_of (if b then x.settled ++ take n x.left else x.settled)) in
          subst P (sym here) (omega (arith, len));
      all_settled = λ f s. let wrong : true ≡ false = sym here ∙ s in cc;
    }
