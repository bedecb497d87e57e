-- The stores of inlets and of destinations, one driver after another.
use Rattle.std.proofs.Common.{◌≡◌, ◌⊎◌, inl, inr, ℕ, zero, suc, ◌+◌, List, [], ◌∷◌, ◌++◌, length, replicate, Option, Some, None, option_and_then, refl, ap, sym, ◌∙◌, arith}
use Rattle.std.proofs.lemmas.Option.{none-some}
use Rattle.std.specs.List.{slice_get}
use Rattle.std.specs.Option.{option_map_or}
use Rattle.sg_machine.specs.declared.setup.SourceSetup.{SourceSetup}
use Rattle.sg_machine.specs.declared.setup.BufferSetup.{BufferSetup}
use Rattle.sg_machine.specs.declared.setup.DestSetup.{DestSetup}
use Rattle.sg_plan.specs.Limits.{NumbersStores}
use Rattle.sg_plan.proofs.Apart.{AreDriversApart, swapped, none-more, one-more}
use Rattle.sg_list.proofs.ListLemmas.{some-same}

-- of any lists of things that may have a number
abbrev stored : {A : Type 0} → (A → Option ℕ) → List A → ℕ → Option ℕ
stored f xs i = option_and_then f (slice_get xs i)

later : {A : Type 0} (f : A → Option ℕ) (y : A) (ys : List A) (x : A) (i s : ℕ) → (stored f ys i ≡ Some s) ⊎ ((i ≡ length ys) × (f x ≡ Some s))
    → (stored f (y ∷ ys) (suc i) ≡ Some s) ⊎ ((suc i ≡ length (y ∷ ys)) × (f x ≡ Some s))
later f y ys x i s (inl e) = inl e
later f y ys x i s (inr q) = inr (ap suc q.0, q.1)

pushed : {A : Type 0} (f : A → Option ℕ) (xs : List A) (x : A) (i s : ℕ) → stored f (xs ++ x ∷ []) i ≡ Some s → (stored f xs i ≡ Some s) ⊎ ((i ≡ length xs) × (f x ≡ Some s))
pushed f [] x zero s e = inr (refl, e)
pushed f [] x (suc i) s e = absurd (none-some s e)
pushed f (y ∷ ys) x zero s e = inl e
pushed f (y ∷ ys) x (suc i) s e = later f y ys x i s (pushed f ys x i s e)

-- more of which none has a number
appended : {A : Type 0} (f : A → Option ℕ) (xs ys : List A) (i s : ℕ) → ((j : ℕ) → stored f ys j ≡ Some s → ⊥) → stored f (xs ++ ys) i ≡ Some s → stored f xs i ≡ Some s
appended f [] ys i s none e = absurd (none i e)
appended f (x ∷ xs) ys zero s none e = e
appended f (x ∷ xs) ys (suc i) s none e = appended f xs ys i s none e

replicated : {A : Type 0} (f : A → Option ℕ) (n : ℕ) (x : A) (i s : ℕ) → f x ≡ None → stored f (replicate n x) i ≡ Some s → ⊥
replicated f zero x i s none e = none-some s e
replicated f (suc n) x zero s none e = none-some s (sym none ∙ e)
replicated f (suc n) x (suc i) s none e = replicated f n x i s none e

-- what is there stays
kept : {A : Type 0} (f : A → Option ℕ) (xs ys : List A) (i s : ℕ) → stored f xs i ≡ Some s → stored f (xs ++ ys) i ≡ Some s
kept f [] ys i s e = absurd (none-some s e)
kept f (x ∷ xs) ys zero s e = e
kept f (x ∷ xs) ys (suc i) s e = kept f xs ys i s e

last-stored : {A : Type 0} (f : A → Option ℕ) (xs : List A) (x : A) → stored f (xs ++ x ∷ []) (length xs) ≡ f x
last-stored f [] x = refl
last-stored f (y ∷ ys) x = last-stored f ys x

-- what of two that may be one is new
new-one : {A : Type 0} (f : A → Option ℕ) (xs : List A) (x : A) (n i s : ℕ) → f x ≡ Some n → (stored f xs i ≡ Some s) ⊎ ((i ≡ length xs) × (f x ≡ Some s))
    → (stored f xs i ≡ Some s) ⊎ ((i ≡ length xs) × (s ≡ n))
new-one f xs x n i s has (inl e) = inl e
new-one f xs x n i s has (inr q) = inr (q.0, some-same s n (sym q.1 ∙ has))

abbrev outlet_number : DestSetup → Option ℕ
outlet_number setup = option_map_or (λ (buffer : BufferSetup). Some buffer.store) setup.buffer None

abbrev inlet_number : SourceSetup → Option ℕ
inlet_number setup = setup.store

numbers-of : (inlets : List SourceSetup) (outlets : List DestSetup) (n : ℕ) → AreDriversApart (stored inlet_number inlets) (stored outlet_number outlets) n → NumbersStores inlets outlets n
numbers-of inlets outlets n a = record { positions = a.firsts; buffers = a.seconds; inlets_apart = a.firsts_apart; dests_apart = a.seconds_apart; apart = a.apart; used = a.used }

apart-of : (inlets : List SourceSetup) (outlets : List DestSetup) (n : ℕ) → NumbersStores inlets outlets n → AreDriversApart (stored inlet_number inlets) (stored outlet_number outlets) n
apart-of inlets outlets n a = record { firsts = a.positions; seconds = a.buffers; firsts_apart = a.inlets_apart; seconds_apart = a.dests_apart; apart = a.apart; used = a.used }

pub no-numbers : NumbersStores [] [] 0
no-numbers = record {
  positions = λ i s e. absurd (none-some s e);
  buffers = λ d s e. absurd (none-some s e);
  inlets_apart = λ i j s e e'. absurd (none-some s e);
  dests_apart = λ d e' s e e''. absurd (none-some s e);
  apart = λ i d s e e'. none-some s e;
  used = λ s h. absurd (omega arith);
}

-- inlets without a store
pub listeners-more : (inlets : List SourceSetup) (outlets : List DestSetup) (n k : ℕ) (setup : SourceSetup) → setup.store ≡ None → NumbersStores inlets outlets n → NumbersStores (inlets ++ replicate k setup) outlets n
listeners-more inlets outlets n k setup none a =
    numbers-of _ _ n (none-more (stored inlet_number inlets) (stored outlet_number outlets) (stored inlet_number (inlets ++ replicate k setup)) n
    (λ i s e. appended inlet_number inlets (replicate k setup) i s (λ j. replicated inlet_number k setup j s none) e) (kept inlet_number inlets (replicate k setup)) (apart-of inlets outlets n a))

-- an inlet with the next one
pub file-more : (inlets : List SourceSetup) (outlets : List DestSetup) (n : ℕ) (setup : SourceSetup) → setup.store ≡ Some n → NumbersStores inlets outlets n → NumbersStores (inlets ++ setup ∷ []) outlets (n + 1)
file-more inlets outlets n setup has a =
    numbers-of _ _ (n + 1) (one-more (stored inlet_number inlets) (stored outlet_number outlets) (stored inlet_number (inlets ++ setup ∷ [])) (length inlets) n
    (λ i s e. new-one inlet_number inlets setup n i s has (pushed inlet_number inlets setup i s e)) (kept inlet_number inlets (setup ∷ [])) (last-stored inlet_number inlets setup ∙ has) (apart-of inlets outlets n a))

-- a destination without a disk-buffer
pub queue-more : (inlets : List SourceSetup) (outlets : List DestSetup) (n : ℕ) (setup : DestSetup) → outlet_number setup ≡ None → NumbersStores inlets outlets n → NumbersStores inlets (outlets ++ setup ∷ []) n
queue-more inlets outlets n setup none a =
    numbers-of _ _ n (swapped (stored outlet_number (outlets ++ setup ∷ [])) (stored inlet_number inlets) n
    (none-more (stored outlet_number outlets) (stored inlet_number inlets) (stored outlet_number (outlets ++ setup ∷ [])) n
    (λ i s e. appended outlet_number outlets (setup ∷ []) i s (λ j. replicated outlet_number 1 setup j s none) e)
    (kept outlet_number outlets (setup ∷ []))
    (swapped (stored inlet_number inlets) (stored outlet_number outlets) n (apart-of inlets outlets n a))))

-- a destination with the next one
pub buffer-more : (inlets : List SourceSetup) (outlets : List DestSetup) (n : ℕ) (setup : DestSetup) → outlet_number setup ≡ Some n → NumbersStores inlets outlets n → NumbersStores inlets (outlets ++ setup ∷ []) (n + 1)
buffer-more inlets outlets n setup has a =
    numbers-of _ _ (n + 1) (swapped (stored outlet_number (outlets ++ setup ∷ [])) (stored inlet_number inlets) (n + 1)
    (one-more (stored outlet_number outlets) (stored inlet_number inlets) (stored outlet_number (outlets ++ setup ∷ [])) (length outlets) n
    (λ i s e. new-one outlet_number outlets setup n i s has (pushed outlet_number outlets setup i s e))
    (kept outlet_number outlets (setup ∷ [])) (last-stored outlet_number outlets setup ∙ has)
    (swapped (stored inlet_number inlets) (stored outlet_number outlets) n (apart-of inlets outlets n a))))
