-- The destination of an offer, and its part in what is kept beside it.
use Rattle.std.proofs.Common.{◌≡◌, ◌≢◌, ℕ, ◌+◌, ◌<◌, ◌≤◌, List, [], ◌∷◌, ◌++◌, length, take, replicate, get_or, set, Some, refl, sym, ap, ◌∙◌, arith, suc, zero, map, slice_get, inl, inr}
use Rattle.sg_list.specs.Lists.{change}
use Rattle.sg_list.proofs.ListLemmas.{some-same, change-set, slice_get-map, get-change}
use Rattle.sg_sinks.specs.States.{SinkState, Sunk}
use Rattle.sg_offers.specs.Payloads.{buffers_of, buffer_at}
use Rattle.sg_offers.specs.Rooms.{seen_in}

-- an item that was found with a default
pub item-there : {A : Type 0} (xs : List A) (k : ℕ) (x : A) → k < length xs → x ≡ get_or xs k x → slice_get xs k ≡ Some x
item-there [] k x l e = absurd (omega arith)
item-there (y ∷ xs) zero x l e = ap Some (sym e)
item-there (y ∷ xs) (suc k) x l e = item-there xs k x (omega arith) e

pub or-there : {A : Type 0} (xs : List A) (k : ℕ) (d : A) → k < length xs → slice_get xs k ≡ Some (get_or xs k d)
or-there [] k d l = absurd (omega arith)
or-there (y ∷ xs) zero d l = refl
or-there (y ∷ xs) (suc k) d l = or-there xs k d (omega arith)

-- a destination of which this is seen
pub sunk-is : (x : Sunk) (s : SinkState) (n : ℕ) → x.seen ≡ s → x.room ≡ n → x ≡ record { seen = s; room = n }
sunk-is x s n h g = rw (← h, ← g) refl

pub seen-there : (sinks : List Sunk) (d : ℕ) (x : Sunk) → slice_get sinks d ≡ Some x → slice_get (seen_in sinks) d ≡ Some x.seen
seen-there sinks d x h = slice_get-map (λ (s : Sunk). s.seen) sinks d x h

pub buffer-there : (sinks : List SinkState) (d : ℕ) (x : SinkState) → slice_get sinks d ≡ Some x → buffer_at (buffers_of sinks) d ≡ x.setup.buffer
buffer-there sinks d x h = let there = slice_get-map (λ (s : SinkState). s.setup.buffer) sinks d x h in rw there refl

pub set-seen : (sinks : List Sunk) (d : ℕ) (x y : Sunk) → slice_get sinks d ≡ Some x → y.seen ≡ x.seen → seen_in (set sinks d y) ≡ seen_in sinks
set-seen [] d x y h g = refl
set-seen (z ∷ sinks) zero x y h g = ap (λ (s : SinkState). s ∷ seen_in sinks) (g ∙ ap (λ (s : Sunk). s.seen) (sym (some-same z x h)))
set-seen (z ∷ sinks) (suc d) x y h g = ap (λ (ss : List SinkState). z.seen ∷ ss) (set-seen sinks d x y h g)

-- room at each destination up to one that is written
pub room-set : (sinks : List Sunk) (d : ℕ) (counts : List ℕ) (x y : Sunk) → slice_get sinks d ≡ Some x → ((e : ℕ) (s : Sunk) → e < d → slice_get sinks e ≡ Some s → get_or counts e 0 ≤ s.room)
    → get_or counts d 0 ≤ y.room → (e : ℕ) (s : Sunk) → e < d + 1 → slice_get (set sinks d y) e ≡ Some s → get_or counts e 0 ≤ s.room
room-set sinks d counts x y there before here e s l g =
    let found : slice_get (change sinks d (λ _. y)) e ≡ Some s = rw (change-set sinks d (λ _. y) x there) g in
    let r = get-change sinks d e (λ _. y) s found in
    elim r.2 [
      | inl p ↦ rw (p.0, p.1) here
      | inr p ↦ (
          let ne : e ≢ d = p.0 in
          let lt : e < d = omega arith in
          rw p.1 (before e r.0 lt r.1))
    ]

-- a slice that was written through a vector
pub take-whole : {A : Type 0} (xs ys : List A) (n : ℕ) → length xs ≡ n → take n (xs ++ ys) ≡ xs
take-whole [] ys zero h = grind arith
take-whole [] ys (suc n) h = absurd (omega arith)
take-whole (x ∷ xs) ys zero h = absurd (omega arith)
take-whole {A} (x ∷ xs) ys (suc n) h = ap (λ (zs : List A). x ∷ zs) (take-whole xs ys n (omega arith))

pub replicate-map : {A B : Type 0} (xs : List A) (n : ℕ) (y : B) → n ≡ length xs → replicate n y ≡ map (λ (_ : A). y) xs
replicate-map [] zero y h = refl
replicate-map [] (suc n) y h = absurd (omega arith)
replicate-map (x ∷ xs) zero y h = absurd (omega arith)
replicate-map {A} {B} (x ∷ xs) (suc n) y h = ap (λ (ys : List B). y ∷ ys) (replicate-map xs n y (omega arith))
