-- Offers taken one after another, and how many are dropped.
use Rattle.std.proofs.Common.{◌≡◌, ℕ, ◌+◌, ◌≤◌, List, [], ◌∷◌, true, false, refl, ap, arith, suc, zero, max}
use Rattle.sg_msg.specs.declared.offer.Offer.{Offer}
use Rattle.sg_machine.specs.declared.event.Verdict.{Verdict}
use Rattle.sg_machine.specs.declared.event.Verdict.TheVariants.{Queued, Spooled, Waits, DroppedFull, DroppedDisk}
use Rattle.sg_machine.specs.declared.state.Origin.{Origin}
use Rattle.sg_machine.specs.declared.state.Dest.{Dest}
use Rattle.sg_list.specs.Lists.{change}
use Rattle.sg_machine.specs.Verdicts.{take_offer}
use Rattle.sg_machine.specs.Legal.{is_same_list}
use Rattle.sg_machine.specs.Runs.{BufferedEntry, opened_dests}
use Rattle.sg_machine.specs.Effects.{settled_some, refilled_some}
use Rattle.sg_machine.specs.declared.setup.DestSetup.{DestSetup}

-- the greatest number of dropped offers that a destination counts, of either cause
abbrev pub most_dropped : List Dest → ℕ
most_dropped [] = 0
most_dropped (d ∷ ds) = max (max d.dropped_full d.dropped_disk) (most_dropped ds)

pub take_offer-dropped : (origin : Origin) (o : Offer) (v : Verdict) (d : Dest) → max (take_offer origin o v d).dropped_full (take_offer origin o v d).dropped_disk ≤ max d.dropped_full d.dropped_disk + 1
take_offer-dropped origin o Queued d = omega arith
take_offer-dropped origin o Spooled d = omega arith
take_offer-dropped origin o Waits d = omega arith
take_offer-dropped origin o DroppedFull d = omega arith
take_offer-dropped origin o DroppedDisk d = omega arith

pub most_dropped-change : (origin : Origin) (o : Offer) (v : Verdict) (ds : List Dest) (k : ℕ) → most_dropped (change ds k (take_offer origin o v)) ≤ most_dropped ds + 1
most_dropped-change origin o v [] k = omega arith
most_dropped-change origin o v (d ∷ ds) zero = omega (arith, take_offer-dropped origin o v d)
most_dropped-change origin o v (d ∷ ds) (suc k) = omega (arith, most_dropped-change origin o v ds k)

pub most_dropped-same : (f : Dest → Dest) → ((d : Dest) → (f d).dropped_full ≡ d.dropped_full) → ((d : Dest) → (f d).dropped_disk ≡ d.dropped_disk) → (ds : List Dest) (k : ℕ) → most_dropped (change ds k f) ≡ most_dropped ds
most_dropped-same f full disk [] k = refl
most_dropped-same f full disk (d ∷ ds) zero = rw (full d, disk d) refl
most_dropped-same f full disk (d ∷ ds) (suc k) = ap (λ n. max (max d.dropped_full d.dropped_disk) n) (most_dropped-same f full disk ds k)

pub most_dropped-settle : (ds : List Dest) (k n : ℕ) → most_dropped (change ds k (settled_some n)) ≡ most_dropped ds
most_dropped-settle ds k n = most_dropped-same (settled_some n) (λ d. refl) (λ d. refl) ds k

pub most_dropped-refill : (ds : List Dest) (k n : ℕ) → most_dropped (change ds k (refilled_some n)) ≡ most_dropped ds
most_dropped-refill ds k n = most_dropped-same (refilled_some n) (λ d. refl) (λ d. refl) ds k

pub most_dropped-opened : (setups : List DestSetup) (entries : List (List BufferedEntry)) → most_dropped (opened_dests setups entries) ≡ 0
most_dropped-opened [] es = refl
most_dropped-opened (s ∷ ss) [] = omega (arith, most_dropped-opened ss [])
most_dropped-opened (s ∷ ss) (e ∷ es) = omega (arith, most_dropped-opened ss es)

pub is_same_list-true : (xs ys : List ℕ) → is_same_list xs ys ≡ true → xs ≡ ys
is_same_list-true [] [] h = refl
is_same_list-true [] (y ∷ ys) h = let wrong : false ≡ true = h in cc
is_same_list-true (x ∷ xs) [] h = let wrong : false ≡ true = h in cc
is_same_list-true (x ∷ xs) (y ∷ ys) h = grind (arith, is_same_list-true xs ys)
