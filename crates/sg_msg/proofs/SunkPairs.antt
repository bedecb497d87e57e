-- Two pairs beside each other may change places, where their names differ.
use Rattle.std.proofs.Common.{◌≡◌, ◌≢◌, ◌<◌, ◌-◌, ◌≤◌, ℕ, zero, suc, List, [], ◌∷◌, length, map, set, get_or, slice_set, refl, sym, ap, subst, ◌∙◌, arith}
use Rattle.std.specs.List.{swap, All}
use Rattle.std.specs.declared.cmp.Ordering.TheVariants.{Greater}
use Rattle.std.proofs.lemmas.List.{map-set, get_or-map, length-map}
use Rattle.std.proofs.lemmas.List.Elements.{All-set}
use Rattle.sg_msg.specs.Message.{NameValue, byte_order, with_pair, with_all, IsAscending}
use Rattle.sg_msg.specs.Parts.{name_in, pair_in, pairs_in, IsPairIn, AreIn}
use Rattle.sg_msg.specs.declared.pair.Pair.{Pair}
use Rattle.sg_msg.proofs.PartSearch.{text-is}
use Rattle.sg_msg.proofs.ByteOrder.{test-same, test-greater}
use Rattle.sg_msg.proofs.KeptPairs.{ascending-with}
use Rattle.sg_msg.proofs.ManyPairs.{commute}

differs-greater : (x y : List ℕ) → byte_order x y ≡ Greater → x ≢ y
differs-greater x y greater e = let same = test-same x y e in let apart = test-greater x y greater in absurd (cc)

swapped : (pairs : List NameValue) (k : ℕ) (d : NameValue) (base : List NameValue) → IsAscending base → suc k < length pairs
    → byte_order (get_or pairs k d).name (get_or pairs (suc k) d).name ≡ Greater
    → with_all (slice_set (slice_set pairs k (get_or pairs (suc k) d)) (suc k) (get_or pairs k d)) base ≡ with_all pairs base
swapped [] k d base up lt over = absurd (omega (arith, lt))
swapped (p ∷ []) k d base up lt over = absurd (omega (arith, lt))
swapped (p ∷ q ∷ pairs) zero d base up lt over = ap (with_all pairs) (commute p q base (differs-greater p.name q.name over) up)
swapped (p ∷ q ∷ pairs) (suc k) d base up lt over = swapped (q ∷ pairs) k d (with_pair p.name p.value base) (ascending-with p.name p.value base up) (omega (arith, lt)) over

get-same : (pairs : List NameValue) (k : ℕ) (d e : NameValue) → k < length pairs → get_or pairs k d ≡ get_or pairs k e
get-same [] k d e lt = absurd (omega (arith, lt))
get-same (p ∷ pairs) zero d e lt = refl
get-same (p ∷ pairs) (suc k) d e lt = get-same pairs k d e (omega (arith, lt))

by-swap : (pairs : List NameValue) (k : ℕ) (d : NameValue) → suc k < length pairs → byte_order (get_or pairs k d).name (get_or pairs (suc k) d).name ≡ Greater
    → with_all (swap pairs k (suc k)) [] ≡ with_all pairs []
by-swap [] k d lt over = absurd (omega (arith, lt))
by-swap (p ∷ pairs) k d lt over = swapped (p ∷ pairs) k p [] tt lt (by-default (p ∷ pairs) k d p lt over)
  where
    by-default : (pairs : List NameValue) (k : ℕ) (d e : NameValue) → suc k < length pairs → byte_order (get_or pairs k d).name (get_or pairs (suc k) d).name ≡ Greater
        → byte_order (get_or pairs k e).name (get_or pairs (suc k) e).name ≡ Greater
    by-default pairs k d e lt over =
        subst (λ (p : NameValue). byte_order p.name (get_or pairs (suc k) e).name ≡ Greater) (get-same pairs k d e (omega (arith, lt)))
        (subst (λ (q : NameValue). byte_order (get_or pairs k d).name q.name ≡ Greater) (get-same pairs (suc k) d e lt) over)

-- the same as the program reads them
pub sunk : (pairs new : List NameValue) (at : ℕ) (first second : NameValue) → 1 ≤ at → at < length pairs → first ≡ get_or pairs (at - 1) first → second ≡ get_or pairs at second
    → byte_order first.name second.name ≡ Greater → new ≡ swap pairs (at - 1) at → with_all new [] ≡ with_all pairs []
sunk pairs new at first second some lt first-is second-is over new-is =
    let one : suc (at - 1) ≡ at = omega (arith, some) in
    let here : get_or pairs at second ≡ get_or pairs (suc (at - 1)) first = get-same pairs at second first lt ∙ ap (λ n. get_or pairs n first) (sym one) in
    ap (λ (ps : List NameValue). with_all ps []) (new-is ∙ ap (λ n. swap pairs (at - 1) n) (sym one))
    ∙ by-swap pairs (at - 1) first (omega (arith, some, lt))
    (subst (λ (q : NameValue). byte_order (get_or pairs (at - 1) first).name q.name ≡ Greater) (second-is ∙ here)
    (subst (λ (p : NameValue). byte_order p.name second.name ≡ Greater) first-is over))

map-swap : {A B : Type 0} (f : A → B) (xs : List A) (i j : ℕ) → i < length xs → j < length xs → map f (swap xs i j) ≡ swap (map f xs) i j
map-swap f [] i j low high = refl
map-swap {A} {B} f (x ∷ xs) i j low high =
    let all = x ∷ xs in
    map-set f (slice_set all i (get_or all j x)) j (get_or all i x)
    ∙ ap (λ (l : List B). slice_set l j (f (get_or all i x))) (map-set f all i (get_or all j x))
    ∙ ap (λ (y : B). slice_set (slice_set (map f all) i y) j (f (get_or all i x))) (sym (get_or-map f all j x (f x) high))
    ∙ ap (λ (y : B). slice_set (slice_set (map f all) i (get_or (map f all) j (f x))) j y) (sym (get_or-map f all i x (f x) low))

pub all-swap : {X : Type 0} (P : X → Type 0) (xs : List X) (i j : ℕ) → i < length xs → j < length xs → All P xs → All P (swap xs i j)
all-swap P [] i j low high all = all
all-swap P (x ∷ xs) i j low high all =
    All-set P (slice_set (x ∷ xs) i (get_or (x ∷ xs) j x)) j (get_or (x ∷ xs) i x) (all i x low)
    (All-set P (x ∷ xs) i (get_or (x ∷ xs) j x) (all j x high) all)

-- the same for pairs by their places
module _ (item : List ℕ) (own : List (List ℕ)) (pairs new : List Pair) (at : ℕ) (first second : Pair) (some : 1 ≤ at) (lt : at < length pairs) (first-is : first ≡ get_or pairs (at - 1) first) (second-is : second ≡ get_or pairs at second) (new-is : new ≡ swap pairs (at - 1) at) where
  before : at - 1 < length pairs
  before = omega (arith, some, lt)

  pub sunk-parts : byte_order (name_in own first.name) (name_in own second.name) ≡ Greater → with_all (pairs_in item own new) [] ≡ with_all (pairs_in item own pairs) []
  sunk-parts over =
      sunk (pairs_in item own pairs) (pairs_in item own new) at (pair_in item own first) (pair_in item own second) some
      (omega (arith, lt, length-map pairs (pair_in item own)))
      (text-is item own [] pairs (at - 1) first before first-is) (text-is item own [] pairs at second lt second-is) over
      (ap (pairs_in item own) new-is ∙ map-swap (pair_in item own) pairs (at - 1) at before lt)

  pub sunk-within : AreIn own pairs → AreIn own new
  sunk-within all = subst (AreIn own) (sym new-is) (all-swap (IsPairIn own) pairs (at - 1) at before lt all)
