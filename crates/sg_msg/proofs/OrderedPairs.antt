-- Pairs that stand in order stay as they are where each is set behind the others.
use Rattle.std.proofs.Common.{◌≡◌, ◌≤◌, ◌-◌, ℕ, true, List, [], ◌∷◌, ◌++◌, length, take, drop, get_or, refl, sym, ap, ◌∙◌, append_assoc, arith}
use Rattle.std.proofs.lemmas.List.{take_all}
use Rattle.std.specs.Prelude.{◌==◌}
use Rattle.std.specs.Ordering.{ordering_index}
use Rattle.std.specs.declared.cmp.Ordering.{Ordering}
use Rattle.std.specs.declared.cmp.Ordering.TheVariants.{Less, Equal, Greater}
use Rattle.sg_msg.specs.Message.{NameValue, byte_order, with_pair, with_all, IsNameBelow, IsAscending}
use Rattle.sg_msg.proofs.KeptPairs.{below-trans}

-- each of the pairs is below the name
abbrev AreBelow : List NameValue → List ℕ → Type 0
AreBelow [] name = Unit {0}
AreBelow (pair ∷ pairs) name = (byte_order pair.name name ≡ Less) × AreBelow pairs name

-- each of the pairs is below each of the others
abbrev AreAllBelow : List NameValue → List NameValue → Type 0
AreAllBelow pairs [] = Unit {0}
AreAllBelow pairs (other ∷ others) = AreBelow pairs other.name × AreAllBelow pairs others

with-last : (name value : List ℕ) (pairs : List NameValue) → AreBelow pairs name → with_pair name value pairs ≡ pairs ++ (record { name = name; value = value }) ∷ []
with-last name value [] below = refl
with-last name value (pair ∷ pairs) below = rw below.0 (ap (λ (rest : List NameValue). pair ∷ rest) (with-last name value pairs below.1))

below-end : (pairs : List NameValue) (pair : NameValue) (name : List ℕ) → AreBelow pairs name → byte_order pair.name name ≡ Less → AreBelow (pairs ++ pair ∷ []) name
below-end [] pair name below less = (less, tt)
below-end (first ∷ pairs) pair name below less = (below.0, below-end pairs pair name below.1 less)

all-end : (pairs : List NameValue) (pair : NameValue) (others : List NameValue) → AreAllBelow pairs others → IsNameBelow pair.name others → AreAllBelow (pairs ++ pair ∷ []) others
all-end pairs pair [] all below = tt
all-end pairs pair (other ∷ others) all below = (below-end pairs pair other.name all.0 below.0, all-end pairs pair others all.1 below.1)

with-each : (others pairs : List NameValue) → IsAscending others → AreAllBelow pairs others → with_all others pairs ≡ pairs ++ others
with-each [] pairs up all = nil-behind pairs
  where
    nil-behind : (pairs : List NameValue) → pairs ≡ pairs ++ []
    nil-behind [] = refl
    nil-behind (pair ∷ pairs) = ap (λ (rest : List NameValue). pair ∷ rest) (nil-behind pairs)
with-each (other ∷ others) pairs up all =
    ap (with_all others) (with-last other.name other.value pairs all.0)
    ∙ with-each others (pairs ++ other ∷ []) up.1 (all-end pairs other others all.1 up.0)
    ∙ append_assoc pairs (other ∷ []) others

none-below : (others : List NameValue) → AreAllBelow [] others
none-below [] = tt
none-below (other ∷ others) = (tt, none-below others)

-- so they are what setting them one after another gives
pub with-ascending : (pairs : List NameValue) → IsAscending pairs → with_all pairs [] ≡ pairs
with-ascending pairs up = with-each pairs [] up (none-below pairs)

-- the first of two is below all behind it, where they ascend
pub ascends-more : (first second : NameValue) (pairs : List NameValue) → byte_order first.name second.name ≡ Less → IsAscending (second ∷ pairs) → IsAscending (first ∷ second ∷ pairs)
ascends-more first second pairs less up = ((less, below-trans first.name second.name pairs less up.0), up)

pub is-less : (o : Ordering) → (ordering_index o == 0) ≡ true → o ≡ Less
is-less Less e = refl
is-less Equal e = absurd (cc)
is-less Greater e = absurd (cc)

front-behind : {A : Type 0} (pair first : A) (pairs : List A) (n : ℕ) → n ≡ length pairs → first ≡ pair → pair ∷ pairs ≡ first ∷ take n pairs
front-behind {A} pair first pairs n same is =
    ap (λ (p : A). p ∷ pairs) (sym is)
    ∙ ap (λ (ps : List A). first ∷ ps) (sym (take_all n pairs (omega (arith, same))))

-- the first of a list and those behind it
pub front-in : {A : Type 0} (pairs : List A) (d : A) → 1 ≤ length pairs → pairs ≡ get_or pairs 0 d ∷ take (length pairs - 1) (drop 1 pairs)
front-in [] d some = absurd (omega (arith, some))
front-in (pair ∷ pairs) d some = front-behind pair pair pairs (length (pair ∷ pairs) - 1) (omega arith) refl
