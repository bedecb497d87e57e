-- Pairs in ascending order, and one more behind them.
use Rattle.std.proofs.Common.{◌≡◌, ℕ, ◌≤◌, List, [], ◌∷◌, ◌++◌, length, refl, ap, arith}
use Rattle.std.specs.declared.cmp.Ordering.TheVariants.{Less}
use Rattle.sg_msg.specs.Message.{NameValue, byte_order, IsNameBelow, IsAscending, HaveNames}
use Rattle.sg_codec.specs.Reading.{last_name}
use Rattle.sg_msg.proofs.KeptPairs.{below-trans}
use Rattle.sg_msg.proofs.ByteOrder.{less-trans}

-- what is below all pairs is below the last
below-last : (x : List ℕ) (pair : NameValue) (pairs : List NameValue) → IsNameBelow x (pair ∷ pairs) → byte_order x (last_name (pair ∷ pairs)) ≡ Less
below-last x pair [] below = below.0
below-last x pair (next ∷ pairs) below = below-last x next pairs below.1

-- so it is below what is above the last
first-below : (pair : NameValue) (pairs : List NameValue) (name : List ℕ) → IsAscending (pair ∷ pairs) → byte_order (last_name (pair ∷ pairs)) name ≡ Less → byte_order pair.name name ≡ Less
first-below pair [] name up e = e
first-below pair (next ∷ pairs) name up e = less-trans pair.name (last_name (next ∷ pairs)) name (below-last pair.name next pairs up.0) e

pub last_name-append : (pairs : List NameValue) (pair : NameValue) → last_name (pairs ++ pair ∷ []) ≡ pair.name
last_name-append [] pair = refl
last_name-append (first ∷ []) pair = refl
last_name-append (first ∷ next ∷ pairs) pair = last_name-append (next ∷ pairs) pair

below-append : (x : List ℕ) (pairs : List NameValue) (pair : NameValue) → IsNameBelow x pairs → byte_order x pair.name ≡ Less → IsNameBelow x (pairs ++ pair ∷ [])
below-append x [] pair below e = (e, tt)
below-append x (first ∷ pairs) pair below e = (below.0, below-append x pairs pair below.1 e)

pub ascending-append : (pairs : List NameValue) (pair : NameValue) → IsAscending pairs → byte_order (last_name pairs) pair.name ≡ Less → IsAscending (pairs ++ pair ∷ [])
ascending-append [] pair up e = (tt, tt)
ascending-append (first ∷ []) pair up e = ((e, tt), (tt, tt))
ascending-append (first ∷ next ∷ pairs) pair up e =
    (below-append first.name (next ∷ pairs) pair up.0 (first-below first (next ∷ pairs) pair.name up e), ascending-append (next ∷ pairs) pair up.1 e)

-- each name is above the one before it, and the first above this one
abbrev pub IsChain : List ℕ → List NameValue → Type 0
IsChain last [] = Unit {0}
IsChain last (pair ∷ pairs) = (byte_order last pair.name ≡ Less) × IsChain pair.name pairs

chain-below : (last : List ℕ) (pairs : List NameValue) → IsChain last pairs → IsNameBelow last pairs
chain-below last [] chain = tt
chain-below last (pair ∷ pairs) chain = (chain.0, below-trans last pair.name pairs chain.0 (chain-below pair.name pairs chain.1))

pub chain-ascends : (last : List ℕ) (pairs : List NameValue) → IsChain last pairs → IsAscending pairs
chain-ascends last [] chain = tt
chain-ascends last (pair ∷ pairs) chain = (chain-below pair.name pairs chain.1, chain-ascends pair.name pairs chain.1)

ascends-chain : (pair : NameValue) (pairs : List NameValue) → IsAscending (pair ∷ pairs) → IsChain pair.name pairs
ascends-chain pair [] up = tt
ascends-chain pair (next ∷ pairs) up = (up.0.0, ascends-chain next pairs up.1)

empty-below : (name : List ℕ) → 1 ≤ length name → byte_order [] name ≡ Less
empty-below [] h = absurd (omega arith)
empty-below (b ∷ bytes) h = refl

-- names are above the empty text
pub chain-all : (pairs : List NameValue) → IsAscending pairs → HaveNames pairs → IsChain [] pairs
chain-all [] up names = tt
chain-all (pair ∷ pairs) up names = (empty-below pair.name names.0.0, ascends-chain pair pairs up)
