-- Walks over the pairs of a message, one pair on.
use Rattle.std.proofs.Common.{List, Some, drop, slice_get, ℕ, ◌≡◌, ◌+◌, ◌∷◌, suc, zero, []}
use Rattle.sg_msg.specs.Message.{NameValue, HaveNames, IsPairName}
use Rattle.sg_list.proofs.ListLemmas.{drop-get}

pub pair-next : (pairs : List NameValue) (k : ℕ) (name value : List ℕ) → Some (record { name = name; value = value }) ≡ slice_get pairs k
    → drop k pairs ≡ (record { name = name; value = value }) ∷ drop (k + 1) pairs
pair-next pairs k name value e =
    let pair : NameValue = record { name = name; value = value } in
    drop-get pairs k pair (let found : slice_get pairs k ≡ Some pair = cc in found)

-- a pair of a message has a name
pub name-at : (pairs : List NameValue) (k : ℕ) (pair : NameValue) → HaveNames pairs → slice_get pairs k ≡ Some pair → IsPairName pair.name
name-at [] k pair all e = absurd (cc)
name-at (first ∷ pairs) zero pair all e = let same : first ≡ pair = cc in rw (← same) all.0
name-at (first ∷ pairs) (suc k) pair all e = name-at pairs k pair all.1 e

pub name-of : (pairs : List NameValue) (k : ℕ) (name value : List ℕ) → HaveNames pairs → Some (record { name = name; value = value }) ≡ slice_get pairs k → IsPairName name
name-of pairs k name value all e =
    let pair : NameValue = record { name = name; value = value } in
    name-at pairs k pair all (let found : slice_get pairs k ≡ Some pair = cc in found)
