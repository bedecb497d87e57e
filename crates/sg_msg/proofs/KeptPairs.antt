-- A change keeps pairs in order, with names that they may have.
use Rattle.std.proofs.Common.{◌≡◌, ℕ, Bool, true, false, List, [], ◌∷◌, bytes_eq, refl, subst}
use Rattle.std.specs.declared.cmp.Ordering.{Ordering}
use Rattle.std.specs.declared.cmp.Ordering.TheVariants.{Less, Equal, Greater}
use Rattle.sg_msg.specs.Message.{NameValue, Content, byte_order, with_pair, without_pair, IsNameBelow, IsAscending, IsPairName, HaveNames, IsMessage}
use Rattle.sg_msg.proofs.ByteOrder.{same-from_equal, less-back, less-trans}

-- what is below the least name is below all
pub below-trans : (x y : List ℕ) (pairs : List NameValue) → byte_order x y ≡ Less → IsNameBelow y pairs → IsNameBelow x pairs
below-trans x y [] e below = tt
below-trans x y (pair ∷ pairs) e below = (less-trans x y pair.name e below.0, below-trans x y pairs e below.1)

module _ (name value : List ℕ) where
  below-with : (x : List ℕ) (pairs : List NameValue) → byte_order x name ≡ Less → IsNameBelow x pairs → IsNameBelow x (with_pair name value pairs)
  below-with x [] e below = (e, tt)
  below-with x (pair ∷ pairs) e below = by (below-with x pairs e below.1) (byte_order pair.name name) refl
    where
      by : IsNameBelow x (with_pair name value pairs) → (o : Ordering) → byte_order pair.name name ≡ o → IsNameBelow x (with_pair name value (pair ∷ pairs))
      by rest Less is = rw is (below.0, rest)
      by rest Equal is = rw is (e, below.1)
      by rest Greater is = rw is (e, below)

  pub ascending-with : (pairs : List NameValue) → IsAscending pairs → IsAscending (with_pair name value pairs)
  ascending-with [] up = (tt, tt)
  ascending-with (pair ∷ pairs) up = by (ascending-with pairs up.1) (byte_order pair.name name) refl
    where
      by : IsAscending (with_pair name value pairs) → (o : Ordering) → byte_order pair.name name ≡ o → IsAscending (with_pair name value (pair ∷ pairs))
      by rest Less is = rw is (below-with pair.name pairs is up.0, rest)
      by rest Equal is = rw is (subst (λ (n : List ℕ). IsNameBelow n pairs) (same-from_equal pair.name name is) up.0, up.1)
      by rest Greater is = rw is ((less-back pair.name name is, below-trans name pair.name pairs (less-back pair.name name is) up.0), up)

  pub names-with : (pairs : List NameValue) → IsPairName name → HaveNames pairs → HaveNames (with_pair name value pairs)
  names-with [] named all = (named, tt)
  names-with (pair ∷ pairs) named all = by (names-with pairs named all.1) (byte_order pair.name name) refl
    where
      by : HaveNames (with_pair name value pairs) → (o : Ordering) → byte_order pair.name name ≡ o → HaveNames (with_pair name value (pair ∷ pairs))
      by rest Less is = rw is (all.0, rest)
      by rest Equal is = rw is (named, all.1)
      by rest Greater is = rw is (named, all)

  pub message-with : (content : Content) → IsPairName name → IsMessage content → IsMessage (record content { pairs = with_pair name value content.pairs })
  message-with content named is = record { pri = is.pri; sent = is.sent; received = is.received; ascending = ascending-with content.pairs is.ascending; names = names-with content.pairs named is.names; tags = is.tags }

module _ (name : List ℕ) where
  below-without : (x : List ℕ) (pairs : List NameValue) → IsNameBelow x pairs → IsNameBelow x (without_pair name pairs)
  below-without x [] below = tt
  below-without x (pair ∷ pairs) below = by (below-without x pairs below.1) (bytes_eq pair.name name) refl
    where
      by : IsNameBelow x (without_pair name pairs) → (b : Bool) → bytes_eq pair.name name ≡ b → IsNameBelow x (without_pair name (pair ∷ pairs))
      by rest true is = rw is below.1
      by rest false is = rw is (below.0, rest)

  ascending-without : (pairs : List NameValue) → IsAscending pairs → IsAscending (without_pair name pairs)
  ascending-without [] up = tt
  ascending-without (pair ∷ pairs) up = by (ascending-without pairs up.1) (bytes_eq pair.name name) refl
    where
      by : IsAscending (without_pair name pairs) → (b : Bool) → bytes_eq pair.name name ≡ b → IsAscending (without_pair name (pair ∷ pairs))
      by rest true is = rw is up.1
      by rest false is = rw is (below-without pair.name pairs up.0, rest)

  names-without : (pairs : List NameValue) → HaveNames pairs → HaveNames (without_pair name pairs)
  names-without [] all = tt
  names-without (pair ∷ pairs) all = by (names-without pairs all.1) (bytes_eq pair.name name) refl
    where
      by : HaveNames (without_pair name pairs) → (b : Bool) → bytes_eq pair.name name ≡ b → HaveNames (without_pair name (pair ∷ pairs))
      by rest true is = rw is all.1
      by rest false is = rw is (all.0, rest)

  pub message-without : (content : Content) → IsMessage content → IsMessage (record content { pairs = without_pair name content.pairs })
  message-without content is = record { pri = is.pri; sent = is.sent; received = is.received; ascending = ascending-without content.pairs is.ascending; names = names-without content.pairs is.names; tags = is.tags }
