-- What a change of the pairs does to the values of names.
use Rattle.std.proofs.Common.{◌≡◌, ◌≢◌, ℕ, false, if◌then◌else◌, List, [], ◌∷◌, Option, Some, None, bytes_eq, refl, sym, ap, subst, ◌∙◌}
use Rattle.std.specs.declared.cmp.Ordering.{Ordering}
use Rattle.std.specs.declared.cmp.Ordering.TheVariants.{Less, Equal, Greater}
use Rattle.sg_msg.specs.Message.{NameValue, byte_order, value_of, with_pair, without_pair, IsNameBelow, IsAscending}
use Rattle.sg_msg.proofs.ByteOrder.{same-from_equal, test-same, test-less, test-greater, test-back}

pub test-other : (x y : List ℕ) → x ≢ y → bytes_eq x y ≡ false
test-other x y differs = by (byte_order x y) refl
  where
    by : (o : Ordering) → byte_order x y ≡ o → bytes_eq x y ≡ false
    by Less is = test-less x y is
    by Equal is = absurd (differs (same-from_equal x y is))
    by Greater is = test-greater x y is

module _ (name value : List ℕ) where
  pub value-with : (pairs : List NameValue) → value_of name (with_pair name value pairs) ≡ Some value
  value-with [] = rw (test-same name name refl) refl
  value-with (pair ∷ pairs) = by (value-with pairs) (byte_order pair.name name) refl
    where
      by : value_of name (with_pair name value pairs) ≡ Some value → (o : Ordering) → byte_order pair.name name ≡ o → value_of name (with_pair name value (pair ∷ pairs)) ≡ Some value
      by rest Less is = rw (is, test-less pair.name name is) rest
      by rest Equal is = rw (is, test-same name name refl) refl
      by rest Greater is = rw (is, test-same name name refl) refl

  pub value-with-other : (other : List ℕ) → other ≢ name → (pairs : List NameValue) → value_of other (with_pair name value pairs) ≡ value_of other pairs
  value-with-other other differs [] = rw (test-other name other (λ e. differs (sym e))) refl
  value-with-other other differs (pair ∷ pairs) = by (value-with-other other differs pairs) (byte_order pair.name name) refl
    where
      not_named : bytes_eq name other ≡ false
      not_named = test-other name other (λ e. differs (sym e))

      by : value_of other (with_pair name value pairs) ≡ value_of other pairs → (o : Ordering) → byte_order pair.name name ≡ o → value_of other (with_pair name value (pair ∷ pairs)) ≡ value_of other (pair ∷ pairs)
      by rest Less is = rw is (ap (λ (o : Option (List ℕ)). if bytes_eq pair.name other then Some pair.value else o) rest)
      by rest Equal is = rw (is, not_named, subst (λ (n : List ℕ). bytes_eq n other ≡ false) (sym (same-from_equal pair.name name is)) not_named) refl
      by rest Greater is = rw (is, not_named) refl

module _ (name : List ℕ) where
  pub value-below : (pairs : List NameValue) → IsNameBelow name pairs → value_of name pairs ≡ None
  value-below [] below = refl
  value-below (pair ∷ pairs) below = rw (test-back pair.name name ∙ test-less name pair.name below.0) (value-below pairs below.1)

  pub value-without : (pairs : List NameValue) → IsAscending pairs → value_of name (without_pair name pairs) ≡ None
  value-without [] up = refl
  value-without (pair ∷ pairs) up = by (value-without pairs up.1) (byte_order pair.name name) refl
    where
      by : value_of name (without_pair name pairs) ≡ None → (o : Ordering) → byte_order pair.name name ≡ o → value_of name (without_pair name (pair ∷ pairs)) ≡ None
      by rest Less is = rw (test-less pair.name name is, test-less pair.name name is) rest
      by rest Equal is = rw (test-same pair.name name (same-from_equal pair.name name is)) (value-below pairs (subst (λ (n : List ℕ). IsNameBelow n pairs) (same-from_equal pair.name name is) up.0))
      by rest Greater is = rw (test-greater pair.name name is, test-greater pair.name name is) rest

  pub value-without-other : (other : List ℕ) → other ≢ name → (pairs : List NameValue) → value_of other (without_pair name pairs) ≡ value_of other pairs
  value-without-other other differs [] = refl
  value-without-other other differs (pair ∷ pairs) = by (value-without-other other differs pairs) (byte_order pair.name name) refl
    where
      by : value_of other (without_pair name pairs) ≡ value_of other pairs → (o : Ordering) → byte_order pair.name name ≡ o → value_of other (without_pair name (pair ∷ pairs)) ≡ value_of other (pair ∷ pairs)
      by rest Less is = rw (test-less pair.name name is) (ap (λ (o : Option (List ℕ)). if bytes_eq pair.name other then Some pair.value else o) rest)
      by rest Equal is = rw (test-same pair.name name (same-from_equal pair.name name is), test-other pair.name other (λ e. differs (sym e ∙ same-from_equal pair.name name is))) refl
      by rest Greater is = rw (test-greater pair.name name is) (ap (λ (o : Option (List ℕ)). if bytes_eq pair.name other then Some pair.value else o) rest)
