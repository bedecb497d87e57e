-- The values and the structured data of pairs that are put one after another.
use Rattle.std.proofs.Common.{◌≡◌, ◌≢◌, ℕ, Bool, true, false, cond, List, [], ◌∷◌, ◌++◌, take, codes, Option, Some, bytes_eq, refl, sym, ap, subst, ◌∙◌}
use Rattle.std.specs.declared.cmp.Ordering.{Ordering}
use Rattle.std.specs.declared.cmp.Ordering.TheVariants.{Less, Equal, Greater}
use Rattle.sg_msg.specs.Message.{NameValue, byte_order, value_of, with_pair, with_all, IsNameBelow, IsAscending}
use Rattle.sg_msg.proofs.ByteOrder.{same-from_equal, less-back, test-same, test-less, test-greater}
use Rattle.sg_msg.proofs.KeptPairs.{below-trans, ascending-with}
use Rattle.sg_msg.proofs.ValueLaws.{value-with, value-with-other}
use Rattle.std.specs.Cmp.Lexicographic.{nat_list_cmp_total}
use Rattle.std.specs.Ordering.{ordering_reverse}
use Rattle.std.proofs.lemmas.Bool.{true≢false}
use Rattle.sg_r5424.specs.Again.{is_data, data_pairs}

-- the last value of that name, or the one found before
abbrev pub last_value : List ℕ → List NameValue → Option (List ℕ) → Option (List ℕ)
last_value name [] found = found
last_value name (pair ∷ pairs) found = last_value name pairs (cond (bytes_eq pair.name name) (Some pair.value) found)

value_one : (name : List ℕ) (pair : NameValue) (pairs : List NameValue) → value_of name (with_pair pair.name pair.value pairs) ≡ cond (bytes_eq pair.name name) (Some pair.value) (value_of name pairs)
value_one name pair pairs = by (byte_order pair.name name) refl
  where
    other : bytes_eq pair.name name ≡ false → value_of name (with_pair pair.name pair.value pairs) ≡ cond (bytes_eq pair.name name) (Some pair.value) (value_of name pairs)
    other out =
        let differs : name ≢ pair.name = λ e. (let wrong = test-same pair.name name (sym e) in absurd (cc)) in
        value-with-other pair.name pair.value name differs pairs ∙ ap (λ (t : Bool). cond t (Some pair.value) (value_of name pairs)) (sym out)

    by : (o : Ordering) → byte_order pair.name name ≡ o → value_of name (with_pair pair.name pair.value pairs) ≡ cond (bytes_eq pair.name name) (Some pair.value) (value_of name pairs)
    by Less is = other (test-less pair.name name is)
    by Greater is = other (test-greater pair.name name is)
    by Equal is =
        let same = same-from_equal pair.name name is in
        subst (λ (n : List ℕ). value_of n (with_pair pair.name pair.value pairs) ≡ Some pair.value) same (value-with pair.name pair.value pairs)
        ∙ ap (λ (t : Bool). cond t (Some pair.value) (value_of name pairs)) (sym (test-same pair.name name same))

pub value_last : (name : List ℕ) (put pairs : List NameValue) → value_of name (with_all put pairs) ≡ last_value name put (value_of name pairs)
value_last name [] pairs = refl
value_last name (pair ∷ put) pairs = value_last name put (with_pair pair.name pair.value pairs) ∙ ap (last_value name put) (value_one name pair pairs)

pub last_append : (name : List ℕ) (first second : List NameValue) (found : Option (List ℕ)) → last_value name (first ++ second) found ≡ last_value name second (last_value name first found)
last_append name [] second found = refl
last_append name (pair ∷ first) second found = last_append name first second (cond (bytes_eq pair.name name) (Some pair.value) found)

-- all of these pairs are structured data
abbrev pub AreData : List NameValue → Type 0
AreData [] = Unit {0}
AreData (pair ∷ pairs) = (is_data pair ≡ true) × AreData pairs

-- they have no other name
pub not_named : (pair : NameValue) (name : List ℕ) → is_data pair ≡ true → bytes_eq (take 7 name) (codes ".SDATA.") ≡ false → bytes_eq pair.name name ≡ false
not_named pair name is other = by (byte_order pair.name name) refl
  where
    by : (o : Ordering) → byte_order pair.name name ≡ o → bytes_eq pair.name name ≡ false
    by Less e = test-less pair.name name e
    by Greater e = test-greater pair.name name e
    by Equal e =
        let wrong = subst (λ (n : List ℕ). bytes_eq (take 7 n) (codes ".SDATA.") ≡ true) (same-from_equal pair.name name e) is in
        absurd (cc)

pub last_data : (name : List ℕ) (put : List NameValue) (found : Option (List ℕ)) → bytes_eq (take 7 name) (codes ".SDATA.") ≡ false → AreData put → last_value name put found ≡ found
last_data name [] found other are = refl
last_data name (pair ∷ put) found other are =
    ap (λ (t : Bool). last_value name put (cond t (Some pair.value) found)) (not_named pair name are.0 other) ∙ last_data name put found other are.1

-- structured data among other pairs
data_below : (x : List ℕ) (pairs : List NameValue) → IsNameBelow x pairs → IsNameBelow x (data_pairs pairs)
data_below x [] below = tt
data_below x (pair ∷ pairs) below = by (data_below x pairs below.1) (is_data pair)
  where
    by : IsNameBelow x (data_pairs pairs) → (b : Bool) → IsNameBelow x (cond b (pair ∷ data_pairs pairs) (data_pairs pairs))
    by rest true = (below.0, rest)
    by rest false = rest

pub data_ascending : (pairs : List NameValue) → IsAscending pairs → IsAscending (data_pairs pairs)
data_ascending [] up = tt
data_ascending (pair ∷ pairs) up = by (data_ascending pairs up.1) (is_data pair)
  where
    by : IsAscending (data_pairs pairs) → (b : Bool) → IsAscending (cond b (pair ∷ data_pairs pairs) (data_pairs pairs))
    by rest true = (data_below pair.name pairs up.0, rest)
    by rest false = rest

greater-back : (x y : List ℕ) → byte_order x y ≡ Less → byte_order y x ≡ Greater
greater-back x y e = nat_list_cmp_total.antisymm y x ∙ ap ordering_reverse e

-- a pair below all is set in front
with_front : (pair : NameValue) (pairs : List NameValue) → IsNameBelow pair.name pairs → with_pair pair.name pair.value pairs ≡ pair ∷ pairs
with_front pair [] below = refl
with_front pair (first ∷ pairs) below = rw (greater-back pair.name first.name below.0) refl

module _ (pair : NameValue) where
  -- by whether the first pair, and the one that is set, are structured data
  behind_first : (first : NameValue) (rest new : List NameValue) → byte_order first.name pair.name ≡ Less → (f p : Bool) → new ≡ cond p (with_pair pair.name pair.value rest) rest
      → cond f (first ∷ new) new ≡ cond p (with_pair pair.name pair.value (cond f (first ∷ rest) rest)) (cond f (first ∷ rest) rest)
  behind_first first rest new less true true e = ap (λ (l : List NameValue). first ∷ l) e ∙ rw less refl
  behind_first first rest new less true false e = ap (λ (l : List NameValue). first ∷ l) e
  behind_first first rest new less false true e = e
  behind_first first rest new less false false e = e

  in_place : (first : NameValue) (rest : List NameValue) → byte_order first.name pair.name ≡ Equal → (f p : Bool) → f ≡ p
      → cond p (pair ∷ rest) rest ≡ cond p (with_pair pair.name pair.value (cond f (first ∷ rest) rest)) (cond f (first ∷ rest) rest)
  in_place first rest equal true true e = rw equal refl
  in_place first rest equal false false e = refl
  in_place first rest equal true false e = absurd (true≢false e)
  in_place first rest equal false true e = absurd (true≢false (sym e))

  in_front : (rest : List NameValue) → IsNameBelow pair.name rest → (p : Bool) → cond p (pair ∷ rest) rest ≡ cond p (with_pair pair.name pair.value rest) rest
  in_front rest below true = sym (with_front pair rest below)
  in_front rest below false = refl

  data_with : (pairs : List NameValue) → IsAscending pairs → data_pairs (with_pair pair.name pair.value pairs) ≡ cond (is_data pair) (with_pair pair.name pair.value (data_pairs pairs)) (data_pairs pairs)
  data_with [] up = refl
  data_with (first ∷ pairs) up = by (data_with pairs up.1) (byte_order first.name pair.name) refl
    where
      by : data_pairs (with_pair pair.name pair.value pairs) ≡ cond (is_data pair) (with_pair pair.name pair.value (data_pairs pairs)) (data_pairs pairs) → (o : Ordering) → byte_order first.name pair.name ≡ o
          → data_pairs (with_pair pair.name pair.value (first ∷ pairs)) ≡ cond (is_data pair) (with_pair pair.name pair.value (data_pairs (first ∷ pairs))) (data_pairs (first ∷ pairs))
      by rest Less e =
          let there : with_pair pair.name pair.value (first ∷ pairs) ≡ first ∷ with_pair pair.name pair.value pairs = rw e refl in
          ap data_pairs there ∙ behind_first first (data_pairs pairs) (data_pairs (with_pair pair.name pair.value pairs)) e (is_data first) (is_data pair) rest
      by rest Equal e =
          let there : with_pair pair.name pair.value (first ∷ pairs) ≡ pair ∷ pairs = rw e refl in
          let same : is_data first ≡ is_data pair = ap (λ (n : List ℕ). bytes_eq (take 7 n) (codes ".SDATA.")) (same-from_equal first.name pair.name e) in
          ap data_pairs there ∙ in_place first (data_pairs pairs) e (is_data first) (is_data pair) same
      by rest Greater e =
          let there : with_pair pair.name pair.value (first ∷ pairs) ≡ pair ∷ first ∷ pairs = rw e refl in
          let less = less-back first.name pair.name e in
          let below = data_below pair.name (first ∷ pairs) (less, below-trans pair.name first.name pairs less up.0) in
          ap data_pairs there ∙ in_front (data_pairs (first ∷ pairs)) below (is_data pair)

one_of : (pair : NameValue) (put pairs : List NameValue) (b : Bool) → with_all put (cond b (with_pair pair.name pair.value pairs) pairs) ≡ with_all (cond b (pair ∷ put) put) pairs
one_of pair put pairs true = refl
one_of pair put pairs false = refl

pub data_all : (put pairs : List NameValue) → IsAscending pairs → data_pairs (with_all put pairs) ≡ with_all (data_pairs put) (data_pairs pairs)
data_all [] pairs up = refl
data_all (pair ∷ put) pairs up =
    data_all put (with_pair pair.name pair.value pairs) (ascending-with pair.name pair.value pairs up)
    ∙ (ap (with_all (data_pairs put)) (data_with pair pairs up) ∙ one_of pair (data_pairs put) (data_pairs pairs) (is_data pair))

pub data_append : (first second : List NameValue) → data_pairs (first ++ second) ≡ data_pairs first ++ data_pairs second
data_append [] second = refl
data_append (pair ∷ first) second = by (data_append first second) (is_data pair)
  where
    by : data_pairs (first ++ second) ≡ data_pairs first ++ data_pairs second → (b : Bool) → cond b (pair ∷ data_pairs (first ++ second)) (data_pairs (first ++ second)) ≡ cond b (pair ∷ data_pairs first) (data_pairs first) ++ data_pairs second
    by rest true = ap (λ (l : List NameValue). pair ∷ l) rest
    by rest false = rest

pub data_itself : (pairs : List NameValue) → AreData pairs → data_pairs pairs ≡ pairs
data_itself [] are = refl
data_itself (pair ∷ pairs) are = ap (λ (b : Bool). cond b (pair ∷ data_pairs pairs) (data_pairs pairs)) are.0 ∙ ap (λ (l : List NameValue). pair ∷ l) (data_itself pairs are.1)
