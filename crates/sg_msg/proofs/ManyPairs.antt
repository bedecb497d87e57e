-- What setting many pairs one after another gives.
use Rattle.std.proofs.Common.{◌≡◌, ◌≢◌, ℕ, Bool, true, false, ◌⊎◌, inl, inr, List, [], ◌∷◌, ◌++◌, Some, refl, sym, ap, subst, ◌∙◌}
use Rattle.std.specs.List.{filter}
use Rattle.std.specs.List.Sorted.{ties}
use Rattle.std.specs.declared.cmp.Ordering.{Ordering}
use Rattle.std.specs.declared.cmp.Ordering.TheVariants.{Less, Equal, Greater}
use Rattle.sg_msg.specs.Message.{NameValue, byte_order, value_of, with_pair, with_all, IsNameBelow, IsAscending, IsPairName, HaveNames}
use Rattle.sg_msg.specs.Sorting.{is_before, KeepsEachName}
use Rattle.sg_msg.proofs.ByteOrder.{same-from_equal, equal-from_same, less-back, test-same, test-less}
use Rattle.sg_msg.proofs.KeptPairs.{below-trans, ascending-with, names-with}
use Rattle.sg_msg.proofs.ValueLaws.{value-with, value-with-other, value-below, test-other}

pub ascending-all : (others pairs : List NameValue) → IsAscending pairs → IsAscending (with_all others pairs)
ascending-all [] pairs up = up
ascending-all (pair ∷ others) pairs up = ascending-all others (with_pair pair.name pair.value pairs) (ascending-with pair.name pair.value pairs up)

pub names-all : (others pairs : List NameValue) → HaveNames others → HaveNames pairs → HaveNames (with_all others pairs)
names-all [] pairs named all = all
names-all (pair ∷ others) pairs named all = names-all others (with_pair pair.name pair.value pairs) named.1 (names-with pair.name pair.value pairs named.0 all)

pub names-end : (pairs : List NameValue) (pair : NameValue) → HaveNames pairs → IsPairName pair.name → HaveNames (pairs ++ pair ∷ [])
names-end [] pair all named = (named, tt)
names-end (first ∷ pairs) pair all named = (all.0, names-end pairs pair all.1 named)

-- a smaller name isn't the same, and of two names each is the other or not
differs-less : (x y : List ℕ) → byte_order x y ≡ Less → x ≢ y
differs-less x y less e = let same = test-same x y e in let apart = test-less x y less in absurd (cc)

pub same_or_not : (x y : List ℕ) → (x ≡ y) ⊎ (x ≢ y)
same_or_not x y = by (byte_order x y) refl
  where
    by : (o : Ordering) → byte_order x y ≡ o → (x ≡ y) ⊎ (x ≢ y)
    by Less is = inr (differs-less x y is)
    by Equal is = inl (same-from_equal x y is)
    by Greater is = inr (λ e. differs-less y x (less-back x y is) (sym e))

-- the value of a name after a pair is set depends on what it was before
pub value-one : (name : List ℕ) (pair : NameValue) (a b : List NameValue) → value_of name a ≡ value_of name b → value_of name (with_pair pair.name pair.value a) ≡ value_of name (with_pair pair.name pair.value b)
value-one name pair a b e = by (same_or_not name pair.name)
  where
    by : (name ≡ pair.name) ⊎ (name ≢ pair.name) → value_of name (with_pair pair.name pair.value a) ≡ value_of name (with_pair pair.name pair.value b)
    by (inl same) = subst (λ (n : List ℕ). value_of n (with_pair pair.name pair.value a) ≡ value_of n (with_pair pair.name pair.value b)) (sym same) (value-with pair.name pair.value a ∙ sym (value-with pair.name pair.value b))
    by (inr differs) = value-with-other pair.name pair.value name differs a ∙ e ∙ sym (value-with-other pair.name pair.value name differs b)

value-all : (name : List ℕ) (others a b : List NameValue) → value_of name a ≡ value_of name b → value_of name (with_all others a) ≡ value_of name (with_all others b)
value-all name [] a b e = e
value-all name (pair ∷ others) a b e = value-all name others (with_pair pair.name pair.value a) (with_pair pair.name pair.value b) (value-one name pair a b e)

-- only the pairs of its name decide the value of a name
module _ (name : List ℕ) (test : NameValue → Bool) (passes : (pair : NameValue) → pair.name ≡ name → test pair ≡ true) where
  differs-out : (pair : NameValue) → test pair ≡ false → name ≢ pair.name
  differs-out pair out e = let in_it = passes pair (sym e) in absurd (cc)

  value-filter : (others pairs : List NameValue) → value_of name (with_all others pairs) ≡ value_of name (with_all (filter test others) pairs)
  value-filter [] pairs = refl
  value-filter (pair ∷ others) pairs = by (value-filter others (with_pair pair.name pair.value pairs)) (test pair) refl
    where
      by : value_of name (with_all others (with_pair pair.name pair.value pairs)) ≡ value_of name (with_all (filter test others) (with_pair pair.name pair.value pairs)) → (b : Bool) → test pair ≡ b → value_of name (with_all (pair ∷ others) pairs) ≡ value_of name (with_all (filter test (pair ∷ others)) pairs)
      by rest true is = rw is rest
      by rest false is = rw is (rest ∙ value-all name (filter test others) (with_pair pair.name pair.value pairs) pairs (value-with-other pair.name pair.value name (differs-out pair is) pairs))

-- two lists that ascend and give each name one value are the same
pair-same : (p q : NameValue) → p.name ≡ q.name → p.value ≡ q.value → p ≡ q
pair-same p q names values = ap (λ (n : List ℕ). record { name = n; value = p.value }) names ∙ ap (λ (v : List ℕ). record { name = q.name; value = v }) values

some-same : (x y : List ℕ) → Some x ≡ Some y → x ≡ y
some-same x y e = cc

first-value : (pair : NameValue) (pairs : List NameValue) → value_of pair.name (pair ∷ pairs) ≡ Some pair.value
first-value pair pairs = rw (test-same pair.name pair.name refl) refl

not-first : (name : List ℕ) (pair : NameValue) (pairs : List NameValue) → pair.name ≢ name → value_of name (pair ∷ pairs) ≡ value_of name pairs
not-first name pair pairs differs = rw (test-other pair.name name differs) refl

pub extensional : (a b : List NameValue) → IsAscending a → IsAscending b → ((name : List ℕ) → value_of name a ≡ value_of name b) → a ≡ b
extensional [] [] up vp same = refl
extensional [] (q ∷ b) up vp same = let e = same q.name in let f = first-value q b in absurd (cc)
extensional (p ∷ a) [] up vp same = let e = same p.name in let f = first-value p a in absurd (cc)
extensional (p ∷ a) (q ∷ b) up vp same = by (λ tails. extensional a b up.1 vp.1 tails) (byte_order p.name q.name) refl
  where
    -- the tails give each name one value too
    tails : p.name ≡ q.name → (name : List ℕ) → value_of name a ≡ value_of name b
    tails names name = rest (same_or_not p.name name)
      where
        rest : (p.name ≡ name) ⊎ (p.name ≢ name) → value_of name a ≡ value_of name b
        rest (inl is) = value-below name a (subst (λ (n : List ℕ). IsNameBelow n a) is up.0) ∙ sym (value-below name b (subst (λ (n : List ℕ). IsNameBelow n b) (sym names ∙ is) vp.0))
        rest (inr differs) = sym (not-first name p a differs) ∙ same name ∙ not-first name q b (λ e. differs (names ∙ e))

    by : (((name : List ℕ) → value_of name a ≡ value_of name b) → a ≡ b) → (o : Ordering) → byte_order p.name q.name ≡ o → (p ∷ a) ≡ (q ∷ b)
    by again Less is =
        let e = same p.name in
        let f = first-value p a in
        let g = value-below p.name (q ∷ b) (is, below-trans p.name q.name b is vp.0) in
        absurd (cc)
    by again Greater is =
        let less = less-back p.name q.name is in
        let e = same q.name in
        let f = first-value q b in
        let g = value-below q.name (p ∷ a) (less, below-trans q.name p.name a less up.0) in
        absurd (cc)
    by again Equal is =
        let names = same-from_equal p.name q.name is in
        let value = sym (first-value p a) ∙ same p.name ∙ ap (λ (n : List ℕ). value_of n (q ∷ b)) names ∙ first-value q b in
        let rest = again (tails names) in
        ap (λ (pair : NameValue). pair ∷ a) (pair-same p q names (some-same p.value q.value value)) ∙ ap (λ (pairs : List NameValue). q ∷ pairs) rest

-- an order that keeps the pairs of each name as they stood gives the same
pub same-all : (old new : List NameValue) → KeepsEachName old new → with_all new [] ≡ with_all old []
same-all old new keeps = extensional (with_all new []) (with_all old []) (ascending-all new [] tt) (ascending-all old [] tt) same
  where
    named : List ℕ → NameValue
    named name = record { name = name; value = [] }

    passes : (name : List ℕ) (pair : NameValue) → pair.name ≡ name → ties is_before (named name) pair ≡ true
    passes name pair e = rw (equal-from_same name pair.name (sym e), equal-from_same pair.name name e) refl

    same : (name : List ℕ) → value_of name (with_all new []) ≡ value_of name (with_all old [])
    same name =
        value-filter name (ties is_before (named name)) (passes name) new []
        ∙ ap (λ (l : List NameValue). value_of name (with_all l [])) (keeps (named name))
        ∙ sym (value-filter name (ties is_before (named name)) (passes name) old [])

-- setting more pairs after others
pub with_all-append : (first second pairs : List NameValue) → with_all (first ++ second) pairs ≡ with_all second (with_all first pairs)
with_all-append [] second pairs = refl
with_all-append (pair ∷ first) second pairs = with_all-append first second (with_pair pair.name pair.value pairs)

-- pairs that ascend are what setting them gives
behind : (pair : NameValue) (others pairs : List NameValue) → IsNameBelow pair.name others → with_all others (pair ∷ pairs) ≡ pair ∷ with_all others pairs
behind pair [] pairs below = refl
behind pair (next ∷ others) pairs below =
    let there : with_pair next.name next.value (pair ∷ pairs) ≡ pair ∷ with_pair next.name next.value pairs = rw below.0 refl in
    ap (λ (l : List NameValue). with_all others l) there ∙ behind pair others (with_pair next.name next.value pairs) below.1

pub all-ascending : (pairs : List NameValue) → IsAscending pairs → with_all pairs [] ≡ pairs
all-ascending [] up = refl
all-ascending (pair ∷ pairs) up = behind pair pairs [] up.0 ∙ ap (λ (l : List NameValue). pair ∷ l) (all-ascending pairs up.1)

-- of two pairs with different names either may be set first
pub commute : (p q : NameValue) (base : List NameValue) → p.name ≢ q.name → IsAscending base
    → with_pair p.name p.value (with_pair q.name q.value base) ≡ with_pair q.name q.value (with_pair p.name p.value base)
commute p q base differs up =
    extensional _ _ (ascending-with p.name p.value (with_pair q.name q.value base) (ascending-with q.name q.value base up))
    (ascending-with q.name q.value (with_pair p.name p.value base) (ascending-with p.name p.value base up)) (λ name. by name (same_or_not name p.name))
  where
    by : (name : List ℕ) → (name ≡ p.name) ⊎ (name ≢ p.name)
        → value_of name (with_pair p.name p.value (with_pair q.name q.value base)) ≡ value_of name (with_pair q.name q.value (with_pair p.name p.value base))
    by name (inl is) =
        subst (λ (n : List ℕ). value_of n (with_pair p.name p.value (with_pair q.name q.value base)) ≡ value_of n (with_pair q.name q.value (with_pair p.name p.value base))) (sym is)
        (value-with p.name p.value (with_pair q.name q.value base)
        ∙ sym (value-with-other q.name q.value p.name differs (with_pair p.name p.value base) ∙ value-with p.name p.value base))
    by name (inr other) =
        value-with-other p.name p.value name other (with_pair q.name q.value base)
        ∙ sym (value-one name q (with_pair p.name p.value base) base (value-with-other p.name p.value name other base))
