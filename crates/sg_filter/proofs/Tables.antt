-- How a table grows.
use Rattle.std.proofs.Common.{◌≡◌, ℕ, zero, suc, ◌+◌, ◌-◌, ◌<◌, ◌≤◌, Bool, true, false, List, [], ◌∷◌, ◌++◌, length, get_or, Option, Some, None, refl, sym, ap, ap₂, ◌∙◌, subst, arith, length-append}
use Rattle.std.specs.Prelude.{slice_get, cond, nat_eq}
use Rattle.std.proofs.lemmas.List.{append_assoc, append-nil, get_or_past}
use Rattle.sg_msg.specs.Message.{Content}
use Rattle.sg_filter.specs.declared.node.Node.{Node}
use Rattle.sg_filter.specs.Checks.{check_holds}
use Rattle.sg_filter.specs.Decisions.{Decision, answer, ask, decides}
use Rattle.sg_filter.specs.Table.{place, node_means, read, answers, decision_at, AreNodesBelow, IsNodeTable, next_of}
use Rattle.sg_filter.specs.Work.{NodesGrow}

pub get-before : {A : Type 0} (xs ys : List A) (i : ℕ) (d : A) → i < length xs → get_or (xs ++ ys) i d ≡ get_or xs i d
get-before [] ys i d h = absurd (omega arith)
get-before (x ∷ xs) ys zero d h = refl
get-before (x ∷ xs) ys (suc i) d h = get-before xs ys i d (omega arith)

pub get-after : {A : Type 0} (xs ys : List A) (y d : A) → get_or (xs ++ y ∷ ys) (length xs) d ≡ y
get-after [] ys y d = refl
get-after (x ∷ xs) ys y d = get-after xs ys y d

read-append : (seen : List Decision) (xs ys : List Node) → read seen (xs ++ ys) ≡ read (read seen xs) ys
read-append seen [] ys = refl
read-append seen (x ∷ xs) ys = read-append (seen ++ node_means (place seen) x ∷ []) xs ys

read-length : (seen : List Decision) (xs : List Node) → length (read seen xs) ≡ length seen + length xs
read-length seen [] = omega arith
read-length seen (x ∷ xs) = omega (arith, read-length (seen ++ node_means (place seen) x ∷ []) xs, length-append seen (node_means (place seen) x ∷ []))

read-keeps : (seen : List Decision) (xs : List Node) (i : ℕ) → i < length seen → place (read seen xs) i ≡ place seen i
read-keeps seen [] i h = refl
read-keeps seen (x ∷ xs) i h =
    read-keeps (seen ++ node_means (place seen) x ∷ []) xs i (omega (arith, length-append seen (node_means (place seen) x ∷ [])))
    ∙ get-before seen (node_means (place seen) x ∷ []) i (answer false) h

long : (nodes : List Node) → length (read answers nodes) ≡ length nodes + 2
long nodes = omega (arith, read-length answers nodes)

-- what stands at a place stays
pub decision-kept : (old more : List Node) (i : ℕ) → i < length old + 2 → decision_at (old ++ more) i ≡ decision_at old i
decision-kept old more i h =
    ap (λ (s : List Decision). place s i) (read-append answers old more) ∙ read-keeps (read answers old) more i (omega (arith, long old))

-- what a new node stands for
pub decision-pushed : (old : List Node) (one : Node) → decision_at (old ++ one ∷ []) (length old + 2) ≡ node_means (decision_at old) one
decision-pushed old one =
    ap (λ (s : List Decision). place s (length old + 2)) (read-append answers old (one ∷ []))
    ∙ ap (λ (n : ℕ). place (read answers old ++ node_means (decision_at old) one ∷ []) n) (sym (long old))
    ∙ get-after (read answers old) [] (node_means (decision_at old) one) (answer false)

-- a table with one more
below-append : (n : ℕ) (xs : List Node) (one : Node) (m : ℕ) → m ≡ n + length xs → AreNodesBelow n xs → one.yes < m → one.no < m → AreNodesBelow n (xs ++ one ∷ [])
below-append n [] one m e xs h k = (omega arith, omega arith, tt)
below-append n (x ∷ xs) one m e all h k = (all.0, all.1, below-append (suc n) xs one m (omega arith) all.2 h k)

table-pushed : (old : List Node) (one : Node) → one.yes < length old + 2 → one.no < length old + 2 → IsNodeTable old → IsNodeTable (old ++ one ∷ [])
unfolding IsNodeTable
table-pushed old one h k all = below-append 2 old one (length old + 2) (omega arith) all h k

pub table-none : (nodes : List Node) → nodes ≡ [] → IsNodeTable nodes
unfolding IsNodeTable
table-none nodes is = subst (AreNodesBelow 2) (sym is) tt

-- each node of a table stands for what its fields say
split-at : (n : ℕ) (xs : List Node) (i : ℕ) (one : Node) → AreNodesBelow n xs → slice_get xs i ≡ Some one
    → (before : List Node) × (after : List Node) × (xs ≡ before ++ one ∷ after) × (length before ≡ i) × (one.yes < n + i) × (one.no < n + i)
split-at n [] i one all h = absurd (cc)
split-at n (x ∷ xs) zero one all h =
    let same : x ≡ one = cc in
    ([], xs, ap (λ (y : Node). y ∷ xs) same, refl, omega (arith, all.0, ap (λ (y : Node). y.yes) same), omega (arith, all.1, ap (λ (y : Node). y.no) same))
split-at n (x ∷ xs) (suc i) one all h =
    let rest = split-at (suc n) xs i one all.2 h in
    (x ∷ rest.0, rest.1, ap (λ (ys : List Node). x ∷ ys) rest.2, ap suc rest.3, omega (arith, rest.4), omega (arith, rest.5))

node-read : (all : List Node) (i : ℕ) (one : Node) → IsNodeTable all → slice_get all i ≡ Some one → decision_at all (i + 2) ≡ node_means (decision_at all) one
unfolding IsNodeTable
node-read all i one table h =
    let s = split-at 2 all i one table h in
    let before = s.0 in
    let after = s.1 in
    let whole : all ≡ (before ++ one ∷ []) ++ after = s.2 ∙ sym (append_assoc before (one ∷ []) after) in
    let here : i + 2 < length (before ++ one ∷ []) + 2 = omega (arith, s.3, length-append before (one ∷ [])) in
    let same : (k : ℕ) → k < 2 + i → decision_at before k ≡ decision_at all k =
    λ k lt. sym (ap (λ (ns : List Node). decision_at ns k) s.2 ∙ decision-kept before (one ∷ after) k (omega (arith, s.3, lt))) in
    ap (λ (ns : List Node). decision_at ns (i + 2)) whole ∙ decision-kept (before ++ one ∷ []) after (i + 2) here
    ∙ ap (λ (k : ℕ). decision_at (before ++ one ∷ []) (k + 2)) (sym s.3) ∙ decision-pushed before one
    ∙ ap₂ (ask one.check) (same one.yes s.4) (same one.no s.5)

-- where a decision goes on
follows : (all : List Node) (k : ℕ) (m : Content) (found : Option Node) → IsNodeTable all → slice_get all k ≡ found
    → decides (decision_at all (next_of found m)) m ≡ decides (decision_at all (k + 2)) m
follows all k m (Some one) table h = go (check_holds one.check m) ∙ sym (ap (λ (d : Decision). decides d m) (node-read all k one table h))
  where
    go : (b : Bool) → decides (decision_at all (cond b one.yes one.no)) m ≡ cond b (decides (decision_at all one.yes) m) (decides (decision_at all one.no) m)
    go true = refl
    go false = refl
follows all k m None table h = ap (λ (d : Decision). decides d m) (zero-answer all ∙ sym (past all k h))
  where
    zero-answer : (nodes : List Node) → decision_at nodes 0 ≡ answer false
    zero-answer nodes = read-keeps answers nodes 0 (omega arith)

    beyond : (ns : List Node) (i : ℕ) → slice_get ns i ≡ None → length ns ≤ i
    beyond [] i e = omega arith
    beyond (n ∷ ns) zero e = absurd (cc)
    beyond (n ∷ ns) (suc i) e = omega (arith, beyond ns i e)

    past : (nodes : List Node) (i : ℕ) → slice_get nodes i ≡ None → decision_at nodes (i + 2) ≡ answer false
    past nodes i e = get_or_past (read answers nodes) (i + 2) (answer false) (omega (arith, long nodes, beyond nodes i e))

pub goes-on : (all : List Node) (k : ℕ) (m : Content) → IsNodeTable all → decides (decision_at all (next_of (slice_get all k) m)) m ≡ decides (decision_at all (k + 2)) m
goes-on all k m table = follows all k m (slice_get all k) table refl

lower : (all : List Node) (k : ℕ) (m : Content) (found : Option Node) → IsNodeTable all → slice_get all k ≡ found → next_of found m < k + 2
unfolding IsNodeTable
lower all k m None table h = omega arith
lower all k m (Some one) table h =
    let s = split-at 2 all k one table h in go (check_holds one.check m) (omega (arith, s.4)) (omega (arith, s.5))
  where
    go : (b : Bool) → one.yes < k + 2 → one.no < k + 2 → cond b one.yes one.no < k + 2
    go true h k = h
    go false h k = k

pub goes-down : (all : List Node) (k : ℕ) (m : Content) → IsNodeTable all → next_of (slice_get all k) m < k + 2
goes-down all k m table = lower all k m (slice_get all k) table refl

pub zero-means : (nodes : List Node) (m : Content) → decides (decision_at nodes 0) m ≡ false
zero-means nodes m = ap (λ (d : Decision). decides d m) (read-keeps answers nodes 0 (omega arith))

pub one-means : (nodes : List Node) (m : Content) → decides (decision_at nodes 1) m ≡ true
one-means nodes m = ap (λ (d : Decision). decides d m) (read-keeps answers nodes 1 (omega arith))

module _ (first nodes : List Node) (at next : ℕ) (m : Content) (table : IsNodeTable first) (same : nodes ≡ first) (some : 2 ≤ at) (is : next ≡ next_of (slice_get nodes (at - 2)) m) where
  pub step-below : next < at
  step-below = omega (arith, is, some, goes-down nodes (at - 2) m (subst IsNodeTable (sym same) table))

  pub step-same : decides (decision_at nodes next) m ≡ decides (decision_at nodes at) m
  step-same =
      let whole : at - 2 + 2 ≡ at = omega arith in
      ap (λ (k : ℕ). decides (decision_at nodes k) m) is ∙ goes-on nodes (at - 2) m (subst IsNodeTable (sym same) table) ∙ ap (λ (k : ℕ). decides (decision_at nodes k) m) whole

pub answer-at : (nodes : List Node) (at : ℕ) (m : Content) → at < 2 → nat_eq at 1 ≡ decides (decision_at nodes at) m
answer-at nodes zero m h = sym (zero-means nodes m)
answer-at nodes (suc zero) m h = sym (one-means nodes m)
answer-at nodes (suc (suc at)) m h = absurd (omega arith)

-- growing
pub grows-none : (old : List Node) → NodesGrow old old
grows-none old = record { more = []; is = sym (append-nil old); in_order = λ h. h }

pub grows-one : (old new : List Node) (one : Node) → new ≡ old ++ one ∷ [] → one.yes < length old + 2 → one.no < length old + 2 → NodesGrow old new
grows-one old new one e h k = record { more = one ∷ []; is = e; in_order = λ t. subst IsNodeTable (sym e) (table-pushed old one h k t) }

pub grows-kept : (a b : List Node) (i : ℕ) → NodesGrow a b → i < length a + 2 → decision_at b i ≡ decision_at a i
grows-kept a b i g h = ap (λ (ns : List Node). decision_at ns i) g.is ∙ decision-kept a g.more i h

pub grows-length : (a b : List Node) → NodesGrow a b → length a ≤ length b
grows-length a b g = omega (arith, ap length g.is, length-append a g.more)
