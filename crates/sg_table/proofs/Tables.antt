-- How a table grows.
use Rattle.std.proofs.Common.{◌≡◌, ℕ, zero, suc, ◌+◌, ◌<◌, ◌≤◌, List, [], ◌∷◌, ◌++◌, length, Option, Some, None, refl, sym, ap, ap₂, ◌∙◌, subst, arith, length-append}
use Rattle.std.specs.Prelude.{slice_get}
use Rattle.std.proofs.lemmas.List.{append_assoc, append-nil}
use Rattle.std.specs.List.{AllByRecursion}
use Rattle.sg_filter.specs.Decisions.{Decision}
use Rattle.sg_tree.specs.Walk.{Marks, Steps, none_left, filter, rewrite, parse, deliver, junction, choose, embedded}
use Rattle.sg_table.specs.declared.pipe.Branch.{Branch}
use Rattle.sg_table.specs.declared.pipe.Test.{Test}
use Rattle.sg_table.specs.declared.pipe.Pipe.{Pipe}
use Rattle.sg_table.specs.declared.pipe.Pipe.TheVariants as pipe
use Rattle.sg_table.specs.Table.{StepsByPlace, marks, siblings_of, branches_at, choice_of, tests_at, other_at, steps_of, place, read, steps_at, IsOtherBelow, IsPipeBelow, ArePipesBelow, IsPipeTable}
use Rattle.sg_table.specs.Compiled.{PipesGrow, Compiled, MadePipe}
use Rattle.sg_filter.proofs.Tables.{get-after, get-before}

pub read-append : (seen : List Steps) (xs ys : List Pipe) → read seen (xs ++ ys) ≡ read (read seen xs) ys
read-append seen [] ys = refl
read-append seen (x ∷ xs) ys = read-append (seen ++ steps_of (place seen) x ∷ []) xs ys

pub read-length : (seen : List Steps) (xs : List Pipe) → length (read seen xs) ≡ length seen + length xs
read-length seen [] = omega arith
read-length seen (x ∷ xs) = omega (arith, read-length (seen ++ steps_of (place seen) x ∷ []) xs, length-append seen (steps_of (place seen) x ∷ []))

read-keeps : (seen : List Steps) (xs : List Pipe) (i : ℕ) → i < length seen → place (read seen xs) i ≡ place seen i
read-keeps seen [] i h = refl
read-keeps seen (x ∷ xs) i h =
    read-keeps (seen ++ steps_of (place seen) x ∷ []) xs i (omega (arith, length-append seen (steps_of (place seen) x ∷ [])))
    ∙ get-before seen (steps_of (place seen) x ∷ []) i none_left h

-- what stands at a place stays
pub steps-kept : (old more : List Pipe) (i : ℕ) → i < length old → steps_at (old ++ more) i ≡ steps_at old i
steps-kept old more i h =
    ap (λ (s : List Steps). place s i) (read-append [] old more) ∙ read-keeps (read [] old) more i (omega (arith, read-length [] old))

-- what a new pipe stands for
pub steps-pushed : (old : List Pipe) (one : Pipe) → steps_at (old ++ one ∷ []) (length old) ≡ steps_of (steps_at old) one
steps-pushed old one =
    let long : length old ≡ length (read [] old) = omega (arith, read-length [] old) in
    ap (λ (s : List Steps). place s (length old)) (read-append [] old (one ∷ []))
    ∙ ap (λ (n : ℕ). place (read [] old ++ steps_of (steps_at old) one ∷ []) n) long
    ∙ get-after (read [] old) [] (steps_of (steps_at old) one) none_left

-- pipes that mean the same where they refer to
pub branches-same : (f g : StepsByPlace) (n : ℕ) (same : (k : ℕ) → k < n → f k ≡ g k) (branches : List Branch)
    → AllByRecursion (λ branch. branch.start < n) branches → branches_at f branches ≡ branches_at g branches
branches-same f g n same [] below = refl
branches-same f g n same (b ∷ bs) below = ap₂ (λ (s : Steps) (rest : List (Marks × Steps)). (marks b, s) ∷ rest) (same b.start below.0) (branches-same f g n same bs below.1)

pub tests-same : (f g : StepsByPlace) (n : ℕ) (same : (k : ℕ) → k < n → f k ≡ g k) (tests : List Test)
    → AllByRecursion (λ test. test.start < n) tests → tests_at f tests ≡ tests_at g tests
tests-same f g n same [] below = refl
tests-same f g n same (b ∷ bs) below = ap₂ (λ (s : Steps) (rest : List (Decision × Steps)). (b.filter, s) ∷ rest) (same b.start below.0) (tests-same f g n same bs below.1)

other-same : (f g : StepsByPlace) (n : ℕ) (same : (k : ℕ) → k < n → f k ≡ g k) (other : Option ℕ) → IsOtherBelow n other → other_at f other ≡ other_at g other
other-same f g n same (Some at) below = same at below
other-same f g n same None below = refl

pub steps-same : (f g : StepsByPlace) (n : ℕ) (same : (k : ℕ) → k < n → f k ≡ g k) (one : Pipe) → IsPipeBelow n one → steps_of f one ≡ steps_of g one
steps-same f g n same pipe.End below = refl
steps-same f g n same (pipe.Filter decision next) below = ap (filter decision) (same next below)
steps-same f g n same (pipe.Rewrite condition change next) below = ap (rewrite (record { condition = condition; change = change })) (same next below)
steps-same f g n same (pipe.Parse rule next) below = ap (parse rule) (same next below)
steps-same f g n same (pipe.Deliver drivers next) below = ap (deliver drivers.items) (same next below)
steps-same f g n same (pipe.Junction channels next) below =
    ap₂ (λ (bs : List (Marks × Steps)) (s : Steps). junction (siblings_of bs) s) (branches-same f g n same channels.items below.1) (same next below.0)
steps-same f g n same (pipe.If tests other next) below =
    ap₂ (λ (c : List (Decision × Steps)) (s : Steps). choose (choice_of c (other_at f other)) s) (tests-same f g n same tests.items below.1.0) (same next below.0)
    ∙ ap (λ (o : Steps). choose (choice_of (tests_at g tests.items) o) (g next)) (other-same f g n same other below.1.1)
steps-same f g n same (pipe.Embedded logs) below = ap (λ (bs : List (Marks × Steps)). embedded (siblings_of bs)) (branches-same f g n same logs.items below)

-- a table with one more
pub below-append : (n : ℕ) (xs : List Pipe) (one : Pipe) (m : ℕ) → m ≡ n + length xs → ArePipesBelow n xs → IsPipeBelow m one → ArePipesBelow n (xs ++ one ∷ [])
below-append n [] one m e xs h = let same : m ≡ n = omega arith in (subst (λ (k : ℕ). IsPipeBelow k one) same h, tt)
below-append n (x ∷ xs) one m e all h = (all.0, below-append (suc n) xs one m (omega arith) all.1 h)

pub table-pushed : (old : List Pipe) (one : Pipe) → IsPipeBelow (length old) one → IsPipeTable old → IsPipeTable (old ++ one ∷ [])
unfolding IsPipeTable
table-pushed old one h all =
    below-append 0 old one (length old) (omega arith) all h

-- each pipe of a table stands for what its fields say
split-at : (n : ℕ) (xs : List Pipe) (i : ℕ) (one : Pipe) → ArePipesBelow n xs → slice_get xs i ≡ Some one
    → (before : List Pipe) × (after : List Pipe) × (xs ≡ before ++ one ∷ after) × (length before ≡ i) × IsPipeBelow (n + i) one
split-at n [] i one all h = absurd (cc)
split-at n (x ∷ xs) zero one all h =
    let same : x ≡ one = cc in
    let at : n ≡ n + 0 = omega arith in
    ([], xs, ap (λ (y : Pipe). y ∷ xs) same, refl, subst (λ (k : ℕ). IsPipeBelow k one) at (subst (IsPipeBelow n) same all.0))
split-at n (x ∷ xs) (suc i) one all h =
    let rest = split-at (suc n) xs i one all.1 h in
    let at : suc n + i ≡ n + suc i = omega arith in
    (x ∷ rest.0, rest.1, ap (λ (ys : List Pipe). x ∷ ys) rest.2, ap suc rest.3, subst (λ (k : ℕ). IsPipeBelow k one) at rest.4)

pub steps-read : (all : List Pipe) (i : ℕ) (one : Pipe) → IsPipeTable all → slice_get all i ≡ Some one → steps_at all i ≡ steps_of (steps_at all) one
unfolding IsPipeTable
steps-read all i one table h =
    let s = split-at 0 all i one table h in
    let before = s.0 in
    let after = s.1 in
    let whole : all ≡ (before ++ one ∷ []) ++ after = s.2 ∙ sym (append_assoc before (one ∷ []) after) in
    let here : i < length (before ++ one ∷ []) = omega (arith, s.3, length-append before (one ∷ [])) in
    let below : IsPipeBelow i one = let at : 0 + i ≡ i = omega arith in subst (λ (k : ℕ). IsPipeBelow k one) at s.4 in
    let same : (k : ℕ) → k < i → steps_at before k ≡ steps_at all k =
    λ k lt. sym (ap (λ (ps : List Pipe). steps_at ps k) s.2 ∙ steps-kept before (one ∷ after) k (omega (arith, s.3))) in
    ap (λ (ps : List Pipe). steps_at ps i) whole ∙ steps-kept (before ++ one ∷ []) after i here
    ∙ ap (steps_at (before ++ one ∷ [])) (sym s.3) ∙ steps-pushed before one ∙ steps-same (steps_at before) (steps_at all) i same one below

-- growing
pub grows-none : (old : List Pipe) → PipesGrow old old
grows-none old = record { more = []; is = sym (append-nil old); in_order = λ h. h }

pub grows-more : (a b c : List Pipe) → PipesGrow a b → PipesGrow b c → PipesGrow a c
grows-more a b c g h = record {
  more = g.more ++ h.more;
  is = h.is ∙ ap (λ (x : List Pipe). x ++ h.more) g.is ∙ append_assoc a g.more h.more;
  in_order = λ t. h.in_order (g.in_order t);
}

pub grows-kept : (a b : List Pipe) (i : ℕ) → PipesGrow a b → i < length a → steps_at b i ≡ steps_at a i
grows-kept a b i g h = ap (λ (ps : List Pipe). steps_at ps i) g.is ∙ steps-kept a g.more i h

pub grows-length : (a b : List Pipe) → PipesGrow a b → length a ≤ length b
grows-length a b g = omega (arith, ap length g.is, length-append a g.more)

-- one more pipe
pub grows-pushed : (old new : List Pipe) (one : Pipe) → new ≡ old ++ one ∷ [] → IsPipeBelow (length old) one → PipesGrow old new
grows-pushed old new one e below = record { more = one ∷ []; is = e; in_order = λ t. subst IsPipeTable (sym e) (table-pushed old one below t) }

pub pushed : (a b c : List Pipe) (one : Pipe) (at : ℕ) (steps : Steps)
    → MadePipe a b one steps → at ≡ length b → c ≡ b ++ one ∷ [] → Compiled a c at steps
pushed a b c one at steps made ea ec = record {
  grows = grows-more a b c made.grows (grows-pushed b c one ec made.below);
  within = omega (arith, ea, ap length ec, length-append b (one ∷ []));
  means = ap (λ (ps : List Pipe). steps_at ps at) ec ∙ ap (steps_at (b ++ one ∷ [])) ea ∙ steps-pushed b one ∙ made.means;
}

pub table-none : (pipes : List Pipe) → pipes ≡ [] → IsPipeTable pipes
unfolding IsPipeTable
table-none pipes e =
    subst (ArePipesBelow 0) (sym e) tt
