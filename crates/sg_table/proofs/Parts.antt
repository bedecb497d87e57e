-- The parts of a compilation.
use Rattle.std.proofs.Common.{◌≡◌, ℕ, ◌<◌, ◌≤◌, List, [], ◌∷◌, ◌++◌, map, length, Option, Some, None, Vec, refl, sym, ap, ap₂, ◌∙◌, subst, arith, Bool, true, false}
use Rattle.std.proofs.lemmas.Bool.Decides.{nat_tests}
use Rattle.std.specs.Prelude.{◌==◌}
use Rattle.std.specs.List.{AllByRecursion}
use Rattle.std.specs.declared.alloc.Global.{Global}
use Rattle.sg_filter.specs.Decisions.{Decision, decision_of}
use Rattle.sg_filter.specs.declared.expr.Expr.{Expr}
use Rattle.sg_tree.specs.declared.tree.Element.{Element}
use Rattle.sg_tree.specs.declared.tree.Path.{Path}
use Rattle.sg_tree.specs.Offers.{TopStatement as Statement, top_view}
use Rattle.sg_tree.specs.Walk.{Marks, Steps, none_left, sibling, embedded, test}
use Rattle.sg_tree.specs.Plain.{in_front, element_view, steps_view, siblings_view, choice_view, own_steps}
use Rattle.sg_tree.specs.Plain as plain
use Rattle.sg_tree.proofs.Views.{view-Path}
use Rattle.sg_table.specs.declared.pipe.Branch.{Branch}
use Rattle.sg_table.specs.declared.pipe.Test.{Test}
use Rattle.sg_table.specs.declared.pipe.Top.{Top}
use Rattle.sg_table.specs.declared.pipe.Pipe.{Pipe}
use Rattle.sg_table.specs.declared.pipe.Pipe.TheVariants.{End}
use Rattle.sg_table.specs.Compiled.{Compiled, CompiledBranches, CompiledTests, CompiledTops, IsTopOf, own, choices, other_steps}
use Rattle.sg_table.specs.Forest.{statement_at}
use Rattle.sg_table.specs.Table.{StepsByPlace, marks, siblings_of, branches_at, choice_of, tests_at, steps_at}
use Rattle.sg_table.proofs.Tables.{branches-same, tests-same, grows-none, grows-more, grows-kept, grows-length, pushed}
use Rattle.sg_filter.proofs.Turning.{map-last}

pub siblings-own : (named : List Expr) (ps : List Path) → siblings_of (map (own named) ps) ≡ siblings_view named ps
siblings-own named [] = refl
siblings-own named (p ∷ ps) = ap (sibling (plain.marks p) (own_steps named p)) (siblings-own named ps) ∙ sym (view-Path named p (siblings_view named ps))

pub choices-own : (named : List Expr) (bs : List (Expr × Vec Element Global)) (o : Option (Vec Element Global)) → choice_of (choices named bs) (other_steps named o) ≡ choice_view named bs o
choices-own named [] None = refl
choices-own named [] (Some els) = refl
choices-own named (b ∷ bs) o = ap (test (decision_of named b.0) (steps_view named b.1.items [])) (choices-own named bs o)

pub zero-of : (n : ℕ) → true ≡ (n == 0) → n ≡ 0
zero-of n h = grind (arith, nat_tests)

pub not-zero : (n : ℕ) → false ≡ (n == 0) → n ≡ 0 → ⊥
not-zero n h e = grind (arith, nat_tests)

pub behind-none : (named : List Expr) (ps : List Path) → length ps ≡ 0 → none_left ≡ steps_view named [] ps
behind-none named [] h = refl
behind-none named (p ∷ ps) h = absurd (omega arith)

pub behind-some : (named : List Expr) (ps : List Path) → (length ps ≡ 0 → ⊥) → embedded (siblings_view named ps) ≡ steps_view named [] ps
behind-some named [] h = absurd (h refl)
behind-some named (p ∷ ps) h = refl

pub map-last-at : {A B : Type 0} (f : A → B) (xs ys : List A) (x : A) → ys ≡ xs ++ x ∷ [] → map f ys ≡ map f xs ++ f x ∷ []
map-last-at f xs ys x e = ap (map f) e ∙ map-last f xs x

pub branches-within : (n m : ℕ) (bs : List Branch) → n ≤ m → AllByRecursion (λ branch. branch.start < n) bs → AllByRecursion (λ branch. branch.start < m) bs
branches-within n m [] le h = tt
branches-within n m (b ∷ bs) le h = (omega (arith, h.0), branches-within n m bs le h.1)

branches-last : (n : ℕ) (bs : List Branch) (b : Branch) → AllByRecursion (λ branch. branch.start < n) bs → b.start < n → AllByRecursion (λ branch. branch.start < n) (bs ++ b ∷ [])
branches-last n [] b h l = (l, tt)
branches-last n (x ∷ bs) b h l = (h.0, branches-last n bs b h.1 l)

pub tests-within : (n m : ℕ) (bs : List Test) → n ≤ m → AllByRecursion (λ test. test.start < n) bs → AllByRecursion (λ test. test.start < m) bs
tests-within n m [] le h = tt
tests-within n m (b ∷ bs) le h = (omega (arith, h.0), tests-within n m bs le h.1)

tests-last : (n : ℕ) (bs : List Test) (b : Test) → AllByRecursion (λ test. test.start < n) bs → b.start < n → AllByRecursion (λ test. test.start < n) (bs ++ b ∷ [])
tests-last n [] b h l = (l, tt)
tests-last n (x ∷ bs) b h l = (h.0, tests-last n bs b h.1 l)

tops-within : (n m : ℕ) (bs : List Top) → n ≤ m → AllByRecursion (λ top. top.branch.start < n) bs → AllByRecursion (λ top. top.branch.start < m) bs
tops-within n m [] le h = tt
tops-within n m (b ∷ bs) le h = (omega (arith, h.0), tops-within n m bs le h.1)

tops-last : (n : ℕ) (bs : List Top) (b : Top) → AllByRecursion (λ top. top.branch.start < n) bs → b.branch.start < n → AllByRecursion (λ top. top.branch.start < n) (bs ++ b ∷ [])
tops-last n [] b h l = (l, tt)
tops-last n (x ∷ bs) b h l = (h.0, tops-last n bs b h.1 l)

-- one more sibling
pub one-sibling : (named : List Expr) (old mid new : List Pipe) (bs bs' : List Branch) (b : Branch) (at : ℕ) (p : Path) (ss ss' : List (Marks × Steps))
    → CompiledBranches old mid bs ss → Compiled mid new at (own_steps named p) → b.start ≡ at → marks b ≡ plain.marks p
    → bs' ≡ bs ++ b ∷ [] → ss' ≡ ss ++ own named p ∷ [] → CompiledBranches old new bs' ss'
one-sibling named old mid new bs bs' b at p ss ss' c one here same eb es =
    let inside : b.start < length new = omega (arith, here, one.within) in
    record {
      grows = grows-more old mid new c.grows one.grows;
      within = subst (AllByRecursion (λ (branch : Branch). branch.start < length new)) (sym eb) (branches-last (length new) bs b (branches-within (length mid) (length new) bs (grows-length mid new one.grows) c.within) inside);
      means = ap (branches_at (steps_at new)) eb ∙ map-last (λ (branch : Branch). (marks branch, steps_at new branch.start)) bs b
          ∙ ap₂ (λ (xs : List (Marks × Steps)) (x : Marks × Steps). xs ++ x ∷ [])
          (branches-same (steps_at new) (steps_at mid) (length mid) (λ k h. grows-kept mid new k one.grows h) bs c.within ∙ c.means)
          (ap₂ (λ (m : Marks) (s : Steps). (m, s)) same (ap (steps_at new) here ∙ one.means))
          ∙ sym es;
    }

pub one-test : (named : List Expr) (old mid new : List Pipe) (bs bs' : List Test) (b : Test) (branch : Expr × Vec Element Global) (ss ss' : List (Decision × Steps))
    → CompiledTests old mid bs ss → Compiled mid new b.start (steps_view named branch.1.items []) → b.filter ≡ decision_of named branch.0
    → bs' ≡ bs ++ b ∷ [] → ss' ≡ ss ++ (decision_of named branch.0, steps_view named branch.1.items []) ∷ [] → CompiledTests old new bs' ss'
one-test named old mid new bs bs' b branch ss ss' c one same eb es = record {
  grows = grows-more old mid new c.grows one.grows;
  within = subst (AllByRecursion (λ (test : Test). test.start < length new)) (sym eb) (tests-last (length new) bs b (tests-within (length mid) (length new) bs (grows-length mid new one.grows) c.within) one.within);
  means = ap (tests_at (steps_at new)) eb ∙ map-last (λ (test : Test). (test.filter, steps_at new test.start)) bs b
      ∙ ap₂ (λ (xs : List (Decision × Steps)) (x : Decision × Steps). xs ++ x ∷ [])
      (tests-same (steps_at new) (steps_at mid) (length mid) (λ k h. grows-kept mid new k one.grows h) bs c.within ∙ c.means)
      (ap₂ (λ (e : Decision) (s : Steps). (e, s)) same one.means)
      ∙ sym es;
}

-- what a pipe in front of nothing stands for
pub ended : (named : List Expr) (old mid new : List Pipe) (next at : ℕ) (els : List Element)
    → next ≡ length old → mid ≡ old ++ End ∷ [] → Compiled mid new at (in_front (map (element_view named) els) (steps_at mid next)) → Compiled old new at (steps_view named els [])
ended named old mid new next at els en em c =
    let e = pushed old old mid End next none_left (record { grows = grows-none old; below = tt; means = refl }) en em in
    record {
      grows = grows-more old mid new e.grows c.grows;
      within = c.within;
      means = c.means ∙ ap (λ (s : Steps). in_front (map (element_view named) els) s) e.means;
    }

abbrev statement : List ℕ → Bool → Marks → Steps → Statement
statement sources catchall mark steps = record { sources = sources; catchall = catchall; marks = mark; steps = steps }

tops-same : (f g : StepsByPlace) (n : ℕ) (same : (k : ℕ) → k < n → f k ≡ g k) (tops : List Top)
    → AllByRecursion (λ top. top.branch.start < n) tops → map (statement_at f) tops ≡ map (statement_at g) tops
tops-same f g n same [] below = refl
tops-same f g n same (b ∷ bs) below = ap₂ (λ (s : Steps) (rest : List Statement). statement b.sources.items b.catchall (marks b.branch) s ∷ rest) (same b.branch.start below.0) (tops-same f g n same bs below.1)

pub one-top : (named : List Expr) (old mid new : List Pipe) (bs bs' : List Top) (b : Top) (p : Path) (ss ss' : List Statement)
    → CompiledTops old mid bs ss → Compiled mid new b.branch.start (own_steps named p) → IsTopOf p b
    → bs' ≡ bs ++ b ∷ [] → ss' ≡ ss ++ top_view named p ∷ [] → CompiledTops old new bs' ss'
one-top named old mid new bs bs' b p ss ss' c one top eb es = record {
  grows = grows-more old mid new c.grows one.grows;
  within = subst (AllByRecursion (λ (top : Top). top.branch.start < length new)) (sym eb) (tops-last (length new) bs b (tops-within (length mid) (length new) bs (grows-length mid new one.grows) c.within) one.within);
  means = ap (map (statement_at (steps_at new))) eb ∙ map-last (statement_at (steps_at new)) bs b
      ∙ ap₂ (λ (xs : List Statement) (x : Statement). xs ++ x ∷ [])
      (tops-same (steps_at new) (steps_at mid) (length mid) (λ k h. grows-kept mid new k one.grows h) bs c.within ∙ c.means)
      (λ i. statement (top.sources i) (top.catchall i) (top.marks i) (one.means i))
      ∙ sym es;
}
