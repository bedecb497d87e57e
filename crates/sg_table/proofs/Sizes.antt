-- The sizes of what is compiled.
use Rattle.std.proofs.Common.{◌≡◌, ℕ, zero, suc, ◌+◌, ◌<◌, ◌≤◌, List, [], ◌∷◌, map, length, get_or, Option, Some, None, Vec, refl, sym, ap, subst, arith}
use Rattle.std.specs.declared.alloc.Global.{Global}
use Rattle.sg_tree.specs.declared.tree.Element.{Element, fold_out-Element}
use Rattle.sg_tree.specs.declared.tree.Element.TheOpen.{Element-F}
use Rattle.sg_tree.specs.declared.tree.Path.{Path}
use Rattle.sg_filter.specs.declared.expr.Expr.{Expr}
use Rattle.sg_tree.specs.Walk.{Steps, Siblings, none_left, filter, rewrite, parse, deliver, junction, choose, embedded, size, siblings_size, choice_size}
use Rattle.sg_tree.specs.Plain.{in_front, element_step, path_step, element_view, steps_view, siblings_view, choice_view, own_steps}
use Rattle.sg_tree.proofs.Views.{view-Path}
use Rattle.sg_table.specs.Compiled.{other_steps}

some-siblings : (s : Siblings) → 1 ≤ siblings_size s
some-siblings Siblings.no_siblings = omega arith
some-siblings (Siblings.sibling marks steps more) = omega arith

pub at-least : (s : Steps) → 2 ≤ size s
at-least none_left = omega arith
at-least (filter expr rest) = omega (arith, at-least rest)
at-least (rewrite rule rest) = omega (arith, at-least rest)
at-least (parse rule rest) = omega (arith, at-least rest)
at-least (deliver drivers rest) = omega (arith, at-least rest)
at-least (junction channels rest) = omega (arith, at-least rest)
at-least (choose choice rest) = omega (arith, at-least rest)
at-least (embedded logs) = omega (arith, some-siblings logs)

step-size : (named : List Expr) (x : Element-F (Steps → Steps) (Siblings → Siblings)) (rest : Steps) → size (element_step named x rest) + 2 ≡ size (element_step named x none_left) + size rest
step-size named (Element-F.Filter expr) rest = omega arith
step-size named (Element-F.Rewrite rule) rest = omega arith
step-size named (Element-F.Parse rule) rest = omega arith
step-size named (Element-F.Deliver drivers) rest = omega arith
step-size named (Element-F.Junction channels) rest = omega arith
step-size named (Element-F.If branches other) rest = omega arith

pub front-size : (named : List Expr) (e : Element) (rest : Steps) → size (element_view named e rest) + 2 ≡ size (element_view named e none_left) + size rest
front-size named e rest =
    subst (λ (f : Steps → Steps). size (f rest) + 2 ≡ size (f none_left) + size rest) (sym (fold_out-Element (Steps → Steps) (Siblings → Siblings) (element_step named) path_step e)) (step-size named _ rest)

pub list-size : (named : List Expr) (els : List Element) (rest : Steps) → size (in_front (map (element_view named) els) rest) + 2 ≡ size (in_front (map (element_view named) els) none_left) + size rest
list-size named [] rest = omega arith
list-size named (e ∷ es) rest =
    omega (arith, front-size named e (in_front (map (element_view named) es) rest), front-size named e (in_front (map (element_view named) es) none_left), list-size named es rest)

pub item-size : (named : List Expr) (els : List Element) (i : ℕ) (d : Element) → i < length els → size (element_view named (get_or els i d) none_left) ≤ size (in_front (map (element_view named) els) none_left)
item-size named [] i d h = absurd (omega arith)
item-size named (e ∷ es) zero d h = omega (arith, front-size named e (in_front (map (element_view named) es) none_left), at-least (in_front (map (element_view named) es) none_left))
item-size named (e ∷ es) (suc i) d h =
    omega (arith, front-size named e (in_front (map (element_view named) es) none_left), at-least (element_view named e none_left), item-size named es i d (omega arith))

pub sibling-size : (named : List Expr) (ps : List Path) (i : ℕ) (d : Path) → i < length ps → size (own_steps named (get_or ps i d)) < siblings_size (siblings_view named ps)
sibling-size named [] i d h = absurd (omega arith)
sibling-size named (p ∷ ps) zero d h = omega (arith, ap siblings_size (view-Path named p (siblings_view named ps)))
sibling-size named (p ∷ ps) (suc i) d h = omega (arith, ap siblings_size (view-Path named p (siblings_view named ps)), sibling-size named ps i d (omega arith))

pub branch-size : (named : List Expr) (bs : List (Expr × Vec Element Global)) (i : ℕ) (d : Expr × Vec Element Global) → i < length bs → size (steps_view named (get_or bs i d).1.items []) < choice_size (choice_view named bs None)
branch-size named [] i d h = absurd (omega arith)
branch-size named (b ∷ bs) zero d h = omega arith
branch-size named (b ∷ bs) (suc i) d h = omega (arith, branch-size named bs i d (omega arith))

pub choice-none : (named : List Expr) (bs : List (Expr × Vec Element Global)) (o : Option (Vec Element Global)) → choice_size (choice_view named bs None) ≤ choice_size (choice_view named bs o)
choice-none named [] None = omega arith
choice-none named [] (Some els) = omega (arith, at-least (steps_view named els.items []))
choice-none named (b ∷ bs) o = omega (arith, choice-none named bs o)

pub choice-other : (named : List Expr) (bs : List (Expr × Vec Element Global)) (o : Option (Vec Element Global)) → size (other_steps named o) < choice_size (choice_view named bs o)
choice-other named [] None = omega arith
choice-other named [] (Some els) = omega arith
choice-other named (b ∷ bs) o = omega (arith, choice-other named bs o)

pub behind-size : (named : List Expr) (ps : List Path) → (length ps ≡ 0 → ⊥) → siblings_size (siblings_view named ps) < size (steps_view named [] ps)
behind-size named [] h = absurd (h refl)
behind-size named (p ∷ ps) h = omega arith
