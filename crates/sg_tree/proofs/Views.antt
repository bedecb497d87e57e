-- The equations of the views, and of their sizes.
use Rattle.std.proofs.Common.{◌≡◌, ℕ, List, [], ◌∷◌, map, Option, Some, None, Vec, refl, sym, ap, ◌∙◌, rules}
use Rattle.std.specs.declared.alloc.Global.{Global}
use Rattle.sg_filter.specs.declared.expr.Expr.{Expr}
use Rattle.sg_parsers.specs.declared.rule.ParserRule.{ParserRule}
use Rattle.sg_tree.specs.declared.sound.RewriteRule.{RewriteRule}
use Rattle.sg_tree.specs.declared.tree.Element.{Element, Filter, Rewrite, Parse, Deliver, Junction, If, fold-roll-Element}
use Rattle.sg_tree.specs.declared.tree.Element.TheVariants.{rolls-If}
use Rattle.sg_tree.specs.declared.tree.Element.{the_lemmas}
use Rattle.sg_tree.specs.declared.tree.Element.TheOpen.{Element-F}
use Rattle.sg_tree.specs.declared.tree.Path.{Path, fold_out-Path}
use Rattle.sg_filter.specs.Decisions.{Decision, decision_of}
use Rattle.sg_tree.specs.Rules.{rule_of}
use Rattle.sg_tree.specs.Walk.{Steps, Siblings, filter, rewrite, parse, deliver, junction, choose, sibling}
use Rattle.sg_tree.specs.Plain.{choice_of, marks, own_steps, element_step, path_step, element_view, path_view, siblings_view, choice_view}

pub map-twice : {A B C : Type 0} (f : A → B) (g : B → C) (xs : List A) → map g (map f xs) ≡ map (λ x. g (f x)) xs
map-twice f g [] = refl
map-twice f g (x ∷ xs) = ap (λ ys. g (f x) ∷ ys) (map-twice f g xs)

pub view-Filter : (named : List Expr) (expr : Expr) (rest : Steps) → element_view named (Filter expr) rest ≡ filter (decision_of named expr) rest
view-Filter named expr rest = search (rules, the_lemmas)

pub view-Rewrite : (named : List Expr) (rule : RewriteRule) (rest : Steps) → element_view named (Rewrite rule) rest ≡ rewrite (rule_of named rule) rest
view-Rewrite named rule rest = search (rules, the_lemmas)

pub view-Parse : (named : List Expr) (rule : ParserRule) (rest : Steps) → element_view named (Parse rule) rest ≡ parse rule rest
view-Parse named rule rest = search (rules, the_lemmas)

pub view-Deliver : (named : List Expr) (drivers : Vec ℕ Global) (rest : Steps) → element_view named (Deliver drivers) rest ≡ deliver drivers.items rest
view-Deliver named drivers rest = search (rules, the_lemmas)

pub view-Junction : (named : List Expr) (channels : Vec Path Global) (rest : Steps) → element_view named (Junction channels) rest ≡ junction (siblings_view named channels.items) rest
view-Junction named channels rest = search (rules, the_lemmas)

pub view-If : (named : List Expr) (branches : Vec (Expr × Vec Element Global) Global) (other : Option (Vec Element Global)) (rest : Steps)
    → element_view named (If branches other) rest ≡ choose (choice_view named branches.items other) rest
view-If named branches None rest =
    ap (λ (e : Element). element_view named e rest) (sym (rolls-If branches None))
    ∙ ap (λ (f : Steps → Steps). f rest) (fold-roll-Element (Steps → Steps) (Siblings → Siblings) (element_step named) path_step (Element-F.If branches None))
    ∙ ap (λ (bs : List (Decision × List (Steps → Steps))). choose (choice_of bs None) rest) (map-twice _ _ branches.items)
view-If named branches (Some other) rest =
    ap (λ (e : Element). element_view named e rest) (sym (rolls-If branches (Some other)))
    ∙ ap (λ (f : Steps → Steps). f rest) (fold-roll-Element (Steps → Steps) (Siblings → Siblings) (element_step named) path_step (Element-F.If branches (Some other)))
    ∙ ap (λ (bs : List (Decision × List (Steps → Steps))). choose (choice_of bs (Some (map (element_view named) other.items))) rest) (map-twice _ _ branches.items)

pub view-Path : (named : List Expr) (path : Path) (more : Siblings)
    → path_view named path more ≡ sibling (marks path) (own_steps named path) more
view-Path named path more = ap (λ (v : Siblings → Siblings). v more) (fold_out-Path (Steps → Steps) (Siblings → Siblings) (element_step named) path_step path)
