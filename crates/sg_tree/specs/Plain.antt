-- The elements and statements of a configuration as steps and siblings, in which a filter's name means the expression at its place of
-- the list `named`.
use Rattle.std.specs.Prelude.{List, [], ◌∷◌, map, Option, Some, None, option_map, Vec}
use Rattle.std.specs.declared.alloc.Global.{Global}
use Rattle.sg_filter.specs.Decisions.{Decision, decision_of}
use Rattle.sg_filter.specs.declared.expr.Expr.{Expr}
use Rattle.sg_tree.specs.declared.tree.Element.{Element, fold-Element}
use Rattle.sg_tree.specs.declared.tree.Element.TheOpen.{Element-F, Path-F}
use Rattle.sg_tree.specs.declared.tree.Path.{Path, out-Path, fold-Path}
use Rattle.sg_tree.specs.Rules.{rule_of}
use Rattle.sg_tree.specs.Walk.{Marks, Steps, Siblings, Choice, none_left, filter, rewrite, parse, deliver, junction, choose, embedded, no_siblings, sibling, otherwise, test}

-- what stands in front, each before those behind it
abbrev pub in_front : {A : Type 0} → List (A → A) → A → A
in_front [] rest = rest
in_front (x ∷ xs) rest = x (in_front xs rest)

abbrev pub choice_of : List (Decision × List (Steps → Steps)) → Option (List (Steps → Steps))
    → Choice
choice_of [] None = otherwise none_left
choice_of [] (Some other) = otherwise (in_front other none_left)
choice_of (branch ∷ branches) other = test branch.0 (in_front branch.1 none_left)
    (choice_of branches other)

abbrev pub marks_of : {A B : Type 0} → Path-F A B → Marks
marks_of path = record {
  is_final = path.is_final;
  fallback = path.fallback;
  flow = path.flow;
  drop_unmatched = path.drop_unmatched;
}

-- what stands behind the last element
abbrev pub behind : List (Siblings → Siblings) → Steps
behind [] = none_left
behind (log ∷ logs) = embedded (in_front (log ∷ logs) no_siblings)

-- one element or statement, with what stands inside it seen already
abbrev pub element_step : List Expr → Element-F (Steps → Steps) (Siblings → Siblings) → Steps
    → Steps
element_step named (Element-F.Filter expr) rest = filter (decision_of named expr) rest
element_step named (Element-F.Rewrite rule) rest = rewrite (rule_of named rule) rest
element_step named (Element-F.Parse rule) rest = parse rule rest
element_step named (Element-F.Deliver drivers) rest = deliver drivers.items rest
element_step named (Element-F.Junction channels) rest =
    junction (in_front channels.items no_siblings) rest
element_step named (Element-F.If branches other) rest = choose
    (choice_of (map (λ b. (decision_of named b.0, b.1.items)) branches.items)
    (option_map (λ o. o.items) other)) rest

abbrev pub path_step : Path-F (Steps → Steps) (Siblings → Siblings) → Siblings → Siblings
path_step path more = sibling (marks_of path)
    (in_front path.elements.items (behind path.embedded.items)) more

abbrev pub element_view : List Expr → Element → Steps → Steps
element_view named = fold-Element (Steps → Steps) (Siblings → Siblings) (element_step named)
    path_step

abbrev pub path_view : List Expr → Path → Siblings → Siblings
path_view named = fold-Path (Steps → Steps) (Siblings → Siblings) (element_step named) path_step

-- what a list of elements and the embedded statements behind them are
abbrev pub steps_view : List Expr → List Element → List Path → Steps
steps_view named elements logs = in_front (map (element_view named) elements)
    (behind (map (path_view named) logs))

abbrev pub siblings_view : List Expr → List Path → Siblings
siblings_view named paths = in_front (map (path_view named) paths) no_siblings

abbrev pub choice_view : List Expr → List (Expr × Vec Element Global) → Option (Vec Element Global)
    → Choice
choice_view named branches other =
    choice_of (map (λ b. (decision_of named b.0, map (element_view named) b.1.items)) branches)
    (option_map (λ o. map (element_view named) o.items) other)

-- a statement's own flags, and its own elements
abbrev pub marks : Path → Marks
marks path = marks_of (out-Path path)

abbrev pub own_steps : List Expr → Path → Steps
own_steps named path = steps_view named (out-Path path).elements.items
    (out-Path path).embedded.items
