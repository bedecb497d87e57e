-- What stands in statements, in the order of the text.
use Rattle.std.specs.Prelude.{List, [], ◌∷◌, ◌++◌, Option, Some, None}
use Rattle.std.specs.List.{flat_map}
use Rattle.sg_parse_base.specs.declared.spot.Spot.{Spot}
use Rattle.sg_parse_expr.specs.declared.tree.RawExpr.{RawExpr}
use Rattle.sg_parse_obj.specs.declared.object.Object.{Object}
use Rattle.sg_parse_path.specs.declared.reference.ReferenceKind.{ReferenceKind}
use Rattle.sg_parse_path.specs.declared.reference.ReferenceKind.TheVariants as kind
use Rattle.sg_parse_path.specs.declared.tree.RawRef.{RawRef}
use Rattle.sg_parse_path.specs.declared.tree.RawElement.{RawElement, fold-RawElement}
use Rattle.sg_parse_path.specs.declared.tree.RawElement.TheOpen.{RawElement-F, RawLog-F, RawBranch-F}
use Rattle.sg_parse_path.specs.declared.tree.RawLog.{RawLog, fold-RawLog}
use Rattle.sg_parse_path.specs.declared.tree.RawBranch.{RawBranch, fold-RawBranch}
use Rattle.sg_parse_text.specs.declared.statement.Statement.{Statement}
use Rattle.sg_parse_text.specs.declared.statement.Statement.TheVariants as statement

pub data Leaf : Type 0 where
  -- a statement other than a log statement
  object : Object → Leaf
  -- the word of an element that refers to a source
  source : Spot → Leaf
  -- what an element refers to
  reference : ReferenceKind → RawRef → Leaf
  -- the condition of a branch
  test : RawExpr → Leaf
  -- the flags of a log statement, an embedded one or a channel
  flags : List Spot → Leaf

abbrev pub Leaves : Type 0
Leaves = List Leaf

abbrev pub all_leaves : List Leaves → Leaves
all_leaves parts = flat_map (λ p. p) parts

abbrev pub leaves_if : Option (List Leaves) → Leaves
leaves_if None = []
leaves_if (Some parts) = all_leaves parts

-- one layer, with the leaves of what it holds in its place
abbrev pub element_step : RawElement-F Leaves Leaves Leaves → Leaves
element_step (RawElement-F.Source word ref) =
    Leaf.source word ∷ Leaf.reference kind.Source ref ∷ []
element_step (RawElement-F.Destination ref) = Leaf.reference kind.Destination ref ∷ []
element_step (RawElement-F.Filter ref) = Leaf.reference kind.Filter ref ∷ []
element_step (RawElement-F.Rewrite ref) = Leaf.reference kind.Rewrite ref ∷ []
element_step (RawElement-F.Parser ref) = Leaf.reference kind.Parser ref ∷ []
element_step (RawElement-F.Junction channels) = all_leaves channels
element_step (RawElement-F.If branches other) = all_leaves branches ++ leaves_if other

abbrev pub log_step : RawLog-F Leaves Leaves Leaves → Leaves
log_step log = (all_leaves log.elements ++ all_leaves log.embedded) ++ Leaf.flags log.flags ∷ []

abbrev pub branch_step : RawBranch-F Leaves Leaves Leaves → Leaves
branch_step branch = Leaf.test branch.test ∷ all_leaves branch.elements

unfoldable pub element_leaves : RawElement → Leaves
element_leaves = fold-RawElement Leaves Leaves Leaves element_step branch_step log_step

unfoldable pub log_leaves : RawLog → Leaves
log_leaves = fold-RawLog Leaves Leaves Leaves element_step branch_step log_step

unfoldable pub branch_leaves : RawBranch → Leaves
branch_leaves = fold-RawBranch Leaves Leaves Leaves element_step branch_step log_step

abbrev pub other_leaves : Option (List RawElement) → Leaves
other_leaves None = []
other_leaves (Some elements) = flat_map element_leaves elements

abbrev pub statement_leaves : Statement → Leaves
statement_leaves (statement.Object one) = Leaf.object one ∷ []
statement_leaves (statement.Log log) = log_leaves log

unfoldable pub leaves_of : List Statement → Leaves
leaves_of statements = flat_map statement_leaves statements
