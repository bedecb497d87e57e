-- What log statements mean (syslog-ng's administration guide, "Log paths").
use Rattle.std.specs.Prelude.{List, [], ◌∷◌, map, Option, Some, None, codes}
use Rattle.std.specs.Option.{option_to_list}
use Rattle.sg_parse_base.specs.declared.spot.Spot.{Spot}
use Rattle.sg_parse_expr.specs.declared.tree.Call.{Call}
use Rattle.sg_parse_path.specs.declared.tree.RawElement.{RawElement, fold-RawElement}
use Rattle.sg_parse_path.specs.declared.tree.RawElement.TheOpen.{RawElement-F, RawLog-F, RawBranch-F}
use Rattle.sg_parse_path.specs.declared.tree.RawLog.{RawLog, fold-RawLog}
use Rattle.sg_parse_path.specs.declared.tree.RawBranch.{RawBranch, fold-RawBranch}
use Rattle.sg_filter.specs.Decisions.{Decision, decision_of}
use Rattle.sg_filter.specs.declared.expr.Expr.{Expr}
use Rattle.sg_tree.specs.Walk as walk
use Rattle.sg_tree.specs.Walk.{Marks, Steps, none_left}
use Rattle.sg_tree.specs.Plain.{in_front}
use Rattle.sg_table.specs.Table.{siblings_of, choice_of}
use Rattle.sg_names.specs.declared.names.Names.{Names}
use Rattle.sg_plan.specs.declared.owner.Owner.{Owner}
use Rattle.sg_plan.specs.Owners.{owner_of, numbers_of}
use Rattle.sg_options.specs.Settings.{has_word}
use Rattle.sg_lower.specs.Expressions.{expression}
use Rattle.sg_forest.specs.Written.{written_in, rule_by}
use Rattle.sg_lower.specs.Parsers.{rule_by as parser_by}
use Rattle.sg_forest.specs.References.{filter_meant, calls_meant, parsers_meant}

-- what stands in front of other elements
abbrev pub Onward : Type 0
Onward = Steps → Steps

-- a rewrite, where it stands for one
abbrev pub call_steps : Names → List Expr → Call → Onward
call_steps names named call = in_front
    (map (λ written. walk.rewrite (rule_by named written)) (written_in names call))

-- those of a statement or an element, one after another
abbrev pub rewrite_steps : Names → List Expr → List Call → Onward
rewrite_steps names named calls = in_front (map (call_steps names named) calls)

-- a parser, where it stands for one
abbrev pub parser_steps : Call → Onward
parser_steps call = in_front (map (λ rule. walk.parse rule) (option_to_list (parser_by call)))

-- those of a statement or an element, one after another
abbrev pub parsers_steps : List Call → Onward
parsers_steps calls = in_front (map parser_steps calls)

abbrev pub other_branch : Option (List Onward) → Steps
other_branch None = none_left
other_branch (Some elements) = in_front elements none_left

-- what stands behind the last element
abbrev pub embedded_logs : List (Marks × Steps) → Steps
embedded_logs [] = none_left
embedded_logs (log ∷ logs) = walk.embedded (siblings_of (log ∷ logs))

abbrev pub marks_of : List Spot → Marks
marks_of flags = record {
  is_final = has_word (codes "final") flags;
  fallback = has_word (codes "fallback") flags;
  flow = has_word (codes "flow-control") flags;
  drop_unmatched = has_word (codes "drop-unmatched") flags;
}

-- One layer, with what it holds in its place. Destinations are numbered by their drivers, of which `outlets` has the statements; a source
-- stands for nothing here.
abbrev pub element_step : Names → List Owner → List (List Call) → List Expr
    → RawElement-F Onward (Decision × Steps) (Marks × Steps) → Onward
element_step names outlets rewrites named (RawElement-F.Source word source) rest = rest
element_step names outlets rewrites named (RawElement-F.Destination destination) rest =
    walk.deliver (numbers_of outlets (owner_of destination)) rest
element_step names outlets rewrites named (RawElement-F.Filter reference) rest =
    walk.filter (decision_of named (filter_meant names reference)) rest
element_step names outlets rewrites named (RawElement-F.Rewrite reference) rest =
    rewrite_steps names named (calls_meant names rewrites reference) rest
element_step names outlets rewrites named (RawElement-F.Parser reference) rest =
    parsers_steps (parsers_meant names rewrites reference) rest
element_step names outlets rewrites named (RawElement-F.Junction channels) rest =
    walk.junction (siblings_of channels) rest
element_step names outlets rewrites named (RawElement-F.If branches other) rest =
    walk.choose (choice_of branches (other_branch other)) rest

abbrev pub branch_step : Names → List Expr → RawBranch-F Onward (Decision × Steps) (Marks × Steps)
    → Decision × Steps
branch_step names named branch = (
  decision_of named (expression names branch.test),
  in_front
      branch.elements none_left,
)

abbrev pub log_step : RawLog-F Onward (Decision × Steps) (Marks × Steps) → Marks × Steps
log_step log = (marks_of log.flags, in_front log.elements (embedded_logs log.embedded))

unfoldable pub element_steps : Names → List Owner → List (List Call) → List Expr → RawElement
    → Onward
element_steps names outlets rewrites named =
    fold-RawElement Onward (Decision × Steps) (Marks × Steps)
    (element_step names outlets rewrites named) (branch_step names named) log_step

unfoldable pub branch_steps : Names → List Owner → List (List Call) → List Expr → RawBranch
    → Decision × Steps
branch_steps names outlets rewrites named =
    fold-RawBranch Onward (Decision × Steps) (Marks × Steps)
    (element_step names outlets rewrites named) (branch_step names named) log_step

-- a statement or channel: its flags, and its elements
unfoldable pub log_steps : Names → List Owner → List (List Call) → List Expr → RawLog
    → Marks × Steps
log_steps names outlets rewrites named =
    fold-RawLog Onward (Decision × Steps) (Marks × Steps)
    (element_step names outlets rewrites named) (branch_step names named) log_step

abbrev pub elements_steps : Names → List Owner → List (List Call) → List Expr → List RawElement
    → Onward
elements_steps names outlets rewrites named elements = in_front
    (map (element_steps names outlets rewrites named) elements)
