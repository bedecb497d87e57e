-- The equations of log statements.
use Rattle.std.proofs.Common.{◌≡◌, List, [], ◌++◌, map, Option, Some, None, sym, ap, ◌∙◌}
use Rattle.sg_parse_base.specs.declared.spot.Spot.{Spot}
use Rattle.sg_parse_expr.specs.declared.tree.Call.{Call}
use Rattle.sg_parse_path.specs.declared.tree.RawRef.{RawRef}
use Rattle.sg_parse_path.specs.declared.tree.RawElement.{RawElement, fold-roll-RawElement}
use Rattle.sg_parse_path.specs.declared.tree.RawElement.TheOpen.{RawElement-F}
use Rattle.sg_parse_path.specs.declared.tree.RawElement.TheVariants as e
use Rattle.sg_parse_path.specs.declared.tree.RawElement.TheVariants.{rolls-Source, rolls-Destination, rolls-Filter, rolls-Rewrite, rolls-Parser, rolls-Junction, rolls-If}
use Rattle.sg_parse_path.specs.declared.tree.RawLog.{RawLog, out-RawLog, fold_out-RawLog}
use Rattle.sg_parse_path.specs.declared.tree.RawBranch.{RawBranch, out-RawBranch, fold_out-RawBranch}
use Rattle.sg_filter.specs.Decisions.{Decision, decision_of}
use Rattle.sg_filter.specs.Patterns.{patterns_of}
use Rattle.sg_filter.specs.declared.expr.Expr.{Expr}
use Rattle.sg_tree.specs.Walk as walk
use Rattle.sg_tree.specs.Walk.{Marks, Steps, none_left}
use Rattle.sg_table.specs.Table.{siblings_of, choice_of}
use Rattle.sg_table.specs.Patterns.{PatternTexts}
use Rattle.sg_names.specs.declared.names.Names.{Names}
use Rattle.sg_plan.specs.declared.owner.Owner.{Owner}
use Rattle.sg_plan.specs.Owners.{owner_of, numbers_of}
use Rattle.sg_lower.specs.Expressions.{expression}
use Rattle.sg_forest.specs.References.{filter_meant, calls_meant, parsers_meant, flags_of}
use Rattle.sg_forest.specs.Steps.{Onward, rewrite_steps, parsers_steps, embedded_logs, marks_of, element_step, branch_step, log_step, element_steps, branch_steps, log_steps, elements_steps}
use Rattle.sg_forest.specs.Patterns as pat
use Rattle.sg_forest.specs.Patterns.{rewrite_patterns, element_patterns, branch_patterns, log_patterns, elements_patterns, branches_patterns, logs_patterns}

abbrev pub other_steps_in : Names → List Owner → List (List Call) → List Expr → Option (List RawElement) → Steps
other_steps_in names outlets rewrites named None = none_left
other_steps_in names outlets rewrites named (Some elements) = elements_steps names outlets rewrites named elements none_left

abbrev pub other_patterns_in : Names → List (List Call) → List Expr → Option (List RawElement) → PatternTexts
other_patterns_in names rewrites named None = []
other_patterns_in names rewrites named (Some elements) = elements_patterns names rewrites named elements

module _ (names : Names) (outlets : List Owner) (rewrites : List (List Call)) (named : List Expr) where
  pub steps_source : (word : Spot) (source : RawRef) → element_steps names outlets rewrites named (e.Source word source) ≡ (λ rest. rest)
  unfolding element_steps
  steps_source word source = ap (element_steps names outlets rewrites named) (sym (rolls-Source word source)) ∙ fold-roll-RawElement Onward (Decision × Steps) (Marks × Steps) (element_step names outlets rewrites named) (branch_step names named) log_step (RawElement-F.Source word source)

  pub steps_destination : (ref : RawRef) → element_steps names outlets rewrites named (e.Destination ref) ≡ walk.deliver (numbers_of outlets (owner_of ref))
  unfolding element_steps
  steps_destination ref = ap (element_steps names outlets rewrites named) (sym (rolls-Destination ref)) ∙ fold-roll-RawElement Onward (Decision × Steps) (Marks × Steps) (element_step names outlets rewrites named) (branch_step names named) log_step (RawElement-F.Destination ref)

  pub steps_filter : (ref : RawRef) → element_steps names outlets rewrites named (e.Filter ref) ≡ walk.filter (decision_of named (filter_meant names ref))
  unfolding element_steps
  steps_filter ref = ap (element_steps names outlets rewrites named) (sym (rolls-Filter ref)) ∙ fold-roll-RawElement Onward (Decision × Steps) (Marks × Steps) (element_step names outlets rewrites named) (branch_step names named) log_step (RawElement-F.Filter ref)

  pub steps_rewrite : (ref : RawRef) → element_steps names outlets rewrites named (e.Rewrite ref) ≡ rewrite_steps names named (calls_meant names rewrites ref)
  unfolding element_steps
  steps_rewrite ref = ap (element_steps names outlets rewrites named) (sym (rolls-Rewrite ref)) ∙ fold-roll-RawElement Onward (Decision × Steps) (Marks × Steps) (element_step names outlets rewrites named) (branch_step names named) log_step (RawElement-F.Rewrite ref)

  pub steps_parser : (ref : RawRef) → element_steps names outlets rewrites named (e.Parser ref) ≡ parsers_steps (parsers_meant names rewrites ref)
  unfolding element_steps
  steps_parser ref = ap (element_steps names outlets rewrites named) (sym (rolls-Parser ref)) ∙ fold-roll-RawElement Onward (Decision × Steps) (Marks × Steps) (element_step names outlets rewrites named) (branch_step names named) log_step (RawElement-F.Parser ref)

  pub steps_junction : (channels : List RawLog) → element_steps names outlets rewrites named (e.Junction channels) ≡ walk.junction (siblings_of (map (log_steps names outlets rewrites named) channels))
  unfolding element_steps log_steps
  steps_junction channels = ap (element_steps names outlets rewrites named) (sym (rolls-Junction channels)) ∙ fold-roll-RawElement Onward (Decision × Steps) (Marks × Steps) (element_step names outlets rewrites named) (branch_step names named) log_step (RawElement-F.Junction channels)

  pub steps_if : (branches : List RawBranch) (other : Option (List RawElement))
      → element_steps names outlets rewrites named (e.If branches other) ≡ walk.choose (choice_of (map (branch_steps names outlets rewrites named) branches) (other_steps_in names outlets rewrites named other))
  unfolding element_steps branch_steps
  steps_if branches None = ap (element_steps names outlets rewrites named) (sym (rolls-If branches None)) ∙ fold-roll-RawElement Onward (Decision × Steps) (Marks × Steps) (element_step names outlets rewrites named) (branch_step names named) log_step (RawElement-F.If branches None)
  steps_if branches (Some other) = ap (element_steps names outlets rewrites named) (sym (rolls-If branches (Some other))) ∙ fold-roll-RawElement Onward (Decision × Steps) (Marks × Steps) (element_step names outlets rewrites named) (branch_step names named) log_step (RawElement-F.If branches (Some other))

  pub steps_branch : (branch : RawBranch) → branch_steps names outlets rewrites named branch ≡ (decision_of named (expression names (out-RawBranch branch).test), elements_steps names outlets rewrites named (out-RawBranch branch).elements none_left)
  unfolding element_steps branch_steps
  steps_branch branch = fold_out-RawBranch Onward (Decision × Steps) (Marks × Steps) (element_step names outlets rewrites named) (branch_step names named) log_step branch

  pub steps_log : (log : RawLog)
      → log_steps names outlets rewrites named log
      ≡ (marks_of (flags_of log), elements_steps names outlets rewrites named (out-RawLog log).elements (embedded_logs (map (log_steps names outlets rewrites named) (out-RawLog log).embedded)))
  unfolding element_steps log_steps flags_of
  steps_log log = fold_out-RawLog Onward (Decision × Steps) (Marks × Steps) (element_step names outlets rewrites named) (branch_step names named) log_step log

  pub patterns_source : (word : Spot) (source : RawRef) → element_patterns names rewrites named (e.Source word source) ≡ []
  unfolding element_patterns
  patterns_source word source = ap (element_patterns names rewrites named) (sym (rolls-Source word source)) ∙ fold-roll-RawElement PatternTexts PatternTexts PatternTexts (pat.element_step names rewrites named) (pat.branch_step names named) pat.log_step (RawElement-F.Source word source)

  pub patterns_destination : (ref : RawRef) → element_patterns names rewrites named (e.Destination ref) ≡ []
  unfolding element_patterns
  patterns_destination ref = ap (element_patterns names rewrites named) (sym (rolls-Destination ref)) ∙ fold-roll-RawElement PatternTexts PatternTexts PatternTexts (pat.element_step names rewrites named) (pat.branch_step names named) pat.log_step (RawElement-F.Destination ref)

  pub patterns_filter : (ref : RawRef) → element_patterns names rewrites named (e.Filter ref) ≡ patterns_of named (filter_meant names ref)
  unfolding element_patterns
  patterns_filter ref = ap (element_patterns names rewrites named) (sym (rolls-Filter ref)) ∙ fold-roll-RawElement PatternTexts PatternTexts PatternTexts (pat.element_step names rewrites named) (pat.branch_step names named) pat.log_step (RawElement-F.Filter ref)

  pub patterns_rewrite : (ref : RawRef) → element_patterns names rewrites named (e.Rewrite ref) ≡ rewrite_patterns names named (calls_meant names rewrites ref)
  unfolding element_patterns
  patterns_rewrite ref = ap (element_patterns names rewrites named) (sym (rolls-Rewrite ref)) ∙ fold-roll-RawElement PatternTexts PatternTexts PatternTexts (pat.element_step names rewrites named) (pat.branch_step names named) pat.log_step (RawElement-F.Rewrite ref)

  pub patterns_parser : (ref : RawRef) → element_patterns names rewrites named (e.Parser ref) ≡ []
  unfolding element_patterns
  patterns_parser ref = ap (element_patterns names rewrites named) (sym (rolls-Parser ref)) ∙ fold-roll-RawElement PatternTexts PatternTexts PatternTexts (pat.element_step names rewrites named) (pat.branch_step names named) pat.log_step (RawElement-F.Parser ref)

  pub patterns_junction : (channels : List RawLog) → element_patterns names rewrites named (e.Junction channels) ≡ logs_patterns names rewrites named channels
  unfolding element_patterns log_patterns
  patterns_junction channels = ap (element_patterns names rewrites named) (sym (rolls-Junction channels)) ∙ fold-roll-RawElement PatternTexts PatternTexts PatternTexts (pat.element_step names rewrites named) (pat.branch_step names named) pat.log_step (RawElement-F.Junction channels)

  pub patterns_if : (branches : List RawBranch) (other : Option (List RawElement))
      → element_patterns names rewrites named (e.If branches other) ≡ branches_patterns names rewrites named branches ++ other_patterns_in names rewrites named other
  unfolding element_patterns branch_patterns
  patterns_if branches None = ap (element_patterns names rewrites named) (sym (rolls-If branches None)) ∙ fold-roll-RawElement PatternTexts PatternTexts PatternTexts (pat.element_step names rewrites named) (pat.branch_step names named) pat.log_step (RawElement-F.If branches None)
  patterns_if branches (Some other) = ap (element_patterns names rewrites named) (sym (rolls-If branches (Some other))) ∙ fold-roll-RawElement PatternTexts PatternTexts PatternTexts (pat.element_step names rewrites named) (pat.branch_step names named) pat.log_step (RawElement-F.If branches (Some other))

  pub patterns_branch : (branch : RawBranch) → branch_patterns names rewrites named branch ≡ patterns_of named (expression names (out-RawBranch branch).test) ++ elements_patterns names rewrites named (out-RawBranch branch).elements
  unfolding element_patterns branch_patterns
  patterns_branch branch = fold_out-RawBranch PatternTexts PatternTexts PatternTexts (pat.element_step names rewrites named) (pat.branch_step names named) pat.log_step branch

  pub patterns_log : (log : RawLog) → log_patterns names rewrites named log ≡ elements_patterns names rewrites named (out-RawLog log).elements ++ logs_patterns names rewrites named (out-RawLog log).embedded
  unfolding element_patterns log_patterns
  patterns_log log = fold_out-RawLog PatternTexts PatternTexts PatternTexts (pat.element_step names rewrites named) (pat.branch_step names named) pat.log_step log
