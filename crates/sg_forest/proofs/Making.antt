-- What is made of each element, branch and statement.
use Rattle.std.proofs.Common.{◌≡◌, ◌∙◌, ℕ, List, [], ◌∷◌, ◌++◌, map, Bool, Option, Some, None, Vec, refl, sym, ap, subst}
use Rattle.std.specs.Prelude.{codes}
use Rattle.std.specs.declared.alloc.Global.{Global}
use Rattle.sg_parse_base.specs.declared.spot.Spot.{Spot}
use Rattle.sg_parse_expr.specs.declared.tree.Call.{Call}
use Rattle.sg_parse_path.specs.declared.tree.RawRef.{RawRef}
use Rattle.sg_parse_path.specs.declared.tree.RawElement.{RawElement}
use Rattle.sg_parse_path.specs.declared.tree.RawElement.TheVariants as e
use Rattle.sg_parse_path.specs.declared.tree.RawLog.{RawLog, out-RawLog}
use Rattle.sg_parse_path.specs.declared.tree.RawBranch.{RawBranch, out-RawBranch}
use Rattle.sg_filter.specs.Decisions.{decision_of}
use Rattle.sg_filter.specs.Patterns.{patterns_of}
use Rattle.sg_filter.specs.declared.expr.Expr.{Expr}
use Rattle.sg_tree.specs.declared.tree.Element.{Element, Filter, Deliver, Junction, If}
use Rattle.sg_tree.specs.declared.tree.Element.TheOpen.{Path-F}
use Rattle.sg_tree.specs.declared.tree.Path.{Path, out-Path, roll-Path, out-roll-Path}
use Rattle.sg_tree.specs.Walk as walk
use Rattle.sg_tree.specs.Walk.{Marks, Steps, Siblings, Choice, none_left}
use Rattle.sg_tree.specs.Plain as plain
use Rattle.sg_tree.specs.Plain.{behind, path_view, marks}
use Rattle.sg_tree.proofs.Views.{view-Filter, view-Deliver, view-Junction, view-If}
use Rattle.sg_table.specs.Table.{siblings_of, choice_of}
use Rattle.sg_table.specs.Compiled.{own, other_steps}
use Rattle.sg_table.specs.Patterns as table
use Rattle.sg_table.specs.Patterns.{PatternTexts}
use Rattle.sg_table.proofs.Parts.{siblings-own, choices-own}
use Rattle.sg_table.proofs.Patterned.{patterns-Filter, patterns-Deliver, patterns-Junction, patterns-If, patterns-Path}
use Rattle.sg_names.specs.declared.names.Names.{Names}
use Rattle.sg_plan.specs.declared.owner.Owner.{Owner}
use Rattle.sg_plan.specs.Owners.{owner_of, numbers_of}
use Rattle.sg_options.specs.Settings.{has_word}
use Rattle.sg_parse_base.specs.Input.{spot_line}
use Rattle.sg_forest.specs.Statements.{line_in}
use Rattle.sg_lower.specs.Expressions.{expression}
use Rattle.sg_forest.specs.References.{filter_meant, calls_meant, parsers_meant, flags_of}
use Rattle.sg_forest.specs.Steps.{rewrite_steps, parsers_steps, embedded_logs, marks_of, element_steps, elements_steps}
use Rattle.sg_forest.specs.Patterns.{rewrite_patterns, element_patterns}
use Rattle.sg_forest.specs.Adds.{AddsElements, AddsElement, AreElements, IsBranch, AreBranches, IsLoweredLog, AreLogs}
use Rattle.sg_forest.proofs.Adding.{adds-none, adds-one, adds-same}
use Rattle.sg_forest.proofs.PathEquations.{other_steps_in, other_patterns_in, steps_source, steps_destination, steps_filter, steps_rewrite, steps_parser, steps_junction, steps_if, steps_branch, steps_log, patterns_source, patterns_destination, patterns_filter, patterns_rewrite, patterns_parser, patterns_junction, patterns_if, patterns_branch, patterns_log}

abbrev pub marks_by : Bool → Bool → Bool → Bool → Marks
marks_by is_final fallback flow drop_unmatched = record { is_final = is_final; fallback = fallback; flow = flow; drop_unmatched = drop_unmatched }

behind-own : (named : List Expr) (ps : List Path) → behind (map (path_view named) ps) ≡ embedded_logs (map (own named) ps)
behind-own named [] = refl
behind-own named (p ∷ ps) = ap walk.embedded (sym (siblings-own named (p ∷ ps)))

flags-are : (flags : List Spot) (log : RawLog) → flags ≡ (out-RawLog log).flags → flags ≡ flags_of log
unfolding flags_of
flags-are flags log is = is

pub marks-rolled : (flags : List Spot) (log : RawLog) → flags ≡ (out-RawLog log).flags → (is_final fallback flow drop_unmatched : Bool)
    → is_final ≡ has_word (codes "final") flags → fallback ≡ has_word (codes "fallback") flags → flow ≡ has_word (codes "flow-control") flags
    → drop_unmatched ≡ has_word (codes "drop-unmatched") flags
    → marks_by is_final fallback flow drop_unmatched ≡ marks_of (flags_of log)
marks-rolled flags log is is_final fallback flow drop_unmatched a b c d = (λ i. marks_by (a i) (b i) (c i) (d i)) ∙ ap marks_of (flags-are flags log is)

pub catchall-rolled : (layer : Path-F Element Path) (log : RawLog) (flags : List Spot) → flags ≡ (out-RawLog log).flags → layer.catchall ≡ has_word (codes "catchall") flags
    → (out-Path (roll-Path layer)).catchall ≡ has_word (codes "catchall") (flags_of log)
catchall-rolled layer log flags is has = ap (λ (x : Path-F Element Path). x.catchall) (out-roll-Path layer) ∙ has ∙ ap (has_word (codes "catchall")) (flags-are flags log is)

pub line-rolled : (layer : Path-F Element Path) (log : RawLog) → layer.line ≡ spot_line (out-RawLog log).word → (out-Path (roll-Path layer)).line ≡ line_in log
unfolding line_in
line-rolled layer log is = ap (λ (x : Path-F Element Path). x.line) (out-roll-Path layer) ∙ is

module _ (names : Names) (outlets : List Owner) (rewrites : List (List Call)) where
  pub branch-made : (made : Expr × Vec Element Global) (branch : RawBranch) → made.0 ≡ expression names (out-RawBranch branch).test
      → AreElements names outlets rewrites (out-RawBranch branch).elements made.1.items → IsBranch names outlets rewrites branch made
  branch-made made branch test els named = (
    (λ i. (decision_of named (test i), (els named).steps_are none_left i)) ∙ sym (steps_branch names outlets rewrites named branch),
    (λ i. patterns_of named (test i) ++ (els named).patterns_are i) ∙ sym (patterns_branch names outlets rewrites named branch),
  )

  pub log-made : (path : Path) (log : RawLog) → marks path ≡ marks_of (flags_of log)
      → AreElements names outlets rewrites (out-RawLog log).elements (out-Path path).elements.items
      → AreLogs names outlets rewrites (out-RawLog log).embedded (out-Path path).embedded.items
      → IsLoweredLog names outlets rewrites log path
  log-made path log marked els logs named =
      let rest : Steps = behind (map (path_view named) (out-Path path).embedded.items) in
      let after : rest ≡ _ = behind-own named (out-Path path).embedded.items ∙ ap embedded_logs (logs named).0 in
      let steps = (els named).steps_are rest ∙ ap (elements_steps names outlets rewrites named (out-RawLog log).elements) after in (
        (λ i. (marked i, steps i)) ∙ sym (steps_log names outlets rewrites named log),
        patterns-Path named path ∙ (λ i. (els named).patterns_are i ++ (logs named).1 i) ∙ sym (patterns_log names outlets rewrites named log),
      )

  pub log-rolled : (layer : Path-F Element Path) (log : RawLog) → plain.marks_of layer ≡ marks_of (flags_of log)
      → AreElements names outlets rewrites (out-RawLog log).elements layer.elements.items
      → AreLogs names outlets rewrites (out-RawLog log).embedded layer.embedded.items
      → IsLoweredLog names outlets rewrites log (roll-Path layer)
  log-rolled layer log marked els logs =
      let opened : out-Path (roll-Path layer) ≡ layer = out-roll-Path layer in
      log-made (roll-Path layer) log (ap plain.marks_of opened ∙ marked)
      (subst (λ (x : Path-F Element Path). AreElements names outlets rewrites (out-RawLog log).elements x.elements.items) (sym opened) els)
      (subst (λ (x : Path-F Element Path). AreLogs names outlets rewrites (out-RawLog log).embedded x.embedded.items) (sym opened) logs)

  module _ (element : RawElement) (old : List Element) where
    pub source-adds : (word : Spot) (ref : RawRef) → element ≡ e.Source word ref → AddsElement names outlets rewrites element old old
    source-adds word ref is named =
        adds-none named old _ _
        (ap (element_steps names outlets rewrites named) is ∙ steps_source names outlets rewrites named word ref)
        (ap (element_patterns names rewrites named) is ∙ patterns_source names outlets rewrites named word ref)

    module _ (new : List Element) where
      pub destination-adds : (ref : RawRef) (drivers : Vec ℕ Global) → element ≡ e.Destination ref → drivers.items ≡ numbers_of outlets (owner_of ref)
          → new ≡ old ++ Deliver drivers ∷ [] → AddsElement names outlets rewrites element old new
      destination-adds ref drivers is numbers pushed named =
          let whole = ap (element_steps names outlets rewrites named) is ∙ steps_destination names outlets rewrites named ref in
          let patterns = ap (element_patterns names rewrites named) is ∙ patterns_destination names outlets rewrites named ref in
          adds-one named old new (Deliver drivers) _ _ pushed
          (λ rest. view-Deliver named drivers rest ∙ ap (λ (ns : List ℕ). walk.deliver ns rest) numbers ∙ ap (λ (f : Steps → Steps). f rest) (sym whole))
          (patterns-Deliver named drivers ∙ sym patterns)

      pub filter-adds : (ref : RawRef) (expr : Expr) → element ≡ e.Filter ref → expr ≡ filter_meant names ref
          → new ≡ old ++ Filter expr ∷ [] → AddsElement names outlets rewrites element old new
      filter-adds ref expr is meant pushed named =
          let whole = ap (element_steps names outlets rewrites named) is ∙ steps_filter names outlets rewrites named ref in
          let patterns = ap (element_patterns names rewrites named) is ∙ patterns_filter names outlets rewrites named ref in
          adds-one named old new (Filter expr) _ _ pushed
          (λ rest. view-Filter named expr rest ∙ ap (λ (x : Expr). walk.filter (decision_of named x) rest) meant ∙ ap (λ (f : Steps → Steps). f rest) (sym whole))
          (patterns-Filter named expr ∙ ap (patterns_of named) meant ∙ sym patterns)

      pub rewrite-adds : (ref : RawRef) (calls : List Call) → element ≡ e.Rewrite ref → calls ≡ calls_meant names rewrites ref
          → ((named : List Expr) → AddsElements named old new (rewrite_steps names named calls) (rewrite_patterns names named calls)) → AddsElement names outlets rewrites element old new
      rewrite-adds ref calls is meant adds named =
          let whole = ap (element_steps names outlets rewrites named) is ∙ steps_rewrite names outlets rewrites named ref in
          let patterns = ap (element_patterns names rewrites named) is ∙ patterns_rewrite names outlets rewrites named ref in
          adds-same named old new _ _ _ _ (ap (rewrite_steps names named) meant ∙ sym whole) (ap (rewrite_patterns names named) meant ∙ sym patterns) (adds named)

      pub parser-adds : (ref : RawRef) (calls : List Call) → element ≡ e.Parser ref → calls ≡ parsers_meant names rewrites ref
          → ((named : List Expr) → AddsElements named old new (parsers_steps calls) []) → AddsElement names outlets rewrites element old new
      parser-adds ref calls is meant adds named =
          let whole = ap (element_steps names outlets rewrites named) is ∙ steps_parser names outlets rewrites named ref in
          let patterns = ap (element_patterns names rewrites named) is ∙ patterns_parser names outlets rewrites named ref in
          adds-same named old new _ _ _ _ (ap parsers_steps meant ∙ sym whole) (sym patterns) (adds named)

      pub junction-adds : (channels : List RawLog) (paths : Vec Path Global) → element ≡ e.Junction channels → AreLogs names outlets rewrites channels paths.items
          → new ≡ old ++ Junction paths ∷ [] → AddsElement names outlets rewrites element old new
      junction-adds channels paths is logs pushed named =
          let whole = ap (element_steps names outlets rewrites named) is ∙ steps_junction names outlets rewrites named channels in
          let patterns = ap (element_patterns names rewrites named) is ∙ patterns_junction names outlets rewrites named channels in
          adds-one named old new (Junction paths) _ _ pushed
          (λ rest.
          view-Junction named paths rest
          ∙ ap (λ (s : Siblings). walk.junction s rest) (sym (siblings-own named paths.items) ∙ ap siblings_of (logs named).0)
          ∙ ap (λ (f : Steps → Steps). f rest) (sym whole))
          (patterns-Junction named paths ∙ (logs named).1 ∙ sym patterns)

      if-adds : (branches : List RawBranch) (other : Option (List RawElement)) (tests : Vec (Expr × Vec Element Global) Global) (rest : Option (Vec Element Global))
          → element ≡ e.If branches other → AreBranches names outlets rewrites branches tests.items
          → ((named : List Expr) → (other_steps named rest ≡ other_steps_in names outlets rewrites named other) × (table.other_patterns named rest ≡ other_patterns_in names rewrites named other))
          → new ≡ old ++ If tests rest ∷ [] → AddsElement names outlets rewrites element old new
      if-adds branches other tests rest is made others pushed named =
          let whole = ap (element_steps names outlets rewrites named) is ∙ steps_if names outlets rewrites named branches other in
          let patterns = ap (element_patterns names rewrites named) is ∙ patterns_if names outlets rewrites named branches other in
          let choice : _ ≡ _ = sym (choices-own named tests.items rest) ∙ (λ i. choice_of ((made named).0 i) ((others named).0 i)) in
          adds-one named old new (If tests rest) _ _ pushed
          (λ more. view-If named tests rest more ∙ ap (λ (c : Choice). walk.choose c more) choice ∙ ap (λ (f : Steps → Steps). f more) (sym whole))
          (patterns-If named tests rest ∙ (λ i. (made named).1 i ++ (others named).1 i) ∙ sym patterns)

      pub else-adds : (branches : List RawBranch) (elements : List RawElement) (tests : Vec (Expr × Vec Element Global) Global) (rest : Vec Element Global)
          → element ≡ e.If branches (Some elements) → AreBranches names outlets rewrites branches tests.items → AreElements names outlets rewrites elements rest.items
          → new ≡ old ++ If tests (Some rest) ∷ [] → AddsElement names outlets rewrites element old new
      else-adds branches elements tests rest is made els pushed =
          if-adds branches (Some elements) tests (Some rest) is made (λ named. ((els named).steps_are none_left, (els named).patterns_are)) pushed

      pub ifs-add : (branches : List RawBranch) (tests : Vec (Expr × Vec Element Global) Global)
          → element ≡ e.If branches None → AreBranches names outlets rewrites branches tests.items
          → new ≡ old ++ If tests None ∷ [] → AddsElement names outlets rewrites element old new
      ifs-add branches tests is made pushed = if-adds branches None tests None is made (λ named. (refl, refl)) pushed
