-- Destinations that log statements name are there.
use Rattle.std.proofs.Common.{ℕ, ◌<◌, List, [], ◌∷◌, map, length, Option, Some, None, sym, subst}
use Rattle.std.specs.Option.{option_to_list}
use Rattle.std.specs.List.{AllByRecursion}
use Rattle.sg_parse_expr.specs.declared.tree.Call.{Call}
use Rattle.sg_parse_path.specs.declared.tree.RawElement.{RawElement, roll-RawElement, fold-roll-RawElement}
use Rattle.sg_parse_path.specs.declared.tree.RawElement.TheOpen.{RawElement-F, RawLog-F, RawBranch-F}
use Rattle.sg_parse_path.specs.declared.tree.RawElement.TheFolds.{map-RawElement}
use Rattle.sg_parse_path.specs.declared.tree.RawLog.{RawLog, roll-RawLog, fold-roll-RawLog, ind-RawLog, map-RawLog}
use Rattle.sg_parse_path.specs.declared.tree.RawBranch.{RawBranch, roll-RawBranch, fold-roll-RawBranch, map-RawBranch}
use Rattle.sg_filter.specs.Decisions.{Decision}
use Rattle.sg_filter.specs.declared.expr.Expr.{Expr}
use Rattle.sg_parsers.specs.declared.rule.ParserRule.{ParserRule}
use Rattle.sg_tree.specs.Walk as walk
use Rattle.sg_tree.specs.Walk.{Marks, Steps, none_left}
use Rattle.sg_tree.specs.Plain.{in_front}
use Rattle.sg_tree.specs.Laws.{AreDestNumbers, StaysWithin, AllStayWithin, EachStaysWithin, TopsStayWithin}
use Rattle.sg_table.specs.Table.{siblings_of, choice_of}
use Rattle.sg_names.specs.declared.names.Names.{Names}
use Rattle.sg_plan.specs.declared.owner.Owner.{Owner}
use Rattle.sg_plan.specs.declared.ends.Endpoints.{Endpoints}
use Rattle.sg_plan.specs.Owners.{owner_of, numbers_of}
use Rattle.sg_plan.proofs.Numbers.{are-within}
use Rattle.sg_lower.specs.Parsers.{rule_by as parser_by}
use Rattle.sg_forest.specs.Written.{WrittenRule, written_in, rule_by}
use Rattle.sg_forest.specs.Steps.{Onward, rewrite_steps, parsers_steps, embedded_logs, element_step, branch_step, log_step, element_steps, branch_steps, log_steps}
use Rattle.sg_forest.specs.Statements.{top_in}

to-dests : (d : ℕ) (ns : List ℕ) → AllByRecursion (λ n. n < d) ns → AreDestNumbers d ns
to-dests d [] h = tt
to-dests d (n ∷ ns) h = (h.0, to-dests d ns h.1)

module _ (names : Names) (outlets : List Owner) (rewrites : List (List Call)) (named : List Expr) where
  abbrev d : ℕ
  d = length outlets

  abbrev ChoicesWithin : Type 0
  ChoicesWithin = Decision × Steps

  abbrev OwnSteps : Type 0
  OwnSteps = Marks × Steps

  abbrev StaysElement : RawElement → Type 0
  StaysElement e = (rest : Steps) → StaysWithin d rest → StaysWithin d (element_steps names outlets rewrites named e rest)

  abbrev StaysBranch : RawBranch → Type 0
  StaysBranch b = StaysWithin d (branch_steps names outlets rewrites named b).1

  abbrev StaysLog : RawLog → Type 0
  StaysLog l = StaysWithin d (log_steps names outlets rewrites named l).1

  abbrev SomeElement : Type 0
  SomeElement = (e : RawElement) × StaysElement e

  abbrev SomeBranch : Type 0
  SomeBranch = (b : RawBranch) × StaysBranch b

  abbrev SomeLog : Type 0
  SomeLog = (l : RawLog) × StaysLog l

  written-stay : (ws : List WrittenRule) (rest : Steps) → StaysWithin d rest → StaysWithin d (in_front (map (λ (w : WrittenRule). walk.rewrite (rule_by named w)) ws) rest)
  written-stay [] rest h = h
  written-stay (w ∷ ws) rest h = written-stay ws rest h

  calls-stay : (calls : List Call) (rest : Steps) → StaysWithin d rest → StaysWithin d (rewrite_steps names named calls rest)
  calls-stay [] rest h = h
  calls-stay (call ∷ calls) rest h = written-stay (written_in names call) (rewrite_steps names named calls rest) (calls-stay calls rest h)

  parser-stays : (rule : Option ParserRule) (rest : Steps) → StaysWithin d rest → StaysWithin d (in_front (map (λ (r : ParserRule). walk.parse r) (option_to_list rule)) rest)
  parser-stays None rest h = h
  parser-stays (Some rule) rest h = h

  parsers-stay : (calls : List Call) (rest : Steps) → StaysWithin d rest → StaysWithin d (parsers_steps calls rest)
  parsers-stay [] rest h = h
  parsers-stay (call ∷ calls) rest h = parser-stays (parser_by call) (parsers_steps calls rest) (parsers-stay calls rest h)

  elements-stay : (es : List SomeElement) (rest : Steps) → StaysWithin d rest → StaysWithin d (in_front (map (element_steps names outlets rewrites named) (map (λ e. e.0) es)) rest)
  elements-stay [] rest h = h
  elements-stay (e ∷ es) rest h = e.1 (in_front (map (element_steps names outlets rewrites named) (map (λ x. x.0) es)) rest) (elements-stay es rest h)

  logs-stay : (ls : List SomeLog) → AllStayWithin d (siblings_of (map (log_steps names outlets rewrites named) (map (λ l. l.0) ls)))
  logs-stay [] = tt
  logs-stay (l ∷ ls) = (l.1, logs-stay ls)

  embedded-stay : (ls : List SomeLog) → StaysWithin d (embedded_logs (map (log_steps names outlets rewrites named) (map (λ l. l.0) ls)))
  embedded-stay [] = tt
  embedded-stay (l ∷ ls) = logs-stay (l ∷ ls)

  choices-stay : (bs : List SomeBranch) (other : Steps) → StaysWithin d other → EachStaysWithin d (choice_of (map (branch_steps names outlets rewrites named) (map (λ b. b.0) bs)) other)
  choices-stay [] other h = h
  choices-stay (b ∷ bs) other h = (b.1, choices-stay bs other h)

  -- one layer
  element-layer : (y : RawElement-F SomeElement SomeBranch SomeLog) (rest : Steps) → StaysWithin d rest
      → StaysWithin d (element_step names outlets rewrites named
      (map-RawElement RawElement RawBranch RawLog Onward ChoicesWithin OwnSteps (element_steps names outlets rewrites named) (branch_steps names outlets rewrites named) (log_steps names outlets rewrites named)
      (map-RawElement SomeElement SomeBranch SomeLog RawElement RawBranch RawLog (λ e. e.0) (λ e. e.0) (λ e. e.0) y)) rest)
  element-layer (RawElement-F.Source word source) rest h = h
  element-layer (RawElement-F.Destination ref) rest h = (to-dests d (numbers_of outlets (owner_of ref)) (are-within outlets (owner_of ref)), h)
  element-layer (RawElement-F.Filter ref) rest h = h
  element-layer (RawElement-F.Rewrite ref) rest h = calls-stay _ rest h
  element-layer (RawElement-F.Parser ref) rest h = parsers-stay _ rest h
  element-layer (RawElement-F.Junction channels) rest h = (logs-stay channels, h)
  element-layer (RawElement-F.If branches None) rest h = (choices-stay branches none_left tt, h)
  element-layer (RawElement-F.If branches (Some other)) rest h = (choices-stay branches _ (elements-stay other none_left tt), h)

  element-whole : (y : RawElement-F SomeElement SomeBranch SomeLog)
      → StaysElement (roll-RawElement (map-RawElement SomeElement SomeBranch SomeLog RawElement RawBranch RawLog (λ e. e.0) (λ e. e.0) (λ e. e.0) y))
  unfolding element_steps branch_steps log_steps
  element-whole y rest h =
      subst (λ (f : Onward). StaysWithin d (f rest))
      (sym (fold-roll-RawElement Onward ChoicesWithin OwnSteps (element_step names outlets rewrites named) (branch_step names named) log_step
      (map-RawElement SomeElement SomeBranch SomeLog RawElement RawBranch RawLog (λ e. e.0) (λ e. e.0) (λ e. e.0) y)))
      (element-layer y rest h)

  branch-whole : (y : RawBranch-F SomeElement SomeBranch SomeLog)
      → StaysBranch (roll-RawBranch (map-RawBranch SomeElement SomeBranch SomeLog RawElement RawBranch RawLog (λ e. e.0) (λ e. e.0) (λ e. e.0) y))
  unfolding element_steps branch_steps log_steps
  branch-whole y =
      subst (λ (c : ChoicesWithin). StaysWithin d c.1)
      (sym (fold-roll-RawBranch Onward ChoicesWithin OwnSteps (element_step names outlets rewrites named) (branch_step names named) log_step
      (map-RawBranch SomeElement SomeBranch SomeLog RawElement RawBranch RawLog (λ e. e.0) (λ e. e.0) (λ e. e.0) y)))
      (elements-stay y.elements none_left tt)

  log-whole : (y : RawLog-F SomeElement SomeBranch SomeLog)
      → StaysLog (roll-RawLog (map-RawLog SomeElement SomeBranch SomeLog RawElement RawBranch RawLog (λ e. e.0) (λ e. e.0) (λ e. e.0) y))
  unfolding element_steps branch_steps log_steps
  log-whole y =
      subst (λ (c : OwnSteps). StaysWithin d c.1)
      (sym (fold-roll-RawLog Onward ChoicesWithin OwnSteps (element_step names outlets rewrites named) (branch_step names named) log_step
      (map-RawLog SomeElement SomeBranch SomeLog RawElement RawBranch RawLog (λ e. e.0) (λ e. e.0) (λ e. e.0) y)))
      (elements-stay y.elements _ (embedded-stay y.embedded))

  pub log-stays : (log : RawLog) → StaysLog log
  log-stays =
      ind-RawLog StaysElement StaysBranch StaysLog
      (λ x y is. subst (λ z. StaysElement (roll-RawElement z)) is (element-whole y))
      (λ x y is. subst (λ z. StaysBranch (roll-RawBranch z)) is (branch-whole y))
      (λ x y is. subst (λ z. StaysLog (roll-RawLog z)) is (log-whole y))

pub tops-stay : (names : Names) (ends : Endpoints) (rewrites : List (List Call)) (named : List Expr) (logs : List RawLog)
    → TopsStayWithin (length ends.outlets) (map (top_in names ends rewrites named) logs)
unfolding top_in
tops-stay names ends rewrites named [] = tt
tops-stay names ends rewrites named (log ∷ logs) = (log-stays names ends.outlets rewrites named log, tops-stay names ends rewrites named logs)
