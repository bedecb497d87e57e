-- Parsers as they are made.
use Rattle.std.proofs.Common.{◌≡◌, ◌∙◌, List, [], ◌∷◌, ◌++◌, map, Option, Some, None, refl, sym, ap}
use Rattle.std.specs.Option.{option_to_list}
use Rattle.sg_parse_expr.specs.declared.tree.Call.{Call}
use Rattle.sg_parsers.specs.declared.rule.ParserRule.{ParserRule}
use Rattle.sg_filter.specs.Patterns.{joined}
use Rattle.sg_filter.specs.declared.expr.Expr.{Expr}
use Rattle.sg_tree.specs.Walk as walk
use Rattle.sg_tree.specs.Walk.{Steps}
use Rattle.sg_tree.specs.Plain.{in_front}
use Rattle.sg_tree.specs.declared.tree.Element.{Element, Parse}
use Rattle.sg_tree.proofs.Views.{view-Parse}
use Rattle.sg_table.specs.Patterns.{PatternTexts}
use Rattle.sg_table.proofs.Patterned.{patterns-Parse}
use Rattle.sg_lower.specs.Parsers.{rule_by}
use Rattle.sg_forest.specs.Steps.{parser_steps}
use Rattle.sg_forest.specs.Adds.{AddsElements}
use Rattle.sg_forest.proofs.Adding.{adds-none, adds-one}

-- parsers have no patterns
abbrev pub no_patterns : Call → PatternTexts
no_patterns call = []

pub joined-none : (calls : List Call) → joined (map no_patterns calls) ≡ []
joined-none [] = refl
joined-none (call ∷ calls) = joined-none calls

module _ (named : List Expr) (call : Call) where
  pub parser-made : (rule : ParserRule) (old new : List Element) → Some rule ≡ rule_by call → new ≡ old ++ Parse rule ∷ [] → AddsElements named old new (parser_steps call) []
  parser-made rule old new here is =
      adds-one named old new (Parse rule) (parser_steps call) [] is
      (λ rest. view-Parse named rule rest ∙ ap (λ (o : Option ParserRule). in_front (map (λ (r : ParserRule). walk.parse r) (option_to_list o)) rest) here)
      (patterns-Parse named rule)

  pub parser-lost : (old : List Element) → None ≡ rule_by call → AddsElements named old old (parser_steps call) []
  parser-lost old here = adds-none named old (parser_steps call) [] (ap (λ (o : Option ParserRule). in_front (map (λ (r : ParserRule). walk.parse r) (option_to_list o))) (sym here)) refl
