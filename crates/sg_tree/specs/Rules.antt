-- Rewrites with their conditions.
use Rattle.std.specs.Prelude.{Bool, true, if◌then◌else◌, List, Option, None, Some, option_map}
use Rattle.sg_msg.specs.Message.{Content}
use Rattle.sg_filter.specs.Decisions.{Decision, decides, decision_of}
use Rattle.sg_filter.specs.declared.expr.Expr.{Expr}
use Rattle.sg_rewrite.specs.declared.change.Change.{Change}
use Rattle.sg_rewrite.specs.Ops.{change_of}
use Rattle.sg_rewrite.specs.Rewritten.{rewritten}
use Rattle.sg_tree.specs.declared.sound.RewriteRule.{RewriteRule}

-- what a message must meet, if anything, and what becomes of it then
pub record Rule : Type 0 where
  pub condition : Option Decision
  pub change : Change

-- its condition, in which a name means the expression at its place of the list
abbrev pub condition_of : List Expr → Option Expr → Option Decision
condition_of named condition = option_map (decision_of named) condition

abbrev pub rule_of : List Expr → RewriteRule → Rule
rule_of named rule = record {
  condition = condition_of named rule.condition;
  change = change_of rule.op;
}

-- a missing condition holds
abbrev pub passes : Option Decision → Content → Bool
passes None message = true
passes (Some decision) message = decides decision message

abbrev pub rewritten_by : Rule → Content → Content
rewritten_by rule message = if passes rule.condition message then rewritten rule.change message
    else message
