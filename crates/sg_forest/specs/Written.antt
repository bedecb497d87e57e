-- Rewrites as they stand in log paths.
use Rattle.std.specs.Prelude.{Bool, true, if◌then◌else◌, List, [], ◌∷◌, ◌++◌, Option}
use Rattle.sg_pattern.specs.Pattern.{pattern_of}
use Rattle.sg_parse_expr.specs.declared.tree.Call.{Call}
use Rattle.sg_filter.specs.declared.expr.Expr.{Expr}
use Rattle.sg_rewrite.specs.declared.change.Change.{Change}
use Rattle.sg_rewrite.specs.declared.change.Change.TheVariants as change
use Rattle.sg_tree.specs.Sound.{name_sound}
use Rattle.sg_tree.specs.Rules.{Rule, condition_of}
use Rattle.sg_tree.specs.declared.sound.RewriteRule.{RewriteRule}
use Rattle.sg_table.specs.Patterns.{PatternTexts, condition_patterns}
use Rattle.sg_names.specs.declared.names.Names.{Names}
use Rattle.sg_options.specs.Settings.{args_of}
use Rattle.sg_lower.specs.Rewrites.{Meant, set, unset, subst_by, group_set, group_unset, set_tag, clear_tag, meant, meant_by, condition}

-- an operation, and the condition that a message must meet
pub record WrittenRule : Type 0 where
  pub condition : Option Expr
  pub operation : Meant

abbrev pub written_of : RewriteRule → WrittenRule
written_of rule = record { condition = rule.condition; operation = meant rule.op }

-- the name that it sets, unsets or searches is one that a pair may have
abbrev pub is_sound : Meant → Bool
is_sound (set name text) = name_sound name
is_sound (unset name) = name_sound name
is_sound (subst_by name pattern text) = name_sound name
is_sound (group_set globs text) = true
is_sound (group_unset globs) = true
is_sound (set_tag tag) = true
is_sound (clear_tag tag) = true

-- one whose name no pair may have, and so is refused, stands for nothing
abbrev pub written_in : Names → Call → List WrittenRule
written_in names call = if is_sound (meant_by call)
    then (record { condition = condition names (args_of call); operation = meant_by call }) ∷ []
    else []

-- what becomes of a message
abbrev pub change_by : Meant → Change
change_by (set name text) = change.Set name text
change_by (unset name) = change.Unset name
change_by (subst_by name pattern text) = change.Subst
    (record { name = name; matcher = pattern_of pattern; text = text })
change_by (group_set globs text) = change.GroupSet globs text
change_by (group_unset globs) = change.GroupUnset globs
change_by (set_tag tag) = change.SetTag tag
change_by (clear_tag tag) = change.ClearTag tag

abbrev pub rule_by : List Expr → WrittenRule → Rule
rule_by named written = record {
  condition = condition_of named written.condition;
  change = change_by written.operation;
}

abbrev pub pattern_in : Meant → PatternTexts
pattern_in (set name text) = []
pattern_in (unset name) = []
pattern_in (subst_by name pattern text) = pattern ∷ []
pattern_in (group_set globs text) = []
pattern_in (group_unset globs) = []
pattern_in (set_tag tag) = []
pattern_in (clear_tag tag) = []

abbrev pub written_patterns : List Expr → WrittenRule → PatternTexts
written_patterns named written = condition_patterns named written.condition
    ++ pattern_in written.operation
