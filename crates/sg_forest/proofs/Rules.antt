-- Rewrites as they are made.
use Rattle.std.proofs.Common.{◌≡◌, ◌∙◌, List, [], ◌∷◌, ◌++◌, map, Bool, true, false, Option, refl, sym, ap}
use Rattle.std.specs.Prelude.{cond}
use Rattle.std.proofs.lemmas.List.{append-nil}
use Rattle.sg_parse_expr.specs.declared.tree.Call.{Call}
use Rattle.sg_filter.specs.Patterns.{joined}
use Rattle.sg_filter.specs.declared.expr.Expr.{Expr}
use Rattle.sg_rewrite.specs.Ops.{change_of}
use Rattle.sg_rewrite.specs.declared.op.Op.{Op}
use Rattle.sg_rewrite.specs.declared.op.Op.TheVariants.{Set, Unset, Subst, GroupSet, GroupUnset, SetTag, ClearTag}
use Rattle.sg_tree.specs.Sound.{op_sound}
use Rattle.sg_tree.specs.Rules.{Rule, condition_of, rule_of}
use Rattle.sg_tree.specs.Walk as walk
use Rattle.sg_tree.specs.Walk.{Steps}
use Rattle.sg_tree.specs.Plain.{in_front}
use Rattle.sg_tree.specs.declared.sound.RewriteRule.{RewriteRule}
use Rattle.sg_tree.specs.declared.tree.Element.{Element, Rewrite}
use Rattle.sg_tree.proofs.Views.{view-Rewrite}
use Rattle.sg_table.specs.Patterns.{PatternTexts, condition_patterns, op_patterns, rule_patterns, rules_patterns}
use Rattle.sg_table.proofs.Patterned.{patterns-Rewrite}
use Rattle.sg_names.specs.declared.names.Names.{Names}
use Rattle.sg_options.specs.Settings.{args_of}
use Rattle.sg_lower.specs.Rewrites.{Meant, meant, meant_by, condition}
use Rattle.sg_forest.specs.Written.{WrittenRule, written_of, is_sound, written_in, change_by, rule_by, pattern_in, written_patterns}
use Rattle.sg_forest.specs.Steps.{call_steps}
use Rattle.sg_forest.specs.Patterns.{call_patterns}
use Rattle.sg_forest.specs.Adds.{AddsElements}
use Rattle.sg_forest.proofs.Adding.{adds-none, adds-one}

change-same : (op : Op) → change_of op ≡ change_by (meant op)
change-same (Set name text) = refl
change-same (Unset name) = refl
change-same (Subst name pattern text) = refl
change-same (GroupSet globs text) = refl
change-same (GroupUnset globs) = refl
change-same (SetTag tag) = refl
change-same (ClearTag tag) = refl

pattern-same : (op : Op) → op_patterns op ≡ pattern_in (meant op)
pattern-same (Set name text) = refl
pattern-same (Unset name) = refl
pattern-same (Subst name pattern text) = refl
pattern-same (GroupSet globs text) = refl
pattern-same (GroupUnset globs) = refl
pattern-same (SetTag tag) = refl
pattern-same (ClearTag tag) = refl

sound-same : (op : Op) → op_sound op ≡ is_sound (meant op)
sound-same (Set name text) = refl
sound-same (Unset name) = refl
sound-same (Subst name pattern text) = refl
sound-same (GroupSet globs text) = refl
sound-same (GroupUnset globs) = refl
sound-same (SetTag tag) = refl
sound-same (ClearTag tag) = refl

rule-same : (named : List Expr) (rule : RewriteRule) → rule_of named rule ≡ rule_by named (written_of rule)
rule-same named rule = ap (λ c. record { condition = condition_of named rule.condition; change = c }) (change-same rule.op)

patterns-same : (named : List Expr) (rule : RewriteRule) → rule_patterns named rule ≡ written_patterns named (written_of rule)
patterns-same named rule = ap (λ (q : PatternTexts). condition_patterns named rule.condition ++ q) (pattern-same rule.op)

pub rules-written : (named : List Expr) (rules : List RewriteRule) → rules_patterns named rules ≡ joined (map (written_patterns named) (map written_of rules))
rules-written named [] = refl
rules-written named (r ∷ rs) = λ i. patterns-same named r i ++ rules-written named rs i

abbrev written : Option Expr → Meant → WrittenRule
written test operation = record { condition = test; operation = operation }

chosen : (names : Names) (call : Call) (op : Op) (b : Bool) → meant op ≡ meant_by call → op_sound op ≡ b
    → written_in names call ≡ cond b (written (condition names (args_of call)) (meant_by call) ∷ []) []
chosen names call op b same sound =
    ap (λ (x : Bool). cond x (written (condition names (args_of call)) (meant_by call) ∷ []) []) (ap is_sound (sym same) ∙ sym (sound-same op) ∙ sound)

-- what a call's operation and condition come to
pub rule-made : (names : Names) (call : Call) (op : Op) (test : Option Expr) → meant op ≡ meant_by call → test ≡ condition names (args_of call) → op_sound op ≡ true
    → written test (meant op) ∷ [] ≡ written_in names call
rule-made names call op test same tests sound = (λ i. written (tests i) (same i) ∷ []) ∙ sym (chosen names call op true same sound)

pub rule-lost : (names : Names) (call : Call) (op : Op) → meant op ≡ meant_by call → op_sound op ≡ false → [] ≡ written_in names call
rule-lost names call op same sound = sym (chosen names call op false same sound)

module _ (names : Names) (named : List Expr) (call : Call) where
  pub call-made : (rule : RewriteRule) (old new : List Element) → written_of rule ∷ [] ≡ written_in names call → new ≡ old ++ Rewrite rule ∷ []
      → AddsElements named old new (call_steps names named call) (call_patterns names named call)
  call-made rule old new here is =
      adds-one named old new (Rewrite rule) (call_steps names named call) (call_patterns names named call) is
      (λ rest.
      view-Rewrite named rule rest
      ∙ ap (λ (r : Rule). walk.rewrite r rest) (rule-same named rule)
      ∙ ap (λ (ws : List WrittenRule). in_front (map (λ (w : WrittenRule). walk.rewrite (rule_by named w)) ws) rest) here)
      (patterns-Rewrite named rule
      ∙ patterns-same named rule
      ∙ sym (append-nil (written_patterns named (written_of rule)))
      ∙ ap (λ (ws : List WrittenRule). joined (map (written_patterns named) ws)) here)

  pub call-lost : (old : List Element) → [] ≡ written_in names call → AddsElements named old old (call_steps names named call) (call_patterns names named call)
  call-lost old here =
      adds-none named old (call_steps names named call) (call_patterns names named call)
      (ap (λ (ws : List WrittenRule). in_front (map (λ (w : WrittenRule). walk.rewrite (rule_by named w)) ws)) (sym here))
      (ap (λ (ws : List WrittenRule). joined (map (written_patterns named) ws)) (sym here))
