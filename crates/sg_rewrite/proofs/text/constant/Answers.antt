use Rattle.std.proofs.Common.{◌≤◌, ℕ, List, length, sym, subst, ◌∙◌}
use Rattle.sg_rewrite.proofs.text.constant.Goals as goal

-- the text is the same over every message
pub returns : goal.returns
returns c = (
  subst (λ (bytes : List ℕ). length bytes ≤ 1048576) (sym c.in_ok-bytes.ensures) c.if-text-gt-VALUE_LIMIT.false,
  λ content env. c.in-Some.ensures.same content env ∙ sym c.in_ok-bytes.ensures,
)
