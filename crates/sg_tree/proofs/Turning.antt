-- The siblings of a round.
use Rattle.std.proofs.Common.{◌≡◌, Bool, true, false, refl, sym, ap, ◌∙◌}
use mathlib.Core.Bool.{beq}
use Rattle.std.specs.Prelude.{cond}
use Rattle.sg_tree.specs.Walk.{Marks, is_in_round}

pub same-turn : (late fallback : Bool) (mark : Marks) → mark.fallback ≡ fallback → beq fallback late ≡ is_in_round late mark
same-turn true true mark e = sym e
same-turn true false mark e = sym e
same-turn false true mark e = sym (ap (λ (x : Bool). cond x false true) e)
same-turn false false mark e = sym (ap (λ (x : Bool). cond x false true) e)

pub in-round : (late : Bool) (mark : Marks) (b : Bool) → beq mark.fallback late ≡ b → is_in_round late mark ≡ b
in-round late mark b e = sym (same-turn late mark.fallback mark refl) ∙ e
