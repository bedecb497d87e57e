-- A sound rewrite is one that can be made.
use Rattle.std.proofs.Common.{◌≡◌, ℕ, Bool, true, false, List, [], ◌∷◌, length, refl, arith}
use Rattle.std.specs.Prelude.{not, nat_le}
use Rattle.std.proofs.lemmas.Bool.{and_parts, leb-true}
use Rattle.sg_msg.specs.Macros.{is_hard}
use Rattle.sg_msg.specs.Message.{IsPairName}
use Rattle.sg_rewrite.specs.declared.op.Op.{Op}
use Rattle.sg_rewrite.specs.declared.op.Op.TheVariants.{Set, Unset, Subst, GroupSet, GroupUnset, SetTag, ClearTag}
use Rattle.sg_rewrite.specs.Ops.{IsOp}
use Rattle.sg_tree.specs.Sound.{name_sound, op_sound}

soft : (b : Bool) → not b ≡ true → b ≡ false
soft true e = absurd cc
soft false e = refl

sound-name : (name : List ℕ) → name_sound name ≡ true → IsPairName name
sound-name [] e = absurd cc
sound-name (b ∷ bs) e =
    let parts = and_parts (nat_le (length (b ∷ bs)) 255) (not (is_hard (b ∷ bs))) e in
    (omega arith, leb-true (length (b ∷ bs)) 255 parts.0, soft (is_hard (b ∷ bs)) parts.1)

pub sound-op : (op : Op) → op_sound op ≡ true → IsOp op
sound-op (Set name text) e = sound-name name e
sound-op (Unset name) e = sound-name name e
sound-op (Subst name pattern text) e = sound-name name e
sound-op (GroupSet globs text) e = tt
sound-op (GroupUnset globs) e = tt
sound-op (SetTag tag) e = tt
sound-op (ClearTag tag) e = tt
