-- Rewrites that can be made.
use Rattle.std.specs.Prelude.{ℕ, Bool, true, false, ◌&&◌, not, nat_le, List, [], ◌∷◌, length}
use Rattle.sg_msg.specs.Macros.{is_hard}
use Rattle.sg_rewrite.specs.declared.op.Op.{Op}
use Rattle.sg_rewrite.specs.declared.op.Op.TheVariants.{Set, Unset, Subst, GroupSet, GroupUnset, SetTag, ClearTag}

-- what a pair may be called
abbrev pub name_sound : List ℕ → Bool
name_sound [] = false
name_sound (b ∷ bs) = nat_le (length (b ∷ bs)) 255 && not (is_hard (b ∷ bs))

-- the name that a rewrite sets, unsets or searches is one that a pair may have
abbrev pub op_sound : Op → Bool
op_sound (Set name text) = name_sound name
op_sound (Unset name) = name_sound name
op_sound (Subst name pattern text) = name_sound name
op_sound (GroupSet globs text) = true
op_sound (GroupUnset globs) = true
op_sound (SetTag tag) = true
op_sound (ClearTag tag) = true
