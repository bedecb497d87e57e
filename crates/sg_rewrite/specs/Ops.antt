-- Rewrites as a configuration writes them.
use Rattle.std.specs.Prelude.{◌≡◌}
use Rattle.sg_outside.specs.World.{WorldState}
use Rattle.sg_msg.specs.Message.{IsPairName}
use Rattle.sg_pattern.specs.Pattern.{pattern_of}
use Rattle.sg_pattern.specs.Builds.{RefusesText}
use Rattle.sg_pattern.specs.declared.text.BuildRefusal.{BuildRefusal}
use Rattle.sg_pattern.specs.declared.text.BuildRefusal.TheVariants.{NoMemory}
use Rattle.sg_rewrite.specs.declared.change.Change.{Change}
use Rattle.sg_rewrite.specs.declared.change.Change.TheVariants as change
use Rattle.sg_rewrite.specs.declared.op.Op.{Op}
use Rattle.sg_rewrite.specs.declared.op.Op.TheVariants.{Set, Unset, Subst, GroupSet, GroupUnset, SetTag, ClearTag}

-- its name has 1 to 255 bytes and is no macro's
abbrev pub IsOp : Op → Type 0
IsOp (Set name text) = IsPairName name
IsOp (Unset name) = IsPairName name
IsOp (Subst name pattern text) = IsPairName name
IsOp (GroupSet globs text) = Unit {0}
IsOp (GroupUnset globs) = Unit {0}
IsOp (SetTag tag) = Unit {0}
IsOp (ClearTag tag) = Unit {0}

-- the rewrite that it asks for
abbrev pub change_of : Op → Change
change_of (Set name text) = change.Set name text
change_of (Unset name) = change.Unset name
change_of (Subst name pattern text) = change.Subst
    (record { name = name; matcher = pattern_of pattern; text = text })
change_of (GroupSet globs text) = change.GroupSet globs.items text
change_of (GroupUnset globs) = change.GroupUnset globs.items
change_of (SetTag tag) = change.SetTag tag
change_of (ClearTag tag) = change.ClearTag tag

-- why none was made: for its pattern, or for lack of memory
abbrev pub RefusesOp : WorldState → WorldState → Op → BuildRefusal → Type 0
RefusesOp old new (Set name text) refusal = refusal ≡ NoMemory
RefusesOp old new (Unset name) refusal = refusal ≡ NoMemory
RefusesOp old new (Subst name pattern text) refusal = RefusesText old new pattern refusal
RefusesOp old new (GroupSet globs text) refusal = refusal ≡ NoMemory
RefusesOp old new (GroupUnset globs) refusal = refusal ≡ NoMemory
RefusesOp old new (SetTag tag) refusal = refusal ≡ NoMemory
RefusesOp old new (ClearTag tag) refusal = refusal ≡ NoMemory
