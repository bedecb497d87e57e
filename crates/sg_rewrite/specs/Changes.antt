-- What holds of each rewrite.
use Rattle.sg_msg.specs.Message.{IsPairName}
use Rattle.sg_pattern.specs.Pattern.{IsValidPattern}
use Rattle.sg_rewrite.specs.declared.change.Change.{Change}
use Rattle.sg_rewrite.specs.declared.change.Change.TheVariants.{Set, Unset, Subst, GroupSet, GroupUnset, SetTag, ClearTag}

-- its name is one that a pair may have
abbrev pub IsChange : Change → Type 0
IsChange (Set name parts) = IsPairName name
IsChange (Unset name) = IsPairName name
IsChange (Subst search) = IsPairName search.name
IsChange (GroupSet globs parts) = Unit {0}
IsChange (GroupUnset globs) = Unit {0}
IsChange (SetTag tag) = Unit {0}
IsChange (ClearTag tag) = Unit {0}

-- its pattern is one
abbrev pub HasPattern : Change → Type 0
HasPattern (Set name parts) = Unit {0}
HasPattern (Unset name) = Unit {0}
HasPattern (Subst search) = IsValidPattern search.matcher
HasPattern (GroupSet globs parts) = Unit {0}
HasPattern (GroupUnset globs) = Unit {0}
HasPattern (SetTag tag) = Unit {0}
HasPattern (ClearTag tag) = Unit {0}
