-- The wait that the adapters of one machine share.
use Rattle.std.specs.Prelude.{◌≡◌, ◌-◌, ◌^◌}
use Rattle.std.specs.Arc.{arc_value}
use Rattle.sg_file.specs.declared.rest.IdleWait.{IdleWait}

-- it wasn't idle yet
abbrev pub IsNotIdleYet : IdleWait → Type 0
IsNotIdleYet rest = rest.seen ≡ 2 ^ 64 - 1

-- it counts its waits together with the first one, and wasn't idle yet
abbrev pub IsAnother : IdleWait → IdleWait → Type 0
IsAnother rest other = (arc_value other.shared ≡ arc_value rest.shared) × IsNotIdleYet other
