-- What pairs may be called.
use Rattle.std.specs.Prelude.{ℕ, ◌&&◌, not, nat_le, Bool, if◌then◌else◌, List, length, Option, Some, None}
use Rattle.sg_msg.specs.Macros.{is_hard}

-- 1 to 255 bytes, and no macro's name
abbrev pub may_name : List ℕ → Bool
may_name name = nat_le 1 (length name) && nat_le (length name) 255 && not (is_hard name)

abbrev pub if_name : List ℕ → Option (List ℕ)
if_name name = if may_name name then Some name else None
