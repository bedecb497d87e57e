-- Which stamps are valid.
use Rattle.std.specs.Prelude.{ℤ, pos, negsuc, ◌+ℤ◌, ◌*ℤ◌, ◌≤ℤ◌}
use Rattle.sg_time.specs.declared.stamp.Stamp.{Stamp}

-- the local time, in microseconds since 1970-01-01T00:00:00 local time
abbrev pub local_of : Stamp → ℤ
local_of stamp = stamp.at +ℤ (stamp.offset *ℤ pos 60000000)

-- the offset is less than a day, and the local time is from 0000-01-01T00:00:00 to 9999-12-31T23:59:59.999999
pub record IsValidStamp (stamp : Stamp) : Type 0 where
  pub east : negsuc 1438 ≤ℤ stamp.offset
  pub west : stamp.offset ≤ℤ pos 1439
  pub begins : negsuc 62167219199999999 ≤ℤ local_of stamp
  pub ends : local_of stamp ≤ℤ pos 253402300799999999
