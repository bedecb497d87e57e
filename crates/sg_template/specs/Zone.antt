-- The offset at which a stamp is shown.
use Rattle.std.specs.Prelude.{ℤ, pos, negsuc, ◌+ℤ◌, ◌*ℤ◌, int_le, Bool, ◌&&◌, if◌then◌else◌, Option, Some, None}
use Rattle.sg_time.specs.declared.stamp.Stamp.{Stamp}

-- whether the local year of a moment at this offset is 0000 to 9999
abbrev pub has_year : ℤ → ℤ → Bool
has_year at offset =
    let local = at +ℤ (offset *ℤ pos 60000000) in
    int_le (negsuc 62167219199999999) local && int_le local (pos 253402300799999999)

-- the stamp at that offset, or at its own where the year there isn't in range
abbrev pub moved_stamp : Stamp → ℤ → Stamp
moved_stamp stamp offset = if has_year stamp.at offset
    then (record { at = stamp.at; offset = offset }) else stamp

-- the stamp at the zone's offset, or at its own where there is no zone
unfoldable pub shown_stamp : Option ℤ → Stamp → Stamp
shown_stamp None stamp = stamp
shown_stamp (Some offset) stamp = moved_stamp stamp offset
