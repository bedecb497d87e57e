-- The macros of templates, by name (syslog-ng's administration guide, "Macros of syslog-ng").
use Rattle.std.specs.Prelude.{ℕ, List, [], ◌∷◌, if◌then◌else◌, Option, Some, None, codes, bytes_eq}
use Rattle.sg_macro.specs.declared.macros.StampKind.TheVariants.{Sent, Received}
use Rattle.sg_macro.specs.declared.macros.DatePart.TheVariants.{Date, FullDate, IsoDate, ChosenDate, UnixTime, Year, Month, Day, Hour, Minute, Second, MonthAbbrev, Offset}
use Rattle.sg_macro.specs.declared.macros.Macro.{Macro}
use Rattle.sg_macro.specs.declared.macros.Macro.TheVariants.{Pri, FacilityNumber, SeverityNumber, Facility, Severity, PriHex, Tags, Header, Sdata, OldValue, OfStamp}

-- Without a prefix and behind S_, the parts of the message's own stamp; behind R_, those of the stamp of its arrival.
unfoldable pub macros : List (List ℕ × Macro)
macros =
    (codes "PRI", Pri)
    ∷ (codes "FACILITY_NUM", FacilityNumber)
    ∷ (codes "LEVEL_NUM", SeverityNumber)
    ∷ (codes "FACILITY", Facility)
    ∷ (codes "LEVEL", Severity)
    ∷ (codes "PRIORITY", Severity)
    ∷ (codes "SEVERITY", Severity)
    ∷ (codes "TAG", PriHex)
    ∷ (codes "TAGS", Tags)
    ∷ (codes "MSGHDR", Header)
    ∷ (codes "SDATA", Sdata)
    ∷ (codes "_", OldValue)
    ∷ (codes "DATE", OfStamp Sent Date)
    ∷ (codes "FULLDATE", OfStamp Sent FullDate)
    ∷ (codes "ISODATE", OfStamp Sent IsoDate)
    ∷ (codes "STAMP", OfStamp Sent ChosenDate)
    ∷ (codes "UNIXTIME", OfStamp Sent UnixTime)
    ∷ (codes "YEAR", OfStamp Sent Year)
    ∷ (codes "MONTH", OfStamp Sent Month)
    ∷ (codes "DAY", OfStamp Sent Day)
    ∷ (codes "HOUR", OfStamp Sent Hour)
    ∷ (codes "MIN", OfStamp Sent Minute)
    ∷ (codes "SEC", OfStamp Sent Second)
    ∷ (codes "MONTH_ABBREV", OfStamp Sent MonthAbbrev)
    ∷ (codes "TZOFFSET", OfStamp Sent Offset)
    ∷ (codes "S_DATE", OfStamp Sent Date)
    ∷ (codes "S_FULLDATE", OfStamp Sent FullDate)
    ∷ (codes "S_ISODATE", OfStamp Sent IsoDate)
    ∷ (codes "S_STAMP", OfStamp Sent ChosenDate)
    ∷ (codes "S_UNIXTIME", OfStamp Sent UnixTime)
    ∷ (codes "S_YEAR", OfStamp Sent Year)
    ∷ (codes "S_MONTH", OfStamp Sent Month)
    ∷ (codes "S_DAY", OfStamp Sent Day)
    ∷ (codes "S_HOUR", OfStamp Sent Hour)
    ∷ (codes "S_MIN", OfStamp Sent Minute)
    ∷ (codes "S_SEC", OfStamp Sent Second)
    ∷ (codes "S_MONTH_ABBREV", OfStamp Sent MonthAbbrev)
    ∷ (codes "S_TZOFFSET", OfStamp Sent Offset)
    ∷ (codes "R_DATE", OfStamp Received Date)
    ∷ (codes "R_FULLDATE", OfStamp Received FullDate)
    ∷ (codes "R_ISODATE", OfStamp Received IsoDate)
    ∷ (codes "R_STAMP", OfStamp Received ChosenDate)
    ∷ (codes "R_UNIXTIME", OfStamp Received UnixTime)
    ∷ (codes "R_YEAR", OfStamp Received Year)
    ∷ (codes "R_MONTH", OfStamp Received Month)
    ∷ (codes "R_DAY", OfStamp Received Day)
    ∷ (codes "R_HOUR", OfStamp Received Hour)
    ∷ (codes "R_MIN", OfStamp Received Minute)
    ∷ (codes "R_SEC", OfStamp Received Second)
    ∷ (codes "R_MONTH_ABBREV", OfStamp Received MonthAbbrev)
    ∷ (codes "R_TZOFFSET", OfStamp Received Offset)
    ∷ []

-- what the first row of that name has
abbrev pub row_of : List ℕ → List (List ℕ × Macro) → Option Macro
row_of name [] = None
row_of name (row ∷ rows) = if bytes_eq row.0 name then Some row.1 else row_of name rows

unfoldable pub macro_of : List ℕ → Option Macro
macro_of name = row_of name macros

-- the name of the pair that a name means: MSG and MSGONLY are older names of MESSAGE, and FULLHOST of HOST
unfoldable pub pair_name : List ℕ → List ℕ
pair_name name =
    if bytes_eq name (codes "MSG") then codes "MESSAGE"
    else (if bytes_eq name (codes "MSGONLY") then codes "MESSAGE"
    else (if bytes_eq name (codes "FULLHOST") then codes "HOST"
    else name))
