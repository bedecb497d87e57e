-- The texts of macros (syslog-ng's administration guide, "Macros of syslog-ng").
use Rattle.std.specs.Prelude.{ℕ, ◌/◌, ◌%◌, ◌==◌, Bool, if◌then◌else◌, List, [], ◌∷◌, ◌++◌, length, unwrap_or, codes, ℤ, pos, unsigned_abs, decimal}
use Rattle.std.specs.Fmt.{signed_decimal}
use Rattle.std.specs.Int.{int_div_euclid, int_rem_euclid}
use Rattle.std.specs.List.{flat_map, slice_index_or}
use Rattle.sg_time.specs.declared.stamp.Stamp.{Stamp}
use Rattle.sg_time.specs.Local.{local_time}
use Rattle.sg_time.specs.Text.{digits, fraction_text, offset_text, month_name, iso_stamp_text, bsd_stamp_text}
use Rattle.sg_msg.specs.Message.{Content, NameValue, value_of}
use Rattle.sg_macro.specs.declared.macros.StampKind.{StampKind}
use Rattle.sg_macro.specs.declared.macros.StampKind.TheVariants.{Sent, Received}
use Rattle.sg_macro.specs.declared.macros.DatePart.{DatePart}
use Rattle.sg_macro.specs.declared.macros.DatePart.TheVariants.{Date, FullDate, IsoDate, ChosenDate, UnixTime, Year, Month, Day, Hour, Minute, Second, MonthAbbrev, Offset}
use Rattle.sg_macro.specs.declared.macros.Macro.{Macro}
use Rattle.sg_macro.specs.declared.macros.Macro.TheVariants.{Pri, FacilityNumber, SeverityNumber, Facility, Severity, PriHex, Tags, Header, Sdata, OldValue, OfStamp}
use Rattle.sg_template.specs.declared.env.Env.{Env}
use Rattle.sg_template.specs.Elements.{sdata_text}
use Rattle.sg_template.specs.Names.{facility_name, severity_name}
use Rattle.sg_template.specs.Zone.{shown_stamp}

-- Seconds since 1970 in UTC, rounded down, and so many digits of the fraction from that second on.
abbrev pub unix_text : ℤ → ℕ → List ℕ
unix_text at count = signed_decimal (int_div_euclid at (pos 1000000))
    ++ fraction_text count (unsigned_abs (int_rem_euclid at (pos 1000000)))

-- a part of a stamp, with so many digits of a fraction; ChosenDate is the ISO date where that is chosen, and else the BSD date
unfoldable pub date_text : DatePart → Stamp → ℕ → Bool → List ℕ
date_text Date stamp count iso = bsd_stamp_text stamp count
date_text FullDate stamp count iso =
    digits 4 (local_time stamp).year ++ codes " " ++ bsd_stamp_text stamp count
date_text IsoDate stamp count iso = iso_stamp_text stamp count
date_text ChosenDate stamp count iso =
    if iso then iso_stamp_text stamp count else bsd_stamp_text stamp count
date_text UnixTime stamp count iso = unix_text stamp.at count
date_text Year stamp count iso = digits 4 (local_time stamp).year
date_text Month stamp count iso = digits 2 (local_time stamp).month
date_text Day stamp count iso = digits 2 (local_time stamp).day
date_text Hour stamp count iso = digits 2 (local_time stamp).hour
date_text Minute stamp count iso = digits 2 (local_time stamp).minute
date_text Second stamp count iso = digits 2 (local_time stamp).second
date_text MonthAbbrev stamp count iso = month_name (local_time stamp).month
date_text Offset stamp count iso = offset_text stamp.offset

abbrev pub hex_digit : ℕ → ℕ
hex_digit n = slice_index_or (codes "0123456789abcdef") n 0

-- two lower-case hexadecimal digits
abbrev pub hex_text : ℕ → List ℕ
hex_text n = hex_digit (n / 16) ∷ hex_digit (n % 16) ∷ []

abbrev pub later_tag : List ℕ → List ℕ
later_tag tag = codes "," ++ tag

-- the tags with commas between them
abbrev pub tags_text : List (List ℕ) → List ℕ
tags_text [] = []
tags_text (tag ∷ tags) = tag ++ flat_map later_tag tags

-- the value of that name, empty where it has none
abbrev pub text_of : List ℕ → List NameValue → List ℕ
text_of name pairs = unwrap_or (value_of name pairs) []

-- the text, or that one where it is empty
abbrev pub or_default : List ℕ → List ℕ → List ℕ
or_default text default = if length text == 0 then default else text

abbrev pub pid_text : List ℕ → List ℕ
pid_text pid = if length pid == 0 then [] else codes "[" ++ pid ++ codes "]"

-- what stands before the message: `program[pid]: ` (RFC 3164, 4.1.3 and 5.3)
abbrev pub header_text : List ℕ → List ℕ → List ℕ
header_text program pid = if length program == 0 then [] else program ++ pid_text pid ++ codes ": "

abbrev pub stamp_of : StampKind → Content → Stamp
stamp_of Sent content = content.sent
stamp_of Received content = content.received

unfoldable pub macro_text : Macro → Content → Env → List ℕ
macro_text Pri content env = decimal content.pri
macro_text FacilityNumber content env = decimal (content.pri / 8)
macro_text SeverityNumber content env = decimal (content.pri % 8)
macro_text Facility content env = facility_name (content.pri / 8)
macro_text Severity content env = severity_name (content.pri % 8)
macro_text PriHex content env = hex_text content.pri
macro_text Tags content env = tags_text content.tags
macro_text Header content env =
    header_text (text_of (codes "PROGRAM") content.pairs) (text_of (codes "PID") content.pairs)
macro_text Sdata content env = sdata_text content.pairs
macro_text OldValue content env = unwrap_or env.old []
macro_text (OfStamp kind part) content env = date_text part
    (shown_stamp env.zone (stamp_of kind content)) env.digits env.iso
