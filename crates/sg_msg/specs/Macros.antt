-- Which names are macros: texts computed from a message, so never names of its pairs (syslog-ng's administration guide,
-- "Macros of syslog-ng").
use Rattle.std.specs.Prelude.{ℕ, List, [], ◌∷◌, ◌++◌, Bool, ◌||◌, codes, bytes_eq}
use Rattle.std.specs.List.{list_any}

-- the parts of a stamp
unfoldable pub date_macros : List (List ℕ)
date_macros =
    codes "DATE" ∷ codes "FULLDATE" ∷ codes "ISODATE" ∷ codes "STAMP" ∷ codes "UNIXTIME"
    ∷ codes "YEAR" ∷ codes "MONTH" ∷ codes "DAY" ∷ codes "HOUR" ∷ codes "MIN" ∷ codes "SEC"
    ∷ codes "MONTH_ABBREV" ∷ codes "TZOFFSET" ∷ []

-- PRI and its parts, the tags, the texts put together of pairs, and the old value of a field
unfoldable pub other_macros : List (List ℕ)
other_macros =
    codes "PRI" ∷ codes "FACILITY_NUM" ∷ codes "LEVEL_NUM" ∷ codes "FACILITY" ∷ codes "LEVEL"
    ∷ codes "PRIORITY"
    ∷ codes "SEVERITY" ∷ codes "TAG" ∷ codes "TAGS" ∷ codes "MSGHDR" ∷ codes "SDATA" ∷ codes "_"
    ∷ []

abbrev pub is_any : List (List ℕ) → List ℕ → Bool
is_any names name = list_any (λ listed. bytes_eq listed name) names

-- a part of a stamp behind S_, of the message's own, or R_, of that of its arrival
abbrev pub is_prefixed_date : List ℕ → Bool
is_prefixed_date name =
    list_any (λ date. bytes_eq (codes "S_" ++ date) name) date_macros
    || list_any (λ date. bytes_eq (codes "R_" ++ date) name) date_macros

unfoldable pub is_hard : List ℕ → Bool
is_hard name = is_any other_macros name || (is_any date_macros name || is_prefixed_date name)
