-- The names of facilities and severities (RFC 5424, 6.2.1; syslog-ng's administration guide, "facility()" and "level()").
use Rattle.std.specs.Prelude.{ℕ, List, [], ◌∷◌, codes}
use Rattle.std.specs.List.{slice_index_or}

unfoldable pub facility_names : List (List ℕ)
facility_names =
    codes "kern" ∷ codes "user" ∷ codes "mail" ∷ codes "daemon" ∷ codes "auth" ∷ codes "syslog"
    ∷ codes "lpr" ∷ codes "news"
    ∷ codes "uucp" ∷ codes "cron" ∷ codes "authpriv" ∷ codes "ftp" ∷ codes "ntp" ∷ codes "security"
    ∷ codes "console" ∷ codes "solaris-cron"
    ∷ codes "local0" ∷ codes "local1" ∷ codes "local2" ∷ codes "local3" ∷ codes "local4"
    ∷ codes "local5" ∷ codes "local6" ∷ codes "local7" ∷ []

unfoldable pub severity_names : List (List ℕ)
severity_names =
    codes "emerg" ∷ codes "alert" ∷ codes "crit" ∷ codes "err" ∷ codes "warning" ∷ codes "notice"
    ∷ codes "info" ∷ codes "debug" ∷ []

abbrev pub facility_name : ℕ → List ℕ
facility_name facility = slice_index_or facility_names facility []

abbrev pub severity_name : ℕ → List ℕ
severity_name severity = slice_index_or severity_names severity []
