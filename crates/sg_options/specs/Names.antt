-- Facilities and severities by their names or numbers (RFC 5424, 6.2.1; syslog-ng's administration guide, "default-facility()" and
-- "default-level()").
use Rattle.std.specs.Prelude.{ℕ, ◌+◌, if◌then◌else◌, List, [], ◌∷◌, codes, bytes_eq, Option, Some, None}
use Rattle.sg_template.specs.Names.{facility_names, severity_names}
use Rattle.sg_options.specs.Numbers.{number_to}

-- the place of a name among those that are left, which begin at a place
abbrev pub place_from : ℕ → List (List ℕ) → List ℕ → Option ℕ
place_from at [] text = None
place_from at (name ∷ names) text =
    if bytes_eq name text then Some at else place_from (at + 1) names text

abbrev pub either : Option ℕ → Option ℕ → Option ℕ
either (Some n) other = Some n
either None other = other

-- a name, or a number up to 23
abbrev pub facility_number : List ℕ → Option ℕ
facility_number text = either (place_from 0 facility_names text) (number_to 10 23 text)

-- older names
abbrev pub older_level : List ℕ → Option ℕ
older_level text =
    if bytes_eq text (codes "panic") then Some 0
    else (if bytes_eq text (codes "error") then Some 3
    else (if bytes_eq text (codes "warn") then Some 4
    else None))

-- a name, or a number up to 7
abbrev pub level_number : List ℕ → Option ℕ
level_number text = either (place_from 0 severity_names text)
    (either (older_level text) (number_to 10 7 text))
