-- What the drivers of sources and destinations have in common.
use Rattle.std.specs.Prelude.{ℕ, nat_lt, if◌then◌else◌, List, [], ◌∷◌, length, codes, Option, Some, None}
use Rattle.sg_lex.specs.declared.fault.ConfigKind.TheVariants.{MissingOption}
use Rattle.sg_parse_base.specs.declared.spot.Spot.{Spot}
use Rattle.sg_parse_base.specs.Input.{spot_line}
use Rattle.sg_parse_base.specs.Tokens.{same_keyword}
use Rattle.sg_parse_expr.specs.declared.tree.Call.{Call}
use Rattle.sg_fault.specs.declared.placed.Placed.{Placed}
use Rattle.sg_options.specs.Settings.{word_of, args_of, calls_of, value_of}
use Rattle.sg_options.specs.Checks.{bad_value}
use Rattle.sg_options.specs.Values.{text_of}
use Rattle.sg_outfmt.specs.declared.shape.DriverKind.{DriverKind}
use Rattle.sg_outfmt.specs.declared.shape.DriverKind.TheVariants.{File, Network, Syslog}

abbrev pub kind_by_word : List ℕ → DriverKind
kind_by_word word =
    if same_keyword word (codes "file") then File
    else (if same_keyword word (codes "syslog") then Syslog
    else Network)

abbrev pub driver_kind : Call → DriverKind
driver_kind call = kind_by_word (word_of call).token.text

abbrev pub options_of : Call → List Call
options_of call = calls_of (args_of call)

-- the path of a file, the host of a destination
abbrev pub name_of : Call → List ℕ
name_of call = text_of (value_of call)

-- an option that must be given is missing: the fault stands at the word of what lacks it
abbrev pub missing : Call → Placed
missing call = record { kind = MissingOption; line = spot_line (word_of call) }

abbrev pub missing_unless : Option Call → Call → List Placed
missing_unless None call = missing call ∷ []
missing_unless (Some option) call = []

-- how many bytes the name of a store may have
abbrev pub store_name_limit : ℕ
store_name_limit = 200

abbrev pub bad_values_at : Option Spot → List Placed
bad_values_at None = []
bad_values_at (Some spot) = bad_value spot ∷ []

-- a store's name that is too long stands at the path or the host
abbrev pub long_names : Call → Option (List ℕ) → List Placed
long_names call None = []
long_names call (Some store) =
    if nat_lt store_name_limit (length store) then bad_values_at (value_of call) else []
