-- The drivers of sources: `file`, `network` and `syslog` (syslog-ng's administration guide, the options of these sources).
use Rattle.std.specs.Prelude.{ℕ, List, [], ◌∷◌, ◌++◌, codes, Option, Some, None, unwrap_or}
use Rattle.sg_parse_base.specs.declared.spot.Spot.{Spot}
use Rattle.sg_parse_expr.specs.declared.tree.Call.{Call}
use Rattle.sg_fault.specs.declared.placed.Placed.{Placed}
use Rattle.sg_options.specs.declared.check.Check.{Check}
use Rattle.sg_options.specs.declared.check.Check.TheVariants.{Within, Zone, Facility, Level}
use Rattle.sg_options.specs.Numbers.{number_in}
use Rattle.sg_options.specs.Settings.{last_option, last_value}
use Rattle.sg_options.specs.Checks.{bad_values}
use Rattle.sg_options.specs.Stores.{position_name}
use Rattle.sg_outfmt.specs.declared.shape.DriverKind.{DriverKind}
use Rattle.sg_outfmt.specs.declared.shape.DriverKind.TheVariants.{File, Network, Syslog}
use Rattle.sg_driver.specs.Limits.{window_size, fetch_limit, message_size, connections, ports}
use Rattle.sg_driver.specs.Driver.{driver_kind, options_of, name_of, missing_unless, long_names}

-- options of all sources
unfoldable pub source_checks : List (List ℕ × Check)
source_checks =
    (codes "log-iw-size", Within window_size)
    ∷ (codes "log-fetch-limit", Within fetch_limit)
    ∷ (codes "log-msg-size", Within message_size)
    ∷ (codes "recv-time-zone", Zone)
    ∷ (codes "time-zone", Zone)
    ∷ (codes "default-facility", Facility)
    ∷ (codes "default-level", Level)
    ∷ (codes "default-priority", Level)
    ∷ []

-- further options of `network` and `syslog`
unfoldable pub listener_checks : List (List ℕ × Check)
listener_checks =
    (codes "port", Within ports)
    ∷ (codes "localport", Within ports)
    ∷ (codes "max-connections", Within connections)
    ∷ []

-- two words for one option
abbrev pub port_words : List (List ℕ)
port_words = codes "port" ∷ codes "localport" ∷ []

abbrev pub connection_words : List (List ℕ)
connection_words = codes "max-connections" ∷ []

-- a file keeps its position in a store
abbrev pub position_of : DriverKind → List ℕ → Option (List ℕ)
position_of File path = Some (position_name path)
position_of Network path = None
position_of Syslog path = None

abbrev pub store_of_source : Call → Option (List ℕ)
store_of_source call = position_of (driver_kind call) (name_of call)

-- a port must be given
abbrev pub listening_faults : Call → List Placed
listening_faults call = missing_unless (last_option port_words (options_of call)) call
    ++ bad_values listener_checks (options_of call)

abbrev pub listener_faults : DriverKind → Call → List Placed
listener_faults File call = []
listener_faults Network call = listening_faults call
listener_faults Syslog call = listening_faults call

-- what is wrong with a driver of a source
abbrev pub source_faults : Call → List Placed
source_faults call = listener_faults (driver_kind call) call
    ++ (bad_values source_checks (options_of call) ++ long_names call (store_of_source call))

abbrev pub connection_count : Option Spot → ℕ
connection_count None = 10
connection_count (Some spot) = unwrap_or (number_in connections spot.token.text) 0

abbrev pub count_by : DriverKind → Call → ℕ
count_by File call = 1
count_by Network call = connection_count (last_value connection_words (options_of call))
count_by Syslog call = connection_count (last_value connection_words (options_of call))

-- how many inlets it is: a file is one, and a listener as many as it may have connections, none where that number is out of its range
abbrev pub inlet_count : Call → ℕ
inlet_count call = count_by (driver_kind call) call
