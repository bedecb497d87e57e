-- The drivers of destinations: `file`, `network` and `syslog` (syslog-ng's administration guide, the options of these destinations).
use Rattle.std.specs.Prelude.{ℕ, List, [], ◌∷◌, ◌++◌, codes}
use Rattle.sg_parse_expr.specs.declared.tree.Call.{Call}
use Rattle.sg_fault.specs.declared.placed.Placed.{Placed}
use Rattle.sg_options.specs.declared.check.Check.{Check}
use Rattle.sg_options.specs.declared.check.Check.TheVariants.{Within, Zone, Mode}
use Rattle.sg_options.specs.Settings.{last_option}
use Rattle.sg_options.specs.Checks.{bad_values}
use Rattle.sg_outfmt.specs.declared.shape.DriverKind.{DriverKind}
use Rattle.sg_outfmt.specs.declared.shape.DriverKind.TheVariants.{File, Network, Syslog}
use Rattle.sg_driver.specs.Limits.{fifo_size, fraction_digits, reopen_time, reap_time, ports}
use Rattle.sg_driver.specs.Driver.{driver_kind, options_of, missing_unless, long_names}
use Rattle.sg_destination.specs.Templates.{Texts, template_faults}
use Rattle.sg_destination.specs.Buffers.{buffer_faults, store_of_destination}

-- options of all destinations
unfoldable pub destination_checks : List (List ℕ × Check)
destination_checks =
    (codes "log-fifo-size", Within fifo_size)
    ∷ (codes "time-zone", Zone)
    ∷ (codes "frac-digits", Within fraction_digits)
    ∷ (codes "time-reopen", Within reopen_time)
    ∷ []

-- further options of `file`
unfoldable pub file_checks : List (List ℕ × Check)
file_checks =
    (codes "perm", Mode) ∷ (codes "dir-perm", Mode) ∷ (codes "time-reap", Within reap_time) ∷ []

-- further options of `network` and `syslog`
unfoldable pub host_checks : List (List ℕ × Check)
host_checks = (codes "port", Within ports) ∷ []

-- a port must be given
abbrev pub host_faults : Call → List Placed
host_faults call = missing_unless (last_option (codes "port" ∷ []) (options_of call)) call
    ++ bad_values host_checks (options_of call)

abbrev pub further_faults : DriverKind → Call → List Placed
further_faults File call = bad_values file_checks (options_of call)
further_faults Network call = host_faults call
further_faults Syslog call = host_faults call

abbrev pub value_faults : Call → List Placed
value_faults call = further_faults (driver_kind call) call
    ++ bad_values destination_checks (options_of call)

abbrev pub store_faults : Call → List Placed
store_faults call = buffer_faults (options_of call) ++ long_names call (store_of_destination call)

-- what is wrong with a driver of a destination
abbrev pub destination_faults : Texts → Call → List Placed
destination_faults texts call = value_faults call
    ++ (store_faults call ++ template_faults texts (options_of call))
