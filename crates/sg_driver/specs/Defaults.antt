-- The global options, which are the defaults of the drivers (syslog-ng's administration guide, "Global options").
use Rattle.std.specs.Prelude.{ℕ, ◌≤◌, Bool, true, false, List, [], ◌∷◌, codes, Option, None, IfSome, ℤ, pos, negsuc, ◌≤ℤ◌}
use Rattle.sg_parse_base.specs.declared.spot.Spot.{Spot}
use Rattle.sg_parse_expr.specs.declared.tree.Call.{Call}
use Rattle.sg_fault.specs.declared.placed.Placed.{Placed}
use Rattle.sg_options.specs.declared.check.Check.{Check}
use Rattle.sg_options.specs.declared.check.Check.TheVariants.{Within, Zone, Mode}
use Rattle.sg_options.specs.declared.numbers.Range.{Range}
use Rattle.sg_options.specs.Settings.{last_value}
use Rattle.sg_options.specs.Values.{number_or, truth_or, zone_or, zone_or_none, mode_or, one_of_or}
use Rattle.sg_options.specs.Checks.{bad_values}
use Rattle.sg_driver.specs.declared.defaults.Defaults.{Defaults}
use Rattle.sg_driver.specs.Limits.{fifo_size, message_size, fraction_digits, reopen_time, reap_time}

unfoldable pub global_checks : List (List ℕ × Check)
global_checks =
    (codes "log-fifo-size", Within fifo_size)
    ∷ (codes "log-msg-size", Within message_size)
    ∷ (codes "recv-time-zone", Zone)
    ∷ (codes "time-zone", Zone)
    ∷ (codes "frac-digits", Within fraction_digits)
    ∷ (codes "time-reopen", Within reopen_time)
    ∷ (codes "time-reap", Within reap_time)
    ∷ (codes "perm", Mode)
    ∷ (codes "dir-perm", Mode)
    ∷ []

abbrev pub options_faults : List Call → List Placed
options_faults calls = bad_values global_checks calls

-- without a global option; the mode of files is 0600, that of folders 0700
abbrev pub no_options : Defaults
no_options = record {
  fifo = 10000;
  message_size = 65536;
  keep_hostname = false;
  keep_timestamp = true;
  received_zone = pos 0;
  zone = None;
  digits = 0;
  iso = false;
  reopen = 60;
  reap = 60;
  mode = 384;
  folders = false;
  folder_mode = 448;
}

abbrev pub iso_or : Option Spot → Bool → Bool
iso_or value default = one_of_or value (codes "iso" ∷ codes "rfc3339" ∷ []) default

-- with the options of a statement behind those before
abbrev pub with_options : List Call → Defaults → Defaults
with_options calls before = record {
  fifo = number_or (last_value (codes "log-fifo-size" ∷ []) calls) fifo_size before.fifo;
  message_size = number_or (last_value (codes "log-msg-size" ∷ []) calls) message_size
      before.message_size;
  keep_hostname = truth_or (last_value (codes "keep-hostname" ∷ []) calls) before.keep_hostname;
  keep_timestamp = truth_or (last_value (codes "keep-timestamp" ∷ []) calls) before.keep_timestamp;
  received_zone = zone_or (last_value (codes "recv-time-zone" ∷ []) calls) before.received_zone;
  zone = zone_or_none (last_value (codes "time-zone" ∷ []) calls) before.zone;
  digits = number_or (last_value (codes "frac-digits" ∷ []) calls) fraction_digits before.digits;
  iso = iso_or (last_value (codes "ts-format" ∷ []) calls) before.iso;
  reopen = number_or (last_value (codes "time-reopen" ∷ []) calls) reopen_time before.reopen;
  reap = number_or (last_value (codes "time-reap" ∷ []) calls) reap_time before.reap;
  mode = mode_or (last_value (codes "perm" ∷ []) calls) before.mode;
  folders = truth_or (last_value (codes "create-dirs" ∷ []) calls) before.folders;
  folder_mode = mode_or (last_value (codes "dir-perm" ∷ []) calls) before.folder_mode;
}

abbrev pub IsWithinRange : Range → ℕ → Type 0
IsWithinRange range n = (range.low ≤ n) × (n ≤ range.high)

abbrev pub IsOffset : ℤ → Type 0
IsOffset zone = (negsuc 1438 ≤ℤ zone) × (zone ≤ℤ pos 1439)

-- each is in its range
pub record AreDefaults (defaults : Defaults) : Type 0 where
  pub fifo : IsWithinRange fifo_size defaults.fifo
  pub message_size : IsWithinRange message_size defaults.message_size
  pub received_zone : IsOffset defaults.received_zone
  pub zone : IfSome defaults.zone IsOffset
  pub digits : IsWithinRange fraction_digits defaults.digits
  pub reopen : IsWithinRange reopen_time defaults.reopen
  pub reap : IsWithinRange reap_time defaults.reap
