-- The disk-buffer of a destination (syslog-ng's administration guide, "Using disk-based and memory buffering").
use Rattle.std.specs.Prelude.{ℕ, ◌+◌, ◌-◌, ◌*◌, ◌^◌, min, nat_lt, if◌then◌else◌, Bool, true, false, Some, None, List, [], ◌∷◌, ◌++◌, codes, decimal, Option}
use Rattle.std.specs.Option.{option_map}
use Rattle.sg_parse_expr.specs.declared.tree.Call.{Call}
use Rattle.sg_fault.specs.declared.placed.Placed.{Placed}
use Rattle.sg_options.specs.declared.check.Check.{Check}
use Rattle.sg_options.specs.declared.check.Check.TheVariants.{Within}
use Rattle.sg_options.specs.Settings.{is_called, last_option, last_value}
use Rattle.sg_options.specs.Values.{text_or, number_or, truth_or}
use Rattle.sg_options.specs.Checks.{bad_values, faults_of}
use Rattle.sg_options.specs.Stores.{buffer_name, overflow_name}
use Rattle.sg_outfmt.specs.declared.shape.DriverKind.{DriverKind}
use Rattle.sg_outfmt.specs.declared.shape.DriverKind.TheVariants.{File, Network, Syslog}
use Rattle.sg_run_plan.specs.declared.overflow.OverflowPlan.{OverflowPlan}
use Rattle.sg_destination.specs.declared.buffers.DiskBuffer.{DiskBuffer}
use Rattle.sg_driver.specs.Limits.{buffer_size, memory_length, ports}
use Rattle.sg_driver.specs.Driver.{driver_kind, options_of, name_of, missing_unless}

unfoldable pub buffer_checks : List (List ℕ × Check)
buffer_checks =
    (codes "disk-buf-size", Within buffer_size)
    ∷ (codes "capacity-bytes", Within buffer_size)
    ∷ []

unfoldable pub memory_checks : List (List ℕ × Check)
memory_checks =
    (codes "mem-buf-length", Within memory_length)
    ∷ []

abbrev pub buffer_words : List (List ℕ)
buffer_words = codes "disk-buffer" ∷ []

-- two words for one option
abbrev pub size_words : List (List ℕ)
size_words = codes "disk-buf-size" ∷ codes "capacity-bytes" ∷ []

abbrev pub reliable_words : List (List ℕ)
reliable_words = codes "reliable" ∷ []

abbrev pub is_reliable : Call → Bool
is_reliable buffer = truth_or (last_value reliable_words (options_of buffer)) true

-- the number of frames in memory counts where it isn't reliable
abbrev pub length_faults : Call → List Placed
length_faults buffer = if is_reliable buffer then []
    else bad_values memory_checks (options_of buffer)

-- what is wrong with the options of one disk-buffer: it must say whether it is reliable, and have a size
abbrev pub own_buffer_faults : Call → List Placed
own_buffer_faults call =
    missing_unless (last_option reliable_words (options_of call)) call
    ++ (missing_unless (last_option size_words (options_of call)) call
    ++ (bad_values buffer_checks (options_of call) ++ length_faults call))

abbrev pub buffer_option_faults : Call → List Placed
buffer_option_faults call = if is_called buffer_words call then own_buffer_faults call else []

-- what is wrong with the disk-buffers among options
abbrev pub buffer_faults : List Call → List Placed
buffer_faults calls = faults_of buffer_option_faults calls

-- the port of a destination; a missing one is refused
abbrev pub port_of : Call → ℕ
port_of call = number_or (last_value (codes "port" ∷ []) (options_of call)) ports 0

-- what a destination is, by which its disk-buffer's store is named
abbrev pub destination_text : DriverKind → List ℕ → ℕ → List ℕ
destination_text File path port = codes "file," ++ path
destination_text Network host port = codes "network," ++ (host ++ (codes "," ++ decimal port))
destination_text Syslog host port = codes "syslog," ++ (host ++ (codes "," ++ decimal port))

abbrev pub directory_of : Call → List ℕ
directory_of buffer = text_or (last_value (codes "dir" ∷ []) (options_of buffer)) (codes ".")

abbrev pub store_of_buffer : Call → Call → List ℕ
store_of_buffer call buffer = (if is_reliable buffer then buffer_name else overflow_name)
    (directory_of buffer) (destination_text (driver_kind call) (name_of call) (port_of call))

-- the disk-buffer that counts
abbrev pub counting_buffer : Call → Option Call
counting_buffer call = last_option buffer_words (options_of call)

abbrev pub store_of_destination : Call → Option (List ℕ)
store_of_destination call = option_map (store_of_buffer call) (counting_buffer call)

-- raised to 1 MiB
abbrev pub raised_capacity : ℕ → ℕ
raised_capacity n = if nat_lt n 1048576 then 1048576 else n

abbrev pub capacity_of : Call → ℕ
capacity_of buffer = raised_capacity
    (number_or (last_value size_words (options_of buffer)) buffer_size 1048576)

abbrev pub whole_of : Call → Bool
whole_of buffer = truth_or (last_value (codes "prealloc" ∷ []) (options_of buffer)) false

abbrev pub buffer_at : Call → Call → DiskBuffer
buffer_at call buffer = record {
  store = store_of_buffer call buffer;
  capacity = capacity_of buffer;
  whole = whole_of buffer;
}

-- the disk-buffer that counts, where it is reliable, or where it isn't
abbrev pub reliable_of : Option Call → Option Call
reliable_of None = None
reliable_of (Some buffer) = if is_reliable buffer then Some buffer else None

abbrev pub unreliable_of : Option Call → Option Call
unreliable_of None = None
unreliable_of (Some buffer) = if is_reliable buffer then None else Some buffer

abbrev pub buffer_of : Call → Option DiskBuffer
buffer_of call = option_map (buffer_at call) (reliable_of (counting_buffer call))

-- the most bytes that the file of a disk-buffer of this capacity comes to have, or those of one without entries
abbrev pub size_by : Bool → ℕ → ℕ
size_by true capacity = min (2 * capacity + 68) (2 ^ 64 - 1)
size_by false capacity = 128

-- the frames in memory of one that isn't reliable
abbrev pub memory_of : Call → ℕ
memory_of buffer = number_or (last_value (codes "mem-buf-length" ∷ []) (options_of buffer))
    memory_length 1000

abbrev pub overflow_at : Call → Call → OverflowPlan
overflow_at call buffer = record {
  store = record {
    name = store_of_buffer call buffer;
    create = true;
    size = size_by (whole_of buffer) (capacity_of buffer);
  };
  capacity = capacity_of buffer;
  memory = memory_of buffer;
}

abbrev pub overflow_of : Call → Option OverflowPlan
overflow_of call = option_map (overflow_at call) (unreliable_of (counting_buffer call))
