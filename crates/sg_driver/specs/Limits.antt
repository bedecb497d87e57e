-- The ranges of the numbers of options (syslog-ng's administration guide, the options of the drivers; the limits are this program's).
use Rattle.sg_options.specs.declared.numbers.Range.{Range}

abbrev pub window_size : Range
window_size = record { low = 1; high = 100000 }

abbrev pub fetch_limit : Range
fetch_limit = record { low = 1; high = 1000 }

abbrev pub message_size : Range
message_size = record { low = 1; high = 1048576 }

abbrev pub connections : Range
connections = record { low = 1; high = 100 }

abbrev pub ports : Range
ports = record { low = 1; high = 65535 }

abbrev pub fifo_size : Range
fifo_size = record { low = 1; high = 1000000 }

abbrev pub fraction_digits : Range
fraction_digits = record { low = 0; high = 6 }

abbrev pub buffer_size : Range
buffer_size = record { low = 1; high = 1073741824 }

-- the frames that a disk-buffer holds in memory which isn't reliable
abbrev pub memory_length : Range
memory_length = record { low = 1; high = 100000 }

-- in seconds
abbrev pub reopen_time : Range
reopen_time = record { low = 1; high = 86400 }

-- in seconds, 0 for never
abbrev pub reap_time : Range
reap_time = record { low = 0; high = 31536000 }
