-- What a source's options make of what its records have (syslog-ng's guide: keep-hostname(), keep-timestamp(), recv-time-zone()).
use Rattle.std.specs.Prelude.{ℤ, List, ℕ, Option, None, Some, if◌then◌else◌}
use Rattle.sg_time.specs.declared.stamp.Stamp.{Stamp}
use Rattle.sg_r3164.specs.declared.opts.ReadOpts.{ReadOpts}

-- the stamp of a record that was pulled at this moment
abbrev pub received_at : ℤ → ReadOpts → Stamp
received_at at opts = record { at = at; offset = opts.zone }

-- the message's stamp
abbrev pub sent_of : ReadOpts → Option Stamp → Stamp → Stamp
sent_of opts None received = received
sent_of opts (Some stamp) received = if opts.keep_timestamp then stamp else received

-- the host that the record names is HOST where the source keeps it, and else the peer
abbrev pub host_of : ReadOpts → Option (List ℕ) → List ℕ → List ℕ
host_of opts None peer = peer
host_of opts (Some host) peer = if opts.keep_hostname then host else peer
