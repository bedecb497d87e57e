-- The words of drivers and options, with the forms of their arguments (syslog-ng's administration guide, the options of the drivers and "Global
-- options").
use Rattle.std.specs.Prelude.{ℕ, List, [], ◌∷◌, codes, Option, Some, None}
use Rattle.sg_parse_expr.specs.declared.class.WordChoice.TheVariants as choice
use Rattle.sg_parse_expr.specs.declared.class.Class.TheVariants as class
use Rattle.sg_parse_expr.specs.declared.form.Flat.{Flat}
use Rattle.sg_parse_expr.specs.declared.form.Flat.TheVariants as flat
use Rattle.sg_parse_expr.specs.Forms.{row_of}
use Rattle.sg_parse_obj.specs.declared.table.OptionForm.{OptionForm}
use Rattle.sg_parse_obj.specs.declared.table.OptionForm.TheVariants as option
use Rattle.sg_parse_obj.specs.declared.table.DriverForm.{DriverForm}
use Rattle.sg_parse_obj.specs.declared.table.DriverForm.TheVariants as driver
use Rattle.sg_parse_obj.specs.declared.table.OptionTable.{OptionTable}
use Rattle.sg_parse_obj.specs.declared.table.OptionTable.TheVariants as table

-- drivers of sources
unfoldable pub source_drivers : List (List ℕ × DriverForm)
source_drivers =
    (codes "file", driver.Named class.Name table.FileSource)
    ∷ (codes "network", driver.Options table.NetworkSource)
    ∷ (codes "syslog", driver.Options table.NetworkSource)
    ∷ []

-- drivers of destinations
unfoldable pub destination_drivers : List (List ℕ × DriverForm)
destination_drivers =
    (codes "file", driver.Named class.Template table.FileDestination)
    ∷ (codes "network", driver.Named class.Name table.NetworkDestination)
    ∷ (codes "syslog", driver.Named class.Name table.SyslogDestination)
    ∷ []

-- options of all sources
unfoldable pub source : List (List ℕ × OptionForm)
source =
    (codes "flags", option.Flat (flat.Many (class.Word choice.SourceFlag)))
    ∷ (codes "log-iw-size", option.Flat (flat.One class.Number))
    ∷ (codes "log-fetch-limit", option.Flat (flat.One class.Number))
    ∷ (codes "log-msg-size", option.Flat (flat.One class.Number))
    ∷ (codes "keep-hostname", option.Flat (flat.One class.Truth))
    ∷ (codes "keep-timestamp", option.Flat (flat.One class.Truth))
    ∷ (codes "recv-time-zone", option.Flat (flat.One class.Name))
    ∷ (codes "time-zone", option.Flat (flat.One class.Name))
    ∷ (codes "default-facility", option.Flat (flat.One class.Facility))
    ∷ (codes "default-level", option.Flat (flat.One class.Level))
    ∷ (codes "default-priority", option.Flat (flat.One class.Level))
    ∷ (codes "tags", option.Flat (flat.Many class.Name))
    ∷ []

-- further options of `network` and `syslog` sources
unfoldable pub listener : List (List ℕ × OptionForm)
listener =
    (codes "ip", option.Flat (flat.One class.Name))
    ∷ (codes "port", option.Flat (flat.One class.Number))
    ∷ (codes "localport", option.Flat (flat.One class.Number))
    ∷ (codes "transport", option.Flat (flat.One (class.Word choice.Transport)))
    ∷ (codes "max-connections", option.Flat (flat.One class.Number))
    ∷ []

-- options of all destinations
unfoldable pub destination : List (List ℕ × OptionForm)
destination =
    (codes "log-fifo-size", option.Flat (flat.One class.Number))
    ∷ (codes "disk-buffer", option.Disk)
    ∷ (codes "time-zone", option.Flat (flat.One class.Name))
    ∷ (codes "frac-digits", option.Flat (flat.One class.Number))
    ∷ (codes "ts-format", option.Flat (flat.One (class.Word choice.StampForm)))
    ∷ (codes "time-reopen", option.Flat (flat.One class.Number))
    ∷ []

-- further options of `file` destinations
unfoldable pub writer : List (List ℕ × OptionForm)
writer =
    (codes "template", option.Flat (flat.One class.Name))
    ∷ (codes "fsync", option.Flat (flat.One class.Truth))
    ∷ (codes "perm", option.Flat (flat.One class.Name))
    ∷ (codes "create-dirs", option.Flat (flat.One class.Truth))
    ∷ (codes "dir-perm", option.Flat (flat.One class.Name))
    ∷ (codes "time-reap", option.Flat (flat.One class.Number))
    ∷ []

-- further options of `network` and `syslog` destinations
unfoldable pub sender : List (List ℕ × OptionForm)
sender =
    (codes "port", option.Flat (flat.One class.Number))
    ∷ (codes "transport", option.Flat (flat.One (class.Word choice.Transport)))
    ∷ []

-- further options of `network` destinations
unfoldable pub framed : List (List ℕ × OptionForm)
framed =
    (codes "template", option.Flat (flat.One class.Name))
    ∷ []

-- options of a disk-buffer
unfoldable pub disk : List (List ℕ × Flat)
disk =
    (codes "reliable", flat.One class.Truth)
    ∷ (codes "disk-buf-size", flat.One class.Number)
    ∷ (codes "capacity-bytes", flat.One class.Number)
    ∷ (codes "dir", flat.One class.Name)
    ∷ (codes "mem-buf-size", flat.Skipped)
    ∷ (codes "mem-buf-length", flat.One class.Number)
    ∷ (codes "qout-size", flat.Skipped)
    ∷ (codes "front-cache-size", flat.Skipped)
    ∷ (codes "flow-control-window-bytes", flat.Skipped)
    ∷ (codes "flow-control-window-size", flat.Skipped)
    ∷ (codes "truncate-size-ratio", flat.Skipped)
    ∷ (codes "prealloc", flat.One class.Truth)
    ∷ (codes "compaction", flat.Skipped)
    ∷ []

-- global options
unfoldable pub global : List (List ℕ × Flat)
global =
    (codes "log-fifo-size", flat.One class.Number)
    ∷ (codes "log-msg-size", flat.One class.Number)
    ∷ (codes "keep-hostname", flat.One class.Truth)
    ∷ (codes "keep-timestamp", flat.One class.Truth)
    ∷ (codes "recv-time-zone", flat.One class.Name)
    ∷ (codes "time-zone", flat.One class.Name)
    ∷ (codes "frac-digits", flat.One class.Number)
    ∷ (codes "ts-format", flat.One (class.Word choice.StampForm))
    ∷ (codes "time-reopen", flat.One class.Number)
    ∷ (codes "time-reap", flat.One class.Number)
    ∷ (codes "perm", flat.One class.Name)
    ∷ (codes "create-dirs", flat.One class.Truth)
    ∷ (codes "dir-perm", flat.One class.Name)
    ∷ (codes "log-iw-size", flat.Skipped)
    ∷ (codes "log-fetch-limit", flat.Skipped)
    ∷ []

-- options without effect at sources, at destinations and as global options
unfoldable pub without_effect : List (List ℕ × Flat)
without_effect =
    (codes "owner", flat.Skipped)
    ∷ (codes "group", flat.Skipped)
    ∷ (codes "dir-owner", flat.Skipped)
    ∷ (codes "dir-group", flat.Skipped)
    ∷ (codes "dir-perm", flat.Skipped)
    ∷ (codes "create-dirs", flat.Skipped)
    ∷ (codes "use-dns", flat.Skipped)
    ∷ (codes "dns-cache", flat.Skipped)
    ∷ (codes "dns-cache-size", flat.Skipped)
    ∷ (codes "dns-cache-expire", flat.Skipped)
    ∷ (codes "dns-cache-expire-failed", flat.Skipped)
    ∷ (codes "dns-cache-hosts", flat.Skipped)
    ∷ (codes "use-fqdn", flat.Skipped)
    ∷ (codes "chain-hostnames", flat.Skipped)
    ∷ (codes "check-hostname", flat.Skipped)
    ∷ (codes "normalize-hostnames", flat.Skipped)
    ∷ (codes "bad-hostname", flat.Skipped)
    ∷ (codes "flush-lines", flat.Skipped)
    ∷ (codes "flush-timeout", flat.Skipped)
    ∷ (codes "sync", flat.Skipped)
    ∷ (codes "stats", flat.Skipped)
    ∷ (codes "stats-freq", flat.Skipped)
    ∷ (codes "stats-level", flat.Skipped)
    ∷ (codes "stats-lifetime", flat.Skipped)
    ∷ (codes "mark", flat.Skipped)
    ∷ (codes "mark-freq", flat.Skipped)
    ∷ (codes "mark-mode", flat.Skipped)
    ∷ (codes "time-reap", flat.Skipped)
    ∷ (codes "time-sleep", flat.Skipped)
    ∷ (codes "follow-freq", flat.Skipped)
    ∷ (codes "threaded", flat.Skipped)
    ∷ (codes "use-rcptid", flat.Skipped)
    ∷ (codes "use-uniqid", flat.Skipped)
    ∷ (codes "log-level", flat.Skipped)
    ∷ (codes "so-keepalive", flat.Skipped)
    ∷ (codes "so-rcvbuf", flat.Skipped)
    ∷ (codes "so-sndbuf", flat.Skipped)
    ∷ (codes "ip-tos", flat.Skipped)
    ∷ (codes "ip-ttl", flat.Skipped)
    ∷ (codes "persist-name", flat.Skipped)
    ∷ (codes "fsync", flat.Skipped)
    ∷ (codes "time-reopen", flat.Skipped)
    ∷ (codes "perm", flat.Skipped)
    ∷ []

abbrev pub or_without_effect : Option Flat → List ℕ → Option Flat
or_without_effect (Some form) text = Some form
or_without_effect None text = row_of without_effect text

-- the form of a global option
unfoldable pub global_form : List ℕ → Option Flat
global_form text = or_without_effect (row_of global text) text

abbrev pub either : Option OptionForm → Option OptionForm → Option OptionForm
either (Some form) other = Some form
either None other = other

-- the form of an option that has an effect at these drivers
unfoldable pub own_form : OptionTable → List ℕ → Option OptionForm
own_form table.FileSource text = row_of source text
own_form table.NetworkSource text = either (row_of listener text) (row_of source text)
own_form table.FileDestination text = either (row_of writer text) (row_of destination text)
own_form table.NetworkDestination text = either (row_of framed text)
    (either (row_of sender text) (row_of destination text))
own_form table.SyslogDestination text = either (row_of sender text) (row_of destination text)

abbrev pub as_flat : Option Flat → Option OptionForm
as_flat (Some form) = Some (option.Flat form)
as_flat None = None

-- the form of an option of these drivers
unfoldable pub option_form : OptionTable → List ℕ → Option OptionForm
option_form table text = either (own_form table text) (as_flat (row_of without_effect text))
