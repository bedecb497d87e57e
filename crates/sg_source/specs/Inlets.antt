-- What the options of a source make of its inlets (syslog-ng's administration guide, the options of the sources).
use Rattle.std.specs.Prelude.{◌≡◌, ℕ, ◌+◌, ◌*◌, ◌/◌, Bool, true, false, ◌&&◌, ◌||◌, not, is_none, nat_lt, if◌then◌else◌, List, [], ◌∷◌, map, codes, Option, Some, None, ℤ}
use Rattle.sg_parse_base.specs.declared.spot.Spot.{Spot}
use Rattle.sg_parse_expr.specs.declared.tree.Call.{Call}
use Rattle.sg_outside.specs.declared.request.InletSpec.{InletSpec}
use Rattle.sg_outside.specs.declared.request.InletSpec.TheVariants as inlet
use Rattle.sg_frame.specs.declared.kind.FrameKind.{FrameKind}
use Rattle.sg_frame.specs.declared.kind.FrameKind.TheVariants.{Lines, Counted}
use Rattle.sg_r3164.specs.declared.opts.ReadOpts.{ReadOpts}
use Rattle.sg_outfmt.specs.declared.shape.DriverKind.{DriverKind}
use Rattle.sg_outfmt.specs.declared.shape.DriverKind.TheVariants.{File, Network, Syslog}
use Rattle.sg_options.specs.Settings.{args_of, items_of, last_option, last_value, has_flag}
use Rattle.sg_options.specs.Values.{text_or, number_or, truth_or, zone_or, facility_or, level_or}
use Rattle.sg_options.specs.Stores.{position_name}
use Rattle.sg_driver.specs.declared.defaults.Defaults.{Defaults}
use Rattle.sg_source.specs.declared.inlet.SourceDriver.{SourceDriver}
use Rattle.sg_source.specs.declared.inlet.SourceOrigin.{SourceOrigin}
use Rattle.sg_source.specs.declared.inlet.SourceOrigin.TheVariants as place
use Rattle.sg_run_plan.specs.declared.inlet.InletPlan.{InletPlan}
use Rattle.sg_driver.specs.Limits.{window_size, fetch_limit, message_size, connections, ports}
use Rattle.sg_driver.specs.Driver.{driver_kind, options_of, name_of}
use Rattle.sg_source.specs.Sources.{port_words, connection_words}

abbrev pub flags_of : Call → Option Call
flags_of call = last_option (codes "flags" ∷ []) (options_of call)

abbrev pub is_flagged : List ℕ → Call → Bool
is_flagged word call = has_flag word (flags_of call)

-- ---- where its records come from

abbrev pub slots_of : Call → ℕ
slots_of call = number_or (last_value connection_words (options_of call)) connections 10

abbrev pub address_of : Call → List ℕ
address_of call = text_or (last_value (codes "ip" ∷ []) (options_of call)) (codes "0.0.0.0")

-- a missing port is refused
abbrev pub port_of : Call → ℕ
port_of call = number_or (last_value port_words (options_of call)) ports 0

abbrev pub listener_of : Call → SourceOrigin
listener_of call = place.Listener (address_of call) (port_of call) (slots_of call)

abbrev pub place_by : DriverKind → Call → SourceOrigin
place_by File call = place.File (name_of call)
place_by Network call = listener_of call
place_by Syslog call = listener_of call

abbrev pub place_of : Call → SourceOrigin
place_of call = place_by (driver_kind call) call

-- `syslog` counts octets
abbrev pub frames_by : DriverKind → FrameKind
frames_by File = Lines
frames_by Network = Lines
frames_by Syslog = Counted

-- a window below 100 is raised to 100
abbrev pub raised : ℕ → ℕ
raised n = if nat_lt n 100 then 100 else n

-- a listener's window is divided among its connections
abbrev pub window_by : DriverKind → Option Spot → ℕ → ℕ
window_by File value slots = raised (number_or value window_size 100)
window_by Network value slots = raised (number_or value window_size 1000 / slots)
window_by Syslog value slots = raised (number_or value window_size 1000 / slots)

abbrev pub window_of : Call → ℕ
window_of call = window_by (driver_kind call)
    (last_value (codes "log-iw-size" ∷ []) (options_of call)) (slots_of call)

-- ---- how they are read

abbrev pub facility_words : List (List ℕ)
facility_words = codes "default-facility" ∷ []

abbrev pub level_words : List (List ℕ)
level_words = codes "default-level" ∷ codes "default-priority" ∷ []

-- `kernel` stands for the facility kern where no facility and no severity is given, and else user is the default
abbrev pub default_facility : Call → ℕ
default_facility call =
    if is_flagged (codes "kernel") call
    && (is_none (last_option facility_words (options_of call))
    && is_none (last_option level_words (options_of call))) then 0 else 1

-- notice is the default severity
abbrev pub pri_of : Call → ℕ
pri_of call =
    facility_or (last_value facility_words (options_of call)) (default_facility call) * 8
    + level_or (last_value level_words (options_of call)) 5

abbrev pub is_syslog : DriverKind → Bool
is_syslog File = false
is_syslog Network = false
is_syslog Syslog = true

-- `syslog`, and others with the flag, read RFC 5424; with `no-parse` nothing is parsed
abbrev pub reads_5424 : Call → Bool
reads_5424 call = (is_syslog (driver_kind call) || is_flagged (codes "syslog-protocol") call)
    && not (is_flagged (codes "no-parse") call)

abbrev pub texts_behind : Option Call → List (List ℕ)
texts_behind None = []
texts_behind (Some call) = map (λ spot. spot.token.text) (items_of (args_of call))

abbrev pub tags_of : Call → List (List ℕ)
tags_of call = texts_behind (last_option (codes "tags" ∷ []) (options_of call))

-- two words for one option
abbrev pub zone_of : Call → ℤ → ℤ
zone_of call default = zone_or
    (last_value (codes "recv-time-zone" ∷ codes "time-zone" ∷ []) (options_of call)) default

-- the readers' options
pub record HasOpts (defaults : Defaults) (call : Call) (opts : ReadOpts) : Type 0 where
  pub pri : opts.pri ≡ pri_of call
  pub zone : opts.zone ≡ zone_of call defaults.received_zone
  pub keep_hostname : opts.keep_hostname
      ≡ truth_or (last_value (codes "keep-hostname" ∷ []) (options_of call)) defaults.keep_hostname
  pub keep_timestamp : opts.keep_timestamp
      ≡ truth_or (last_value (codes "keep-timestamp" ∷ []) (options_of call))
      defaults.keep_timestamp
  pub parse : opts.parse ≡ not (is_flagged (codes "no-parse") call)

-- what the options of a driver make, with these defaults
pub record IsSourceDriver (defaults : Defaults) (call : Call) (source : SourceDriver) : Type 0 where
  pub place : source.place ≡ place_of call
  pub kind : source.kind ≡ frames_by (driver_kind call)
  pub limit : source.limit ≡ number_or (last_value (codes "log-msg-size" ∷ []) (options_of call))
      message_size defaults.message_size
  pub fetch : source.fetch ≡ number_or (last_value (codes "log-fetch-limit" ∷ []) (options_of call))
      fetch_limit 100
  pub window : source.window ≡ window_of call
  pub opts : HasOpts defaults call source.opts
  pub rfc5424 : source.rfc5424 ≡ reads_5424 call
  pub empty_lines : source.empty_lines ≡ is_flagged (codes "empty-lines") call
  pub one_line : source.one_line ≡ is_flagged (codes "no-multi-line") call
  pub tags : source.tags ≡ tags_of call

-- ---- its inlets

abbrev pub spec_at : SourceOrigin → ℕ → ℕ → InletSpec
spec_at (place.File path) limit slot = inlet.File path false limit
spec_at (place.Listener ip port slots) limit slot = inlet.Slot ip port slot false

-- the inlet of a slot of the driver of this number, in the source of this name
abbrev pub plan_of : SourceDriver → ℕ → ℕ → Option (List ℕ) → InletPlan
plan_of source slot driver name =
    record {
      spec = spec_at source.place source.limit slot;
      source = name;
      driver = driver;
      kind = source.kind;
      limit = source.limit;
      fetch = source.fetch;
    }

abbrev pub slots_at : SourceOrigin → ℕ
slots_at (place.File path) = 1
slots_at (place.Listener ip port slots) = slots

abbrev pub store_at : SourceOrigin → Option (List ℕ)
store_at (place.File path) = Some (position_name path)
store_at (place.Listener ip port slots) = None
