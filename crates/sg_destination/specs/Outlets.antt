-- What the options of a destination make of its outlet (syslog-ng's administration guide, the options of the destinations).
use Rattle.std.specs.Prelude.{◌≡◌, ℕ, Bool, false, if◌then◌else◌, [], ◌∷◌, codes, Option, Some, None}
use Rattle.sg_parse_expr.specs.declared.tree.Call.{Call}
use Rattle.sg_outside.specs.declared.request.OutletSpec.{OutletSpec}
use Rattle.sg_outside.specs.declared.request.OutletSpec.TheVariants as outlet
use Rattle.sg_template.specs.declared.env.Env.{Env}
use Rattle.sg_outfmt.specs.declared.shape.Shape.{Shape}
use Rattle.sg_outfmt.specs.declared.shape.DriverKind.{DriverKind}
use Rattle.sg_outfmt.specs.declared.shape.DriverKind.TheVariants.{File, Network, Syslog}
use Rattle.sg_options.specs.Settings.{last_value}
use Rattle.sg_options.specs.Values.{number_or, truth_or, zone_or_none, mode_or}
use Rattle.sg_driver.specs.declared.defaults.Defaults.{Defaults}
use Rattle.sg_run_plan.specs.declared.outlet.OutletPlan.{OutletPlan}
use Rattle.sg_destination.specs.declared.outlet.DestinationDriver.{DestinationDriver}
use Rattle.sg_driver.specs.Limits.{fifo_size, fraction_digits, reopen_time, reap_time}
use Rattle.sg_driver.specs.Driver.{driver_kind, options_of, name_of}
use Rattle.sg_driver.specs.Defaults.{iso_or}
use Rattle.sg_destination.specs.Templates.{Texts, template_words, HasShape}
use Rattle.sg_destination.specs.Buffers.{port_of, buffer_of, overflow_of}
use Rattle.sg_destination.specs.ByPath.{is_by_path, path_parts, with_path}

abbrev pub reopen_of : Defaults → Call → ℕ
reopen_of defaults call = number_or (last_value (codes "time-reopen" ∷ []) (options_of call))
    reopen_time defaults.reopen

abbrev pub reap_of : Defaults → Call → ℕ
reap_of defaults call = number_or (last_value (codes "time-reap" ∷ []) (options_of call)) reap_time
    defaults.reap

abbrev pub fsync_of : Call → Bool
fsync_of call = truth_or (last_value (codes "fsync" ∷ []) (options_of call)) false

abbrev pub mode_of : Defaults → Call → ℕ
mode_of defaults call = mode_or (last_value (codes "perm" ∷ []) (options_of call)) defaults.mode

abbrev pub makes_folders : Defaults → Call → Bool
makes_folders defaults call = truth_or (last_value (codes "create-dirs" ∷ []) (options_of call))
    defaults.folders

-- the mode of the folders on the way to a file, where missing ones are made too
abbrev pub folders_of : Defaults → Call → Option ℕ
folders_of defaults call = if makes_folders defaults call
    then Some (mode_or (last_value (codes "dir-perm" ∷ []) (options_of call)) defaults.folder_mode)
    else None

abbrev pub file_of : Defaults → Call → OutletSpec
file_of defaults call = if is_by_path call
    then outlet.ByPath (fsync_of call) (mode_of defaults call) (folders_of defaults call)
    (reopen_of defaults call) (reap_of defaults call)
    else outlet.File (name_of call) (fsync_of call) (mode_of defaults call)
    (folders_of defaults call) (reopen_of defaults call)

abbrev pub host_of : Defaults → Call → OutletSpec
host_of defaults call = outlet.Tcp (name_of call) (port_of call) (reopen_of defaults call)

abbrev pub spec_by : DriverKind → Defaults → Call → OutletSpec
spec_by File defaults call = file_of defaults call
spec_by Network defaults call = host_of defaults call
spec_by Syslog defaults call = host_of defaults call

-- how macros are shown
pub record HasEnv (defaults : Defaults) (call : Call) (env : Env) : Type 0 where
  pub zone : env.zone ≡ zone_or_none (last_value (codes "time-zone" ∷ []) (options_of call))
      defaults.zone
  pub digits : env.digits ≡ number_or (last_value (codes "frac-digits" ∷ []) (options_of call))
      fraction_digits defaults.digits
  pub iso : env.iso ≡ iso_or (last_value (codes "ts-format" ∷ []) (options_of call)) defaults.iso
  pub old : env.old ≡ None

-- the shape of the frames, by the path's template and that of the text
pub record HasFrames (texts : Texts) (call : Call) (shape : Shape) : Type 0 where
  pub text : Shape
  pub has_text : HasShape texts (driver_kind call) (last_value template_words (options_of call))
      text
  pub shape_is : shape ≡ with_path (path_parts call) text

-- what is opened, and what is sent
pub record IsOutletPlan (defaults : Defaults) (texts : Texts) (call : Call)
    (plan : OutletPlan) : Type 0 where
  pub spec : plan.spec ≡ spec_by (driver_kind call) defaults call
  pub shape : HasFrames texts call plan.shape
  pub env : HasEnv defaults call plan.env
  pub overflow : plan.overflow ≡ overflow_of call

-- what the options of a driver make, with these defaults and templates
pub record IsDestination (defaults : Defaults) (texts : Texts) (call : Call)
    (dest : DestinationDriver) : Type 0 where
  pub plan : IsOutletPlan defaults texts call dest.plan
  pub fifo : dest.fifo ≡ number_or (last_value (codes "log-fifo-size" ∷ []) (options_of call))
      fifo_size defaults.fifo
  pub buffer : dest.buffer ≡ buffer_of call
