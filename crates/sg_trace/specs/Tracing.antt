-- What `trace FILE SOURCE INPUT` does.
use Rattle.std.specs.Prelude.{◌≡◌, ◌⊎◌, ℕ, ◌+◌, Bool, false, if◌then◌else◌, List, [], ◌∷◌, map, slice_get, Option, Some, None, Result, Ok, Err}
use Rattle.std.specs.Str.{bytes_eq}
use Rattle.sg_lex.specs.declared.fault.ConfigFault.{ConfigFault}
use Rattle.sg_lex.specs.declared.fault.ConfigKind.TheVariants.{UnknownName}
use Rattle.sg_outside.specs.World.{WorldState}
use Rattle.sg_run_plan.specs.declared.inlet.InletPlan.{InletPlan}
use Rattle.sg_run_plan.specs.declared.outlet.OutletPlan.{OutletPlan}
use Rattle.sg_tree.specs.Offers.{woods_of, AreOffers}
use Rattle.sg_config.specs.declared.config.Config.{Config}
use Rattle.sg_loaded.specs.Loading.{OnlyLoads, LoadsFile, IsConfigured}
use Rattle.sg_loaded.specs.declared.loaded.Loaded.{Loaded}
use Rattle.sg_loaded.specs.declared.loaded.Unloaded.TheVariants.{Bad, Unread, NoMemory}
use Rattle.sg_trace.specs.Traces.{Traces}
use Rattle.sg_trace.specs.declared.target.FileReading.{FileReading}
use Rattle.sg_trace.specs.declared.target.SentForm.{SentForm}
use Rattle.sg_trace.specs.declared.untraced.Untraced.{Untraced}
use Rattle.sg_trace.specs.declared.untraced.Untraced.TheVariants as untraced
use Rattle.sg_trace.specs.declared.unshown.Unshown.{Unshown}
use Rattle.sg_trace.specs.declared.unshown.Unshown.TheVariants as unshown

-- whether an inlet is one of the source statement of this name
abbrev pub is_named : List ℕ → Option (List ℕ) → Bool
is_named source None = false
is_named source (Some name) = bytes_eq name source

-- the number of the first inlet of a source statement, where the first of these inlets has this number
abbrev pub first_of : ℕ → List ℕ → List InletPlan → Option ℕ
first_of number source [] = None
first_of number source (inlet ∷ inlets) =
    if is_named source inlet.source then Some number else first_of (number + 1) source inlets

-- what a destination sends
abbrev pub target_of : OutletPlan → SentForm
target_of outlet = record { shape = outlet.shape; env = outlet.env }

-- how the inlet of a number reads
abbrev pub IsReader : List InletPlan → ℕ → FileReading → Type 0
IsReader inlets i reader =
    (inlet : InletPlan) × ((slice_get inlets i ≡ Some inlet)
    × (reader ≡ record { inlet = i; kind = inlet.kind; limit = inlet.limit }))

-- how the command ends where INPUT was traced so
abbrev pub shown : Result Unit Untraced → Result Unit Unshown
shown (Ok done) = Ok done
shown (Err wrong) = Err (unshown.Untraced wrong)

-- INPUT was traced as the inlet of this number would take it, through the log paths of the configuration
pub record TracesInlet (config : Config) (i : ℕ) (loaded new : WorldState) (input : List ℕ)
    (result : Result Unit Unshown) : Type 0 where
  pub inlet : InletPlan
  pub at : slice_get config.inlets.items i ≡ Some inlet
  pub traced : Result Unit Untraced
  pub traces : Traces (AreOffers (woods_of config.forest) i) (map target_of config.outlets.items)
      inlet.kind inlet.limit loaded new input traced
  pub ends : result ≡ shown traced

-- no source statement of that name has a driver; it has no line
abbrev pub unknown_source : ConfigFault
unknown_source = record { kind = UnknownName; file = 0; line = 0 }

abbrev pub IsUnknown : List ℕ → Result Unit Unshown → Type 0
IsUnknown file (Ok done) = ⊥
IsUnknown file (Err (unshown.Unloaded (Bad fault names))) = (fault ≡ unknown_source)
    × (names ≡ file ∷ [])
IsUnknown file (Err (unshown.Unloaded (Unread name))) = ⊥
IsUnknown file (Err (unshown.Unloaded NoMemory)) = Unit {0}
IsUnknown file (Err (unshown.Untraced wrong)) = ⊥

-- the first inlet of the source has this number, or there is none
abbrev pub TracesSource : Config → List ℕ → Option ℕ → WorldState → WorldState → List ℕ
    → Result Unit Unshown → Type 0
TracesSource config file (Some i) loaded new input result = TracesInlet config i loaded new input
    result
TracesSource config file None loaded new input result = (new ≡ loaded) × IsUnknown file result

-- INPUT was traced through the log paths of the configuration of FILE, as SOURCE's first inlet would take it
pub record TracesBy (old loaded new : WorldState) (file source input : List ℕ)
    (result : Result Unit Unshown) : Type 0 where
  pub of_file : Loaded
  pub configured : IsConfigured old file of_file
  pub traces : TracesSource of_file.config file (first_of 0 source of_file.config.inlets.items)
      loaded new input result

-- why FILE wasn't loaded, unless memory ran out
abbrev pub IsNotTraced : WorldState → WorldState → List ℕ → Result Unit Unshown → Type 0
IsNotTraced old loaded file (Ok done) = ⊥
IsNotTraced old loaded file (Err (unshown.Unloaded unloaded)) =
    LoadsFile old loaded file (Err unloaded)
IsNotTraced old loaded file (Err (unshown.Untraced untraced.NoMemory)) = Unit {0}
IsNotTraced old loaded file (Err (unshown.Untraced untraced.NotOpened)) = ⊥
IsNotTraced old loaded file (Err (unshown.Untraced untraced.InletFault)) = ⊥
IsNotTraced old loaded file (Err (unshown.Untraced untraced.RoundsSpent)) = ⊥
IsNotTraced old loaded file (Err (unshown.Untraced untraced.SayFault)) = ⊥

-- FILE was loaded and INPUT traced; or it wasn't loaded, and nothing else was done
abbrev pub TracesFile : WorldState → WorldState → List ℕ → List ℕ → List ℕ → Result Unit Unshown
    → Type 0
TracesFile old new file source input result =
    (loaded : WorldState) × (OnlyLoads old loaded × (
    ((new ≡ loaded) × IsNotTraced old loaded file result)
    ⊎ TracesBy old loaded new file source input result))
