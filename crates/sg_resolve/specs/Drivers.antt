-- The drivers of a configuration, in the order of the text.
use Rattle.std.specs.Prelude.{ℕ, ◌+◌, min, nat_lt, if◌then◌else◌, List, [], ◌∷◌, ◌++◌, map, Option, Some, None}
use Rattle.std.specs.List.{flat_map}
use Rattle.std.specs.Ordering.{nat_cmp}
use Rattle.std.specs.Cmp.Lexicographic.{slice_cmp}
use Rattle.std.specs.FinMap as fin
use Rattle.sg_lex.specs.declared.fault.ConfigKind.{ConfigKind}
use Rattle.sg_lex.specs.declared.fault.ConfigKind.TheVariants.{DuplicateName, Limit}
use Rattle.sg_parse_base.specs.Input.{spot_line}
use Rattle.sg_parse_expr.specs.declared.tree.Call.{Call}
use Rattle.sg_parse_obj.specs.declared.driver.Side.{Side}
use Rattle.sg_parse_obj.specs.declared.driver.Side.TheVariants.{Source, Destination}
use Rattle.sg_fault.specs.declared.placed.Placed.{Placed}
use Rattle.sg_fault.specs.Faults.{earlier, least}
use Rattle.sg_options.specs.Settings.{word_of}
use Rattle.sg_source.specs.Sources.{source_faults, store_of_source, inlet_count}
use Rattle.sg_destination.specs.Destinations.{destination_faults}
use Rattle.sg_destination.specs.Buffers.{store_of_destination}
use Rattle.sg_resolve.specs.declared.templates.TemplateTexts.{TemplateTexts}
use Rattle.sg_resolve.specs.declared.driver.DriverCounts.{DriverCounts}
use Rattle.sg_resolve.specs.Templates.{text_in}

abbrev pub StoreCounts : Type 0
StoreCounts = fin.FinMap (slice_cmp nat_cmp) ℕ

abbrev pub no_drivers : DriverCounts
no_drivers = record { first = None; inlets = 0; destinations = 0; stores = fin.empty }

abbrev pub own_faults : TemplateTexts → Side → Call → List Placed
own_faults texts Source call = source_faults call
own_faults texts Destination call = destination_faults (text_in texts) call

-- the store that a driver has
abbrev pub store_of : Side → Call → Option (List ℕ)
store_of Source call = store_of_source call
store_of Destination call = store_of_destination call

-- how many inlets and drivers of destinations there are with a driver more, counted no further than above the limits
abbrev pub more_inlets : ℕ → Side → Call → ℕ
more_inlets inlets Source call = min 129 (inlets + inlet_count call)
more_inlets inlets Destination call = inlets

abbrev pub more_destinations : ℕ → Side → ℕ
more_destinations destinations Source = destinations
more_destinations destinations Destination = min 65 (destinations + 1)

abbrev pub at_word : ConfigKind → Call → Placed
at_word kind call = record { kind = kind; line = spot_line (word_of call) }

-- "too many": at each driver with which there are more
abbrev pub limit_faults : ℕ → ℕ → Side → Call → List Placed
limit_faults inlets destinations Source call =
    if nat_lt 128 inlets then at_word Limit call ∷ [] else []
limit_faults inlets destinations Destination call =
    if nat_lt 64 destinations then at_word Limit call ∷ [] else []

-- "name defined twice": at a driver whose store one before has
abbrev pub repeats : StoreCounts → Option (List ℕ) → Call → List Placed
repeats stores None call = []
repeats stores (Some name) call =
    if fin.contains_key stores name then at_word DuplicateName call ∷ [] else []

abbrev pub with_store : StoreCounts → Option (List ℕ) → StoreCounts
with_store stores None = stores
with_store stores (Some name) = fin.insert stores name 0

-- the first fault with that of a driver more
abbrev pub first_with : TemplateTexts → DriverCounts → ℕ → ℕ → Side → Call → Option Placed
first_with texts count inlets destinations side call =
    earlier count.first (earlier (least (own_faults texts side call))
    (earlier (least (limit_faults inlets destinations side call))
    (least (repeats count.stores (store_of side call) call))))

-- with a driver more
unfoldable pub with_driver : TemplateTexts → DriverCounts → Side × Call → DriverCounts
with_driver texts count driver = record {
  first = first_with texts count (more_inlets count.inlets driver.0 driver.1)
      (more_destinations count.destinations driver.0) driver.0 driver.1;
  inlets = more_inlets count.inlets driver.0 driver.1;
  destinations = more_destinations count.destinations driver.0;
  stores = with_store count.stores (store_of driver.0 driver.1);
}
