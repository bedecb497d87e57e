-- One inlet more is read.
use Rattle.std.proofs.Common.{◌≡◌, ◌∙◌, ℕ, ◌+◌, ◌<◌, ◌≤◌, List, [], ◌∷◌, ◌++◌, length, take, get_or, slice_get, map, Some, sym, ap}
use Rattle.std.proofs.lemmas.List.{take_more, take_all, map-append, flat_map_more}
use Rattle.sg_source.specs.declared.inlet.SourceDriver.{SourceDriver}
use Rattle.sg_run_plan.specs.declared.inlet.InletPlan.{InletPlan}
use Rattle.sg_tree.specs.Readings.{InletReading, inlet_of}
use Rattle.sg_tree.specs.declared.forest.InletRule.{InletRule}
use Rattle.sg_config.specs.Readings.{reading_of, readings_at, readings_of}

pub more-rules : (rules : List InletRule) (rule : InletRule) (driver : SourceDriver) → inlet_of rule ≡ reading_of driver
    → map inlet_of (rules ++ rule ∷ []) ≡ map inlet_of rules ++ readings_at (Some driver)
more-rules rules rule driver is = map-append inlet_of rules (rule ∷ []) ∙ ap (λ r. map inlet_of rules ++ r ∷ []) is

abbrev reading-by : List SourceDriver → InletPlan → List InletReading
reading-by drivers inlet = readings_at (slice_get drivers inlet.driver)

pub one-more : (drivers : List SourceDriver) (inlets : List InletPlan) (old new : List InletRule) (i : ℕ) (inlet : InletPlan) → i < length inlets → inlet ≡ get_or inlets i inlet
    → map inlet_of old ≡ readings_of drivers (take i inlets) → map inlet_of new ≡ map inlet_of old ++ reading-by drivers inlet
    → map inlet_of new ≡ readings_of drivers (take (i + 1) inlets)
one-more drivers inlets old new i inlet within item before here =
    here ∙ (λ j. before j ++ reading-by drivers (item j)) ∙ flat_map_more (reading-by drivers) [] (take i inlets) (get_or inlets i inlet) ∙ ap (readings_of drivers) (sym (take_more inlets i inlet within))

pub all-read : (drivers : List SourceDriver) (inlets : List InletPlan) (rules : List InletRule) (i : ℕ) → length inlets ≤ i
    → map inlet_of rules ≡ readings_of drivers (take i inlets) → map inlet_of rules ≡ readings_of drivers inlets
all-read drivers inlets rules i past before = before ∙ ap (readings_of drivers) (take_all i inlets past)
