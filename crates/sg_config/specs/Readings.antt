-- How the records of inlets are read.
use Rattle.std.specs.Prelude.{List, [], ◌∷◌, slice_get, Option, Some, None}
use Rattle.std.specs.List.{flat_map}
use Rattle.sg_source.specs.declared.inlet.SourceDriver.{SourceDriver}
use Rattle.sg_run_plan.specs.declared.inlet.InletPlan.{InletPlan}
use Rattle.sg_tree.specs.Readings.{InletReading}

-- as its driver says
abbrev pub reading_of : SourceDriver → InletReading
reading_of driver = record {
  opts = driver.opts;
  rfc5424 = driver.rfc5424;
  empty_lines = driver.empty_lines;
  one_line = driver.one_line;
  tags = driver.tags;
}

abbrev pub readings_at : Option SourceDriver → List InletReading
readings_at None = []
readings_at (Some driver) = reading_of driver ∷ []

-- each inlet by the driver of the number that it names
abbrev pub readings_of : List SourceDriver → List InletPlan → List InletReading
readings_of drivers inlets = flat_map (λ inlet. readings_at (slice_get drivers inlet.driver)) inlets
