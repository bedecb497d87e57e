-- Drivers as their options make them.
use Rattle.std.specs.Prelude.{◌≡◌, List, [], ◌∷◌, ◌++◌}
use Rattle.sg_parse_expr.specs.declared.tree.Call.{Call}
use Rattle.sg_parse_obj.specs.declared.driver.Side.{Side}
use Rattle.sg_parse_obj.specs.declared.driver.Side.TheVariants as side
use Rattle.sg_source.specs.Inlets.{IsSourceDriver}
use Rattle.sg_destination.specs.Outlets.{IsDestination}
use Rattle.sg_resolve.specs.Templates.{text_in}
use Rattle.sg_plan.specs.declared.globals.Globals.{Globals}
use Rattle.sg_plan.specs.declared.driver.Driver.{Driver}
use Rattle.sg_plan.specs.declared.driver.Driver.TheVariants as driver
use Rattle.sg_plan.specs.declared.driver.OwnedDriver.{OwnedDriver}
use Rattle.sg_plan.specs.Owned.{Owned}

abbrev pub IsDriverRead : Globals → Side → Call → Driver → Type 0
IsDriverRead globals side.Source call (driver.Source source) =
    IsSourceDriver globals.defaults call source
IsDriverRead globals side.Destination call (driver.Destination dest) =
    IsDestination globals.defaults
    (text_in globals.texts) call dest
IsDriverRead globals side.Source call (driver.Destination dest) = ⊥
IsDriverRead globals side.Destination call (driver.Source source) = ⊥

-- each driver as it is written, with its statement
abbrev pub AreDriversRead : Globals → Owned → List OwnedDriver → Type 0
AreDriversRead globals [] [] = Unit {0}
AreDriversRead globals [] (driver ∷ drivers) = ⊥
AreDriversRead globals (written ∷ others) [] = ⊥
AreDriversRead globals (written ∷ others) (driver ∷ drivers) =
    (driver.owner ≡ written.0) × IsDriverRead globals written.1.0 written.1.1 driver.driver
    × AreDriversRead globals others drivers

-- these drivers come behind those that were read before
pub record ReadsDrivers (globals : Globals) (written : Owned)
    (old new : List OwnedDriver) : Type 0 where
  pub more : List OwnedDriver
  pub added : new ≡ old ++ more
  pub read : AreDriversRead globals written more
