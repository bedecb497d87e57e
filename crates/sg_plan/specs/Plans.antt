-- What the drivers of a configuration come to.
use Rattle.std.specs.Prelude.{◌≡◌, List}
use Rattle.std.specs.List.{fold}
use Rattle.sg_parse_text.specs.declared.statement.Statement.{Statement}
use Rattle.sg_plan.specs.declared.driver.OwnedDriver.{OwnedDriver}
use Rattle.sg_plan.specs.declared.plan.Plan.{Plan}
use Rattle.sg_plan.specs.Globals.{globals_of}
use Rattle.sg_plan.specs.Owned.{owned_drivers}
use Rattle.sg_plan.specs.Reading.{AreDriversRead}
use Rattle.sg_plan.specs.Parts.{parts_of, no_parts, with_driver}

-- each driver of the text is read with the global options and templates of the whole text, and adds its parts behind those before it
pub record IsPlan (statements : List Statement) (plan : Plan) : Type 0 where
  pub drivers : List OwnedDriver
  pub read : AreDriversRead (globals_of statements) (owned_drivers statements) drivers
  pub parts : parts_of plan ≡ fold with_driver no_parts drivers

-- all that they hold is the same
abbrev pub AreAlikePlans : Plan → Plan → Type 0
AreAlikePlans a b = parts_of a ≡ parts_of b
