-- The drivers of a text are read as one list.
use Rattle.std.proofs.Common.{◌≡◌, ◌∙◌, List, [], ◌∷◌, refl, sym, ap}
use Rattle.std.specs.List.{fold}
use Rattle.sg_parse_expr.specs.declared.tree.Call.{Call}
use Rattle.sg_parse_obj.specs.declared.driver.Side.{Side}
use Rattle.sg_parse_obj.specs.declared.driver.Side.TheVariants as side
use Rattle.sg_parse_text.specs.declared.statement.Statement.{Statement}
use Rattle.sg_source.proofs.Alike.{sources_are_one}
use Rattle.sg_destination.proofs.Alike.{destinations_are_one}
use Rattle.sg_resolve.specs.Templates.{text_in}
use Rattle.sg_plan.specs.declared.globals.Globals.{Globals}
use Rattle.sg_plan.specs.declared.driver.Driver.{Driver}
use Rattle.sg_plan.specs.declared.driver.Driver.TheVariants as driver
use Rattle.sg_plan.specs.declared.driver.OwnedDriver.{OwnedDriver}
use Rattle.sg_plan.specs.declared.plan.Plan.{Plan}
use Rattle.sg_plan.specs.Globals.{globals_of}
use Rattle.sg_plan.specs.Owned.{Owned, owned_drivers}
use Rattle.sg_plan.specs.Reading.{IsDriverRead, AreDriversRead}
use Rattle.sg_plan.specs.Parts.{no_parts, with_driver}
use Rattle.sg_plan.specs.Plans.{IsPlan, AreAlikePlans}

driver-is-one : (globals : Globals) (side : Side) (call : Call) (a b : Driver) → IsDriverRead globals side call a → IsDriverRead globals side call b → a ≡ b
driver-is-one globals side.Source call (driver.Source a) (driver.Source b) p q = ap driver.Source (sources_are_one globals.defaults call a b p q)
driver-is-one globals side.Source call (driver.Source a) (driver.Destination b) p q = absurd q
driver-is-one globals side.Source call (driver.Destination a) b p q = absurd p
driver-is-one globals side.Destination call (driver.Destination a) (driver.Destination b) p q = ap driver.Destination (destinations_are_one globals.defaults (text_in globals.texts) call a b p q)
driver-is-one globals side.Destination call (driver.Destination a) (driver.Source b) p q = absurd q
driver-is-one globals side.Destination call (driver.Source a) b p q = absurd p

same-owned : (a b : OwnedDriver) → a.owner ≡ b.owner → a.driver ≡ b.driver → a ≡ b
same-owned a b owner driver = λ i. record { owner = owner i; driver = driver i }

pub drivers-are-one : (globals : Globals) (written : Owned) (xs ys : List OwnedDriver) → AreDriversRead globals written xs → AreDriversRead globals written ys → xs ≡ ys
drivers-are-one globals [] [] [] p q = refl
drivers-are-one globals [] (a ∷ xs) ys p q = absurd p
drivers-are-one globals [] [] (b ∷ ys) p q = absurd q
drivers-are-one globals (w ∷ ws) [] ys p q = absurd p
drivers-are-one globals (w ∷ ws) (a ∷ xs) [] p q = absurd q
drivers-are-one globals (w ∷ ws) (a ∷ xs) (b ∷ ys) p q =
    λ i. same-owned a b (p.0 ∙ sym q.0) (driver-is-one globals w.1.0 w.1.1 a.driver b.driver p.1 q.1) i ∷ drivers-are-one globals ws xs ys p.2 q.2 i

pub plans_are_one : (statements : List Statement) (a b : Plan) → IsPlan statements a → IsPlan statements b → AreAlikePlans a b
plans_are_one statements a b p q =
    p.parts ∙ ap (fold with_driver no_parts) (drivers-are-one (globals_of statements) (owned_drivers statements) p.drivers q.drivers p.read q.read) ∙ sym q.parts
