-- A plan is within the limits.
use Rattle.std.proofs.Common.{◌≡◌, ◌+◌, ◌<◌, ◌≤◌, ◌^◌, List, [], ◌∷◌, length, None, ◌∙◌, ap, sym, subst, arith}
use Rattle.std.specs.List.{fold, AllByRecursion}
use Rattle.std.proofs.lemmas.List.{length-append, length_push}
use Rattle.sg_parse_expr.specs.declared.tree.Call.{Call}
use Rattle.sg_parse_obj.specs.declared.driver.Side.{Side}
use Rattle.sg_parse_obj.specs.declared.driver.Side.TheVariants as side
use Rattle.sg_parse_text.specs.declared.statement.Statement.{Statement}
use Rattle.sg_source.specs.declared.inlet.SourceDriver.{SourceDriver}
use Rattle.sg_source.specs.Inlets.{IsSourceDriver}
use Rattle.sg_source.specs.Sources.{source_faults}
use Rattle.sg_plan.specs.declared.owner.Owner.{Owner}
use Rattle.sg_resolve.specs.declared.templates.TemplateTexts.{TemplateTexts}
use Rattle.sg_resolve.specs.Templates.{text_in, templates_of}
use Rattle.sg_resolve.specs.Drivers.{own_faults}
use Rattle.sg_resolve.specs.First.{IsFirstFault}
use Rattle.sg_plan.specs.declared.globals.Globals.{Globals}
use Rattle.sg_plan.specs.declared.driver.Driver.{Driver}
use Rattle.sg_plan.specs.declared.driver.Driver.TheVariants as driver
use Rattle.sg_plan.specs.declared.driver.OwnedDriver.{OwnedDriver}
use Rattle.sg_plan.specs.declared.plan.Plan.{Plan}
use Rattle.sg_plan.specs.Globals.{globals_of}
use Rattle.sg_plan.specs.Owned.{Owned, owned_drivers}
use Rattle.sg_plan.specs.Reading.{IsDriverRead, AreDriversRead}
use Rattle.sg_plan.specs.Parts.{PlanParts, no_parts, with_one, with_driver}
use Rattle.sg_plan.specs.Plans.{IsPlan}
use Rattle.sg_plan.specs.Limits.{ArePartsWithin, IsPlanWithin}
use Rattle.sg_plan.proofs.Fair.{AreFair, defaults-fair, source-fair, destination-fair}
use Rattle.sg_plan.proofs.Clean.{inlets_by, outlets_by, inlets_in, outlets_in, drivers-are-clean, source-slots, source-has-slots}
use Rattle.sg_plan.proofs.Sound.{IsSoundPart, no-parts-sound, inlets-length, source-sound, destination-sound}
use Rattle.sg_plan.proofs.Written.{written}
use Rattle.sg_plan.proofs.Joined.{drivers-joined}

-- with a driver more, which has no fault
record IsMore (texts : TemplateTexts) (d : Side × Call) (old new : PlanParts) : Type 0 where
  sound : IsSoundPart new
  inlets : length new.inlets ≡ length old.inlets + inlets_by d.0 d.1
  outlets : length new.outlets ≡ length old.outlets + outlets_by d.0
  some : 1 ≤ inlets_by d.0 d.1 + outlets_by d.0

source-more : (globals : Globals) (call : Call) (source : SourceDriver) (owner : Owner) (parts : PlanParts) → AreFair globals.defaults → IsSourceDriver globals.defaults call source → source_faults call ≡ [] → IsSoundPart parts
    → IsMore globals.texts (side.Source, call) parts (with_one parts owner (driver.Source source))
source-more globals call source owner parts fair is clean sound =
    let slots = source-slots globals.defaults call source is clean in
    let some = source-has-slots globals.defaults call source is in
    record {
      sound = source-sound parts owner source (source-fair globals.defaults call source fair is) sound;
      inlets = length-append parts.inlets _ ∙ ap (λ k. length parts.inlets + k) (inlets-length (length parts.sources) owner source ∙ slots);
      outlets = omega arith;
      some = (let p = subst (λ k. 1 ≤ k) slots some in omega arith);
    }

driver-more : (globals : Globals) (d : Side × Call) (owner : Owner) (one : Driver) (parts : PlanParts) → AreFair globals.defaults → IsDriverRead globals d.0 d.1 one → own_faults globals.texts d.0 d.1 ≡ [] → IsSoundPart parts
    → IsMore globals.texts d parts (with_one parts owner one)
driver-more globals (side.Source, call) owner (driver.Source source) parts fair is clean sound = source-more globals call source owner parts fair is clean sound
driver-more globals (side.Source, call) owner (driver.Destination dest) parts fair is clean sound = absurd is
driver-more globals (side.Destination, call) owner (driver.Source source) parts fair is clean sound = absurd is
driver-more globals (side.Destination, call) owner (driver.Destination dest) parts fair is clean sound = record {
  sound = destination-sound parts owner dest (destination-fair globals.defaults (text_in globals.texts) call dest fair is) sound;
  inlets = omega arith;
  outlets = length_push parts.outlets dest.plan;
  some = omega arith;
}

-- with all drivers of a list
record AreMore (ds : List (Side × Call)) (drivers : List OwnedDriver) (old new : PlanParts) : Type 0 where
  sound : IsSoundPart new
  inlets : length new.inlets ≡ length old.inlets + inlets_in ds
  outlets : length new.outlets ≡ length old.outlets + outlets_in ds
  few : length drivers ≤ inlets_in ds + outlets_in ds

drivers-more : (globals : Globals) (owned : Owned) (drivers : List OwnedDriver) (parts : PlanParts) → AreFair globals.defaults → AreDriversRead globals owned drivers
    → AllByRecursion (λ d. own_faults globals.texts d.0 d.1 ≡ []) (written owned) → IsSoundPart parts → AreMore (written owned) drivers parts (fold with_driver parts drivers)
drivers-more globals [] [] parts fair read clean sound = record { sound = sound; inlets = omega arith; outlets = omega arith; few = omega arith }
drivers-more globals [] (d ∷ ds) parts fair read clean sound = absurd read
drivers-more globals (o ∷ os) [] parts fair read clean sound = absurd read
drivers-more globals (o ∷ os) (d ∷ ds) parts fair read clean sound =
    let here = driver-more globals o.1 d.owner d.driver parts fair read.1 clean.0 sound in
    let rest = drivers-more globals os ds (with_driver parts d) fair read.2 clean.1 here.sound in
    let hi = here.inlets in
    let ho = here.outlets in
    let hs = here.some in
    let ri = rest.inlets in
    let ro = rest.outlets in
    let rf = rest.few in
    record { sound = rest.sound; inlets = omega arith; outlets = omega arith; few = omega arith }

all-more : (statements : List Statement) (drivers : List OwnedDriver) → IsFirstFault statements None → AreDriversRead (globals_of statements) (owned_drivers statements) drivers
    → AreMore (written (owned_drivers statements)) drivers no_parts (fold with_driver no_parts drivers)
all-more statements drivers h read =
    drivers-more (globals_of statements) (owned_drivers statements) drivers no_parts (defaults-fair statements) read
    (subst (AllByRecursion (λ d. own_faults (templates_of statements) d.0 d.1 ≡ [])) (drivers-joined statements) (drivers-are-clean statements h).own) no-parts-sound

record AreFew (ds : List (Side × Call)) : Type 0 where
  inlets : inlets_in ds ≤ 128
  outlets : outlets_in ds ≤ 64

drivers-are-few : (statements : List Statement) → IsFirstFault statements None → AreFew (written (owned_drivers statements))
drivers-are-few statements h =
    let clean = drivers-are-clean statements h in
    let i = clean.inlets_few in
    let o = clean.outlets_few in
    subst AreFew (drivers-joined statements) (record { inlets = omega arith; outlets = omega arith })

pub few-drivers : (statements : List Statement) (drivers : List OwnedDriver) → IsFirstFault statements None → AreDriversRead (globals_of statements) (owned_drivers statements) drivers → length drivers < 2 ^ 32
few-drivers statements drivers h read =
    let more = (all-more statements drivers h read).few in
    let few = drivers-are-few statements h in
    let i = few.inlets in
    let o = few.outlets in
    omega arith

parts-within : (statements : List Statement) (drivers : List OwnedDriver) → IsFirstFault statements None → AreDriversRead (globals_of statements) (owned_drivers statements) drivers → ArePartsWithin (fold with_driver no_parts drivers)
parts-within statements drivers h read =
    let more = all-more statements drivers h read in
    let sound = more.sound in
    let few = drivers-are-few statements h in
    let i = few.inlets in
    let o = few.outlets in
    let mi = more.inlets in
    let mo = more.outlets in
    let s = sound.stores in
    record {
      inlets = omega arith;
      outlets = omega arith;
      stores = omega arith;
      inlet_setups = sound.inlet_setups;
      outlet_setups = sound.outlet_setups;
      inlet_owners = sound.inlet_owners;
      outlet_owners = sound.outlet_owners;
      numbers = sound.numbers;
      windows = sound.windows;
      rooms = sound.rooms;
      each = sound.each;
      held = λ d outlet overflow at is. sound.held d outlet at overflow is;
    }

pub plans_are_within : (statements : List Statement) (plan : Plan) → IsFirstFault statements None → IsPlan statements plan → IsPlanWithin plan
plans_are_within statements plan h is = subst ArePartsWithin (sym is.parts) (parts-within statements is.drivers h is.read)
