-- The inlets of a configuration with a stored position are of files, which are read by lines.
use Rattle.std.proofs.Common.{◌≡◌, ℕ, zero, suc, Bool, true, false, List, [], ◌∷◌, ◌++◌, length, map, replicate, slice_get, Some, None, refl, sym, ap, ◌∙◌, subst, arith}
use Rattle.std.specs.Prelude.{is_some}
use Rattle.std.specs.List.{fold, range_with_len}
use Rattle.std.proofs.lemmas.List.{length-append, length-map, length-replicate}
use Rattle.std.proofs.lemmas.List.FromFn.{length-range_with_len}
use Rattle.sg_list.proofs.ListLemmas.{some-same}
use Rattle.sg_lex.specs.declared.token.Token.{Token}
use Rattle.sg_parse_expr.specs.declared.tree.Call.{Call}
use Rattle.sg_parse_obj.specs.declared.driver.Side.{Side}
use Rattle.sg_parse_obj.specs.declared.driver.Side.TheVariants as side
use Rattle.sg_parse_text.specs.declared.statement.Statement.{Statement}
use Rattle.sg_frame.specs.declared.kind.FrameKind.{FrameKind}
use Rattle.sg_frame.specs.declared.kind.FrameKind.TheVariants.{Lines}
use Rattle.sg_machine.specs.declared.setup.Setup.{Setup}
use Rattle.sg_machine.specs.declared.setup.SourceSetup.{SourceSetup}
use Rattle.sg_outfmt.specs.declared.shape.DriverKind.{DriverKind}
use Rattle.sg_outfmt.specs.declared.shape.DriverKind.TheVariants.{File, Network, Syslog}
use Rattle.sg_driver.specs.Driver.{driver_kind}
use Rattle.sg_run_plan.specs.declared.inlet.InletPlan.{InletPlan}
use Rattle.sg_source.specs.declared.inlet.SourceOrigin.{SourceOrigin}
use Rattle.sg_source.specs.declared.inlet.SourceDriver.{SourceDriver}
use Rattle.sg_source.specs.Inlets.{IsSourceDriver, place_by, frames_by, spec_at, plan_of, slots_at, store_at}
use Rattle.sg_plan.specs.declared.globals.Globals.{Globals}
use Rattle.sg_plan.specs.declared.driver.Driver.{Driver}
use Rattle.sg_plan.specs.declared.driver.Driver.TheVariants as driver
use Rattle.sg_plan.specs.declared.driver.OwnedDriver.{OwnedDriver}
use Rattle.sg_plan.specs.declared.plan.Plan.{Plan}
use Rattle.sg_plan.specs.Globals.{globals_of}
use Rattle.sg_plan.specs.Owned.{Owned, owned_drivers}
use Rattle.sg_plan.specs.Parts.{PlanParts, parts_of, no_parts, name_in, number_by, setup_of, with_one, with_driver}
use Rattle.sg_plan.specs.Plans.{IsPlan}
use Rattle.sg_plan.specs.Reading.{IsDriverRead, AreDriversRead}
use Rattle.sg_config.specs.Means.{Means}
use Rattle.sg_config.specs.declared.config.Config.{Config}
use Rattle.sg_laws.specs.Covered.{IsFile}
use Rattle.sg_laws.specs.Fresh.{HasLimit, HaveLimits}
use Rattle.sg_laws.specs.Happened.{IsOfFile}
use Rattle.sg_run.specs.Covering.{ReadsFiles}
use Rattle.sg_run.specs.Meaning.{planned}

-- the inlet is that of a file, and read by lines that its device cuts where the framing does, where it has a store
abbrev IsTied : SourceSetup → InletPlan → Type 0
IsTied setup inlet = is_some setup.store ≡ true → IsOfFile inlet.spec × (inlet.kind ≡ Lines) × HasLimit inlet.spec inlet.limit

abbrev AreTied : List SourceSetup → List InletPlan → Type 0
AreTied [] inlets = Unit {0}
AreTied (s ∷ ss) [] = Unit {0}
AreTied (s ∷ ss) (p ∷ ps) = IsTied s p × AreTied ss ps

tied-at : (ss : List SourceSetup) (ps : List InletPlan) (i : ℕ) (s : SourceSetup) (p : InletPlan) → AreTied ss ps → slice_get ss i ≡ Some s → slice_get ps i ≡ Some p → IsTied s p
tied-at [] ps i s p t h q = absurd (let wrong : None ≡ Some s = h in cc)
tied-at (x ∷ ss) [] i s p t h q = absurd (let wrong : None ≡ Some p = q in cc)
tied-at (x ∷ ss) (y ∷ ps) zero s p t h q =
    let P : SourceSetup → Type 0 = λ z. IsTied z p in
    let Q : InletPlan → Type 0 = λ z. IsTied x z in
    subst P (some-same x s h) (subst Q (some-same y p q) t.0)
tied-at (x ∷ ss) (y ∷ ps) (suc i) s p t h q = tied-at ss ps i s p t.1 h q

tied-append : (ss rs : List SourceSetup) (ps qs : List InletPlan) → length ss ≡ length ps → AreTied ss ps → AreTied rs qs → AreTied (ss ++ rs) (ps ++ qs)
tied-append [] rs [] qs same t u = u
tied-append [] rs (p ∷ ps) qs same t u = absurd (omega (arith, same))
tied-append (s ∷ ss) rs [] qs same t u = absurd (omega (arith, same))
tied-append (s ∷ ss) rs (p ∷ ps) qs same t u = (t.0, tied-append ss rs ps qs (omega (arith, same)) t.1 u)

-- One driver.

tied-slots : (n : ℕ) (setup : SourceSetup) (f : ℕ → InletPlan) (slots : List ℕ) → ((slot : ℕ) → IsTied setup (f slot)) → AreTied (replicate n setup) (map f slots)
tied-slots zero setup f slots each = tt
tied-slots (suc n) setup f [] each = tt
tied-slots (suc n) setup f (x ∷ slots) each = (each x, tied-slots n setup f slots each)

-- a driver that has a store is of a file, and reads lines
of-kind : (kind : DriverKind) (call : Call) (count limit slot : ℕ) (place : SourceOrigin) (frames : FrameKind) → place ≡ place_by kind call → frames ≡ frames_by kind → is_some (number_by count (store_at place)) ≡ true → IsOfFile (spec_at place limit slot) × (frames ≡ Lines) × HasLimit (spec_at place limit slot) limit
of-kind File call count limit slot place frames is by has =
    let P : SourceOrigin → Type 0 = λ p. IsOfFile (spec_at p limit slot) in
    let Q : SourceOrigin → Type 0 = λ p. HasLimit (spec_at p limit slot) limit in
    (subst P (sym is) tt, by, subst Q (sym is) refl)
of-kind Network call count limit slot place frames is by has = let P : SourceOrigin → Type 0 = λ p. is_some (number_by count (store_at p)) ≡ true in absurd (let wrong : false ≡ true = subst P is has in cc)
of-kind Syslog call count limit slot place frames is by has = let P : SourceOrigin → Type 0 = λ p. is_some (number_by count (store_at p)) ≡ true in absurd (let wrong : false ≡ true = subst P is has in cc)

-- All drivers.

record Tied (parts : PlanParts) : Type 0 where
  same : length parts.inlet_setups ≡ length parts.inlets
  tied : AreTied parts.inlet_setups parts.inlets

source-tied : (globals : Globals) (call : Call) (parts : PlanParts) (owned : OwnedDriver) (source : SourceDriver) → IsSourceDriver globals.defaults call source → Tied parts → Tied (with_one parts owned.owner (driver.Source source))
source-tied globals call parts owned source is all =
    let n = slots_at source.place in
    let setup = setup_of (length parts.stores) source in
    let f : ℕ → InletPlan = λ slot. plan_of source slot (length parts.sources) (name_in owned.owner) in
    let slots = range_with_len 0 n in
    let first = length-append parts.inlet_setups (replicate n setup) in
    let second = length-append parts.inlets (map f slots) in
    let many = length-replicate n setup in
    let all_slots = length-map slots f in
    let long = length-range_with_len 0 n in
    let same = all.same in
    record {
      same = omega (arith, first, second, many, all_slots, long, same);
      tied = tied-append parts.inlet_setups (replicate n setup) parts.inlets (map f slots) same all.tied
          (tied-slots n setup f slots (λ slot. of-kind (driver_kind call) call (length parts.stores) source.limit slot source.place source.kind is.place is.kind));
    }

with-tied : (globals : Globals) (kind : Side) (call : Call) (parts : PlanParts) (owned : OwnedDriver) (d : Driver) → owned.driver ≡ d → IsDriverRead globals kind call d → Tied parts → Tied (with_driver parts owned)
with-tied globals side.Source call parts owned (driver.Source source) e is all = subst (λ d. Tied (with_one parts owned.owner d)) (sym e) (source-tied globals call parts owned source is all)
with-tied globals side.Destination call parts owned (driver.Destination dest) e is all = subst (λ d. Tied (with_one parts owned.owner d)) (sym e) (record { same = all.same; tied = all.tied })
with-tied globals side.Source call parts owned (driver.Destination dest) e is all = absurd is
with-tied globals side.Destination call parts owned (driver.Source source) e is all = absurd is

drivers-tied : (globals : Globals) (written : Owned) (drivers : List OwnedDriver) (parts : PlanParts) → AreDriversRead globals written drivers → Tied parts → Tied (fold with_driver parts drivers)
drivers-tied globals [] [] parts read all = all
drivers-tied globals [] (d ∷ ds) parts read all = absurd read
drivers-tied globals (w ∷ ws) [] parts read all = absurd read
drivers-tied globals (w ∷ ws) (d ∷ ds) parts (owner, is, read) all = drivers-tied globals ws ds (with_driver parts d) read (with-tied globals w.1.0 w.1.1 parts d d.driver refl is all)

plan-tied : (statements : List Statement) (plan : Plan) → IsPlan statements plan → Tied (parts_of plan)
plan-tied statements plan is = subst Tied (sym is.parts) (drivers-tied (globals_of statements) (owned_drivers statements) is.drivers no_parts is.read (record { same = refl; tied = tt }))

-- The configuration.

tied-of : (tokens : List Token) (config : Config) → Means tokens config → (i : ℕ) (inlet : InletPlan) → IsFile config.setup i → slice_get config.inlets.items i ≡ Some inlet → IsOfFile inlet.spec × (inlet.kind ≡ Lines) × HasLimit inlet.spec inlet.limit
tied-of tokens config means i inlet file at =
    let made = means.made in
    let all = plan-tied means.statements made.plan made.planned in
    let here : slice_get (made.plan).setup.sources i ≡ Some file.source = ap (λ (s : Setup). slice_get s.sources i) (sym made.setup) ∙ file.at in
    let there : slice_get (made.plan).inlets.items i ≡ Some inlet = ap (λ (ps : List InletPlan). slice_get ps i) (sym made.inlets) ∙ at in
    tied-at (made.plan).setup.sources (made.plan).inlets.items i file.source inlet all.tied here there file.stored

pub reads-files : (tokens : List Token) (config : Config) (once : Bool) → Means tokens config → ReadsFiles config once
reads-files tokens config once means = (λ i inlet file at. (tied-of tokens config means i inlet file at).0, λ i inlet file at. (tied-of tokens config means i inlet file at).1)

pub have-limits : (tokens : List Token) (config : Config) (once : Bool) → Means tokens config → HaveLimits (planned config once)
have-limits tokens config once means i inlet file at = (tied-of tokens config means i inlet file at).2
