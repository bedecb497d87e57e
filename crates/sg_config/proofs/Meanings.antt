-- Tokens mean one configuration, which is within the limits.
use Rattle.std.proofs.Common.{◌≡◌, ◌∙◌, ◌<◌, ℕ, zero, suc, List, [], ◌∷◌, length, map, slice_get, Some, None, sym, ap, subst, refl, arith}
use Rattle.std.proofs.lemmas.List.{length-append}
use Rattle.sg_lex.specs.declared.token.Token.{Token}
use Rattle.sg_parse_obj.specs.Objects.{spots_at}
use Rattle.sg_parse_text.specs.declared.statement.Statement.{Statement}
use Rattle.sg_names.specs.Registers.{names_of}
use Rattle.sg_source.specs.declared.inlet.SourceDriver.{SourceDriver}
use Rattle.sg_run_plan.specs.declared.inlet.InletPlan.{InletPlan}
use Rattle.sg_resolve.specs.First.{IsFirstFault as HasFirstFault}
use Rattle.sg_plan.specs.declared.plan.Plan.{Plan}
use Rattle.sg_plan.specs.Limits.{IsPlanWithin as PlanIsWithin}
use Rattle.sg_plan.specs.Plans.{IsPlan, AreAlikePlans as PlansAreAlike}
use Rattle.sg_tree.specs.declared.forest.InletRule.{InletRule}
use Rattle.sg_tree.specs.Readings.{inlet_of}
use Rattle.sg_forest.specs.Statements.{tops_in}
use Rattle.sg_config.specs.declared.config.Config.{Config}
use Rattle.sg_config.specs.Alike.{AreAlikeConfigs, IsConfigWithin}
use Rattle.sg_config.specs.Means.{IsConfigOf, Means}
use Rattle.sg_config.specs.Readings.{readings_at, readings_of}
use Rattle.sg_config.proofs.Faults.{AreRead, same-text}

-- what lower crates say
abbrev pub PlansAreOne : Type 0
PlansAreOne = (statements : List Statement) (a b : Plan) → IsPlan statements a → IsPlan statements b → PlansAreAlike a b

abbrev pub PlansAreWithin : Type 0
PlansAreWithin = (statements : List Statement) (plan : Plan) → HasFirstFault statements None → IsPlan statements plan → PlanIsWithin plan

-- ---- one configuration

same-ends : (a b : Plan) → PlansAreAlike a b → a.ends ≡ b.ends
same-ends a b alike = λ i. record { inlets = (alike i).inlet_owners; outlets = (alike i).outlet_owners }

same-setup : (a b : Plan) → PlansAreAlike a b → a.setup ≡ b.setup
same-setup a b alike = λ i. record { sources = (alike i).inlet_setups; dests = (alike i).outlet_setups }

same-readings : (a b : Plan) (rules rules' : List InletRule) → PlansAreAlike a b
    → map inlet_of rules ≡ readings_of a.sources.items a.inlets.items → map inlet_of rules' ≡ readings_of b.sources.items b.inlets.items
    → map inlet_of rules ≡ map inlet_of rules'
same-readings a b rules rules' alike is is' = is ∙ (λ i. readings_of (alike i).sources (alike i).inlets) ∙ sym is'

configs-alike : PlansAreOne → (statements : List Statement) (a b : Config) → IsConfigOf statements a → IsConfigOf statements b → AreAlikeConfigs a b
configs-alike one statements a b x y =
    let alike = one statements x.plan y.plan x.planned y.planned in
    let names = names_of statements in
    let ends = same-ends x.plan y.plan alike in
    let reads = same-readings x.plan y.plan x.rules y.rules alike x.readings y.readings in
    record {
      woods = x.paths.woods ∙ (λ i. record { inlets = reads i; dests = length (ends i).outlets; tops = tops_in names (ends i) statements }) ∙ sym y.paths.woods;
      patterns = x.paths.patterns ∙ sym y.paths.patterns;
      lines = x.paths.lines ∙ sym y.paths.lines;
      filters = x.paths.filters ∙ sym y.paths.filters;
      rewrites = x.paths.rewrites ∙ sym y.paths.rewrites;
      setup = x.setup ∙ same-setup x.plan y.plan alike ∙ sym y.setup;
      inlets = x.inlets ∙ ap (λ p. p.inlets) alike ∙ sym y.inlets;
      outlets = x.outlets ∙ ap (λ p. p.outlets) alike ∙ sym y.outlets;
      stores = x.stores ∙ ap (λ p. p.stores) alike ∙ sym y.stores;
    }

pub one-config : AreRead → PlansAreOne → (tokens : List Token) (a b : Config) → Means tokens a → Means tokens b → AreAlikeConfigs a b
one-config again one tokens a b x y =
    let same : y.statements ≡ x.statements = same-text again (spots_at tokens 0) y.statements x.statements y.text x.text in
    configs-alike one x.statements a b x.made (subst (λ s. IsConfigOf s b) same y.made)

-- ---- the limits

-- each inlet is read, where its driver is there
abbrev AreMeaningsThere : List SourceDriver → List InletPlan → Type 0
AreMeaningsThere drivers inlets = (i : ℕ) (inlet : InletPlan) → slice_get inlets i ≡ Some inlet → inlet.driver < length drivers

one-reading : (drivers : List SourceDriver) (n : ℕ) → n < length drivers → length (readings_at (slice_get drivers n)) ≡ 1
one-reading [] n less = absurd (omega (arith, less))
one-reading (driver ∷ drivers) zero less = refl
one-reading (driver ∷ drivers) (suc n) less = one-reading drivers n (omega (arith, less))

readings-length : (drivers : List SourceDriver) (inlets : List InletPlan) → AreMeaningsThere drivers inlets → length (readings_of drivers inlets) ≡ length inlets
readings-length drivers [] there = refl
readings-length drivers (inlet ∷ inlets) there =
    let first = one-reading drivers inlet.driver (there 0 inlet refl) in
    let later = readings-length drivers inlets (λ i one is. there (suc i) one is) in
    let e = length-append (readings_at (slice_get drivers inlet.driver)) (readings_of drivers inlets) in
    omega (arith, first, later, e)

config-within : PlansAreWithin → (statements : List Statement) (config : Config) → HasFirstFault statements None → IsConfigOf statements config → IsConfigWithin config
config-within within statements config none x =
    let w = within statements x.plan none x.planned in
    let inlets = x.inlets in
    let outlets = x.outlets in
    let stores = x.stores in
    let setup = x.setup in
    let there : AreMeaningsThere x.plan.sources.items x.plan.inlets.items = λ i inlet is. (w.each i inlet is).driver in
    let reads : length (map inlet_of x.rules) ≡ length x.plan.inlets.items = ap length x.readings ∙ readings-length x.plan.sources.items x.plan.inlets.items there in
    record {
      inlets = rw inlets w.inlets;
      outlets = rw outlets w.outlets;
      stores = rw stores w.stores;
      inlet_setups = rw (setup, inlets) w.inlet_setups;
      outlet_setups = rw (setup, outlets) w.outlet_setups;
      numbers = rw (setup, stores) w.numbers;
      windows = rw setup w.windows;
      rooms = rw setup w.rooms;
      drivers = length x.plan.sources.items;
      each = rw inlets w.each;
      held = rw outlets w.held;
      readings = ap (λ woods. length woods.inlets) x.paths.woods ∙ reads ∙ ap length (sym inlets);
      dests = ap (λ woods. woods.dests) x.paths.woods ∙ w.outlet_owners ∙ ap length (sym outlets);
      paths = x.paths.within;
    }

pub meant-within : PlansAreWithin → (tokens : List Token) (config : Config) → Means tokens config → IsConfigWithin config
meant-within within tokens config x = config-within within x.statements config x.faultless x.made
