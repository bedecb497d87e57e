use Rattle.std.proofs.Common.{sym, refl, arith}
use Rattle.sg_plan.specs.Limits.{IsPlanWithin}
use Rattle.sg_config.proofs.loading.config_of.Goals as goal

pub forest_of-requires-clause-inlets : goal.forest_of-requires-clause-inlets
forest_of-requires-clause-inlets c =
    let w : IsPlanWithin c.in_ok-ends.field-0 = c.plans_are_within.ensures c.args.statements.now c.in_ok-ends.field-0 c.requires.faultless c.in_ok-ends.ensures in
    omega (arith, w.inlets, w.inlet_owners)

pub forest_of-requires-clause-outlets : goal.forest_of-requires-clause-outlets
forest_of-requires-clause-outlets c =
    let w : IsPlanWithin c.in_ok-ends.field-0 = c.plans_are_within.ensures c.args.statements.now c.in_ok-ends.field-0 c.requires.faultless c.in_ok-ends.ensures in
    omega (arith, w.outlets, w.outlet_owners)

pub returns : goal.returns
returns c = record {
  plan = c.in_ok-ends.field-0;
  planned = c.in_ok-ends.ensures;
  rules = c.in_ok-rules.rules.items;
  readings = rw (sym c.as_slice.ensures.value, sym c.as_slice-2.ensures.value) c.in_ok-rules.ensures;
  paths = rw (sym c.in_ok-names.ensures.names) c.in_ok-forest.ensures;
  setup = refl;
  inlets = refl;
  outlets = refl;
  stores = refl;
}
