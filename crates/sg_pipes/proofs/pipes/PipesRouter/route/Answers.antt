use Rattle.std.proofs.Common.{◌≡◌, ℤ, ap, length, sym, subst, to_z, of_z, w64, arith}
use Rattle.std.specs.Prelude.{IfOk}
use Rattle.std.proofs.lemmas.Int.{ints}
use Rattle.std.proofs.lemmas.Result.{IfOk-weaker}
use Rattle.sg_route.specs.Offers.{record_at}
use Rattle.sg_tree.specs.Offers.{Woods, AreOffers}
use Rattle.sg_tree.proofs.Bounding.{are-bounded}
use Rattle.sg_tree.proofs.Keeping.{are-within}
use Rattle.sg_table.specs.Forest.{forest_of}
use Rattle.sg_pipes.proofs.pipes.PipesRouter.route.Goals as goal

pub returns-clause-offers : goal.returns-clause-offers
returns-clause-offers c =
    let woods = forest_of c.args.self.now.table in
    let same : to_z w64 (of_z w64 c.args.at) ≡ c.args.at = omega (arith, ints, c.requires.moment.0, c.requires.moment.1) in
    let offers = subst (λ (x : ℤ). IfOk c.routed.result (λ found. AreOffers woods c.args.inlet (record_at c.args.peer.now c.args.item x) found.items)) same c.routed.ensures.offers in
    offers

pub returns-clause-bound : goal.returns-clause-bound
returns-clause-bound c =
    let woods = forest_of c.args.self.now.table in
    let same : to_z w64 (of_z w64 c.args.at) ≡ c.args.at = omega (arith, ints, c.requires.moment.0, c.requires.moment.1) in
    let offers = subst (λ (x : ℤ). IfOk c.routed.result (λ found. AreOffers woods c.args.inlet (record_at c.args.peer.now c.args.item x) found.items)) same c.routed.ensures.offers in
    IfOk-weaker c.routed.result _ _ (λ found are.
    omega (arith, are-bounded woods c.args.inlet (record_at c.args.peer.now c.args.item c.args.at) found.items are, c.args.self.now.within.1)) offers

pub returns-clause-within : goal.returns-clause-within
returns-clause-within c =
    let woods = forest_of c.args.self.now.table in
    let same : to_z w64 (of_z w64 c.args.at) ≡ c.args.at = omega (arith, ints, c.requires.moment.0, c.requires.moment.1) in
    let offers = subst (λ (x : ℤ). IfOk c.routed.result (λ found. AreOffers woods c.args.inlet (record_at c.args.peer.now c.args.item x) found.items)) same c.routed.ensures.offers in
    IfOk-weaker c.routed.result _ _ (λ found are.
    are-within woods c.args.inlet (record_at c.args.peer.now c.args.item c.args.at) found.items c.args.self.now.within.0 are) offers

pub returns-clause-same : goal.returns-clause-same
returns-clause-same c = record {
  same = record {
    forth = λ i record_of found are. subst (λ (woods : Woods). AreOffers woods i record_of found) (sym c.routed.ensures.stays) are;
    back = λ i record_of found are. subst (λ (woods : Woods). AreOffers woods i record_of found) c.routed.ensures.stays are;
  };
  inlets_same = ap (λ inlets. length inlets.items) c.routed.ensures.rules.0;
  dests_same = ap (λ dests. length dests.items) c.routed.ensures.rules.1;
}
