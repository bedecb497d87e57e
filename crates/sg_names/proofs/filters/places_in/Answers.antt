use Rattle.sg_names.proofs.Placing.{places-more}
use Rattle.sg_names.proofs.filters.places_in.Goals as goal

pub loop-term-preserved : goal.loop-term-preserved
loop-term-preserved c =
    places-more c.args.terms.now _ _ _ _ _ c.loop-term-test.true c.loop-term.invariant c.filter_place.ensures c.in_ok-push_place.ensures
