use Rattle.std.proofs.Common.{◌<◌, vec_len, refl, subst, arith}
use Rattle.sg_table.specs.Listing.{ListsPatterns, waiting_patterns}
use Rattle.sg_table.specs.Patterns.{patterns_in}
use Rattle.sg_table.specs.declared.listing.PatternListing.{PatternListing}
use Rattle.sg_table.proofs.Listed.{ends, lists-on}
use Rattle.sg_table.proofs.listing.listed.Goals as goal

pub turns-preserved : goal.turns-preserved
turns-preserved c =
    let named = c.args.forest.now.filters.items in
    let popped : PatternListing = record c.turns.listing { waiting = c.pop.new.self } in
    lists-on named c.in-Some.one c.turns.listing popped c.turn.new.self (patterns_in c.args.forest.now) c.turns.invariant c.in-Some.ensures.items refl
    (subst (λ ns. ListsPatterns ns (waiting_patterns ns c.in-Some.one) popped c.turn.new.self) c.as_slice-named.ensures.value c.in_ok-turn-in-Some.ensures)

pub returns-in-None : goal.returns-in-None
returns-in-None c =
    ends c.args.forest.now.filters.items c.turns.listing (patterns_in c.args.forest.now) (λ less.
    let waits : 0 < vec_len c.turns.listing.waiting = omega (arith, less, c.turns.listing.waiting.ok.0) in
    let wrong = c.in-None.ensures.variant.1 waits in cc) c.turns.invariant
