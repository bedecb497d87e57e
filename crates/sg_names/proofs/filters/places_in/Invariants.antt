use Rattle.std.proofs.Common.{◌≡◌, take}
use Rattle.sg_names.specs.Filters.{places_in}
use Rattle.sg_names.proofs.filters.places_in.Given as goal

abbrev pub invariant-loop-term : goal.invariant-loop-term
invariant-loop-term l = l.places ≡ places_in (take l.term-index l.terms)
