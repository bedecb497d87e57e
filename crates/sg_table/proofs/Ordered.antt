-- The patterns of log paths, tried in the order of the text.
use Rattle.std.proofs.Common.{◌≡◌, None, Result, Ok, Err, sym, subst}
use Rattle.sg_filter.proofs.Turning.{only-none}
use Rattle.sg_outside.specs.World.{WorldState}
use Rattle.sg_pattern.specs.Builds.{BuilderCalls, RefusesNone, calls_by}
use Rattle.sg_tree.specs.declared.refusal.PathRefusal.{PathRefusal}
use Rattle.sg_tree.specs.declared.refusal.PathRefusal.TheVariants.{BadPattern, PatternTooLarge, TooManyOffers, NoMemory}
use Rattle.sg_table.specs.Patterns.{PatternTexts}
use Rattle.sg_table.specs.Refused.{TriesForest}
use Rattle.sg_table.specs.Tried.{AreTried, HasTried, IsTextOrder, TriesList}
use Rattle.sg_table.proofs.Tries.{bad-first, each-stays, valid-order}

module _ {S : Type 0} (state : S → WorldState) (step : BuilderCalls S) (old new : S) (patterns order given : PatternTexts) where
  abbrev calls : BuilderCalls S
  calls = calls_by state step

  forest-tried : IsTextOrder patterns order → given ≡ order → HasTried state calls old new given None → AreTried state calls old new patterns × RefusesNone (state old) (state new)
  forest-tried sorted is h = (record { order = given; sorted = subst (IsTextOrder patterns) (sym is) sorted; reached = new; made = h.large; rest = only-none (state new) }, each-stays state step old given new h.large)

  forest-refused : (why : PathRefusal) → IsTextOrder patterns order → given ≡ order → TriesList state calls old new given (Err why) → TriesForest state calls old new patterns (Err why)
  forest-refused (BadPattern line) sorted is h = bad-first patterns given line (subst (IsTextOrder patterns) (sym is) sorted) h
  forest-refused (PatternTooLarge line) sorted is h =
      let here = subst (IsTextOrder patterns) (sym is) sorted in
      (valid-order patterns given here h.valid, record { order = given; sorted = here; refused = h.large })
  forest-refused (TooManyOffers line) sorted is h = absurd h
  forest-refused NoMemory sorted is h = tt

  pub forest-tries : (r : Result Unit PathRefusal) → IsTextOrder patterns order → given ≡ order → TriesList state calls old new given r → TriesForest state calls old new patterns r
  forest-tries (Ok done) sorted is h = forest-tried sorted is h
  forest-tries (Err why) sorted is h = forest-refused why sorted is h
