-- How many tokens an expansion holds at a time.
use Rattle.std.specs.Prelude.{ℕ, ◌+◌, ◌≤◌, List, [], ◌∷◌, length}
use Rattle.sg_outside.specs.World.{WorldState}
use Rattle.sg_expand.specs.declared.expander.Expander.{Expander}
use Rattle.sg_expand.specs.declared.frame.ExpandFrame.{ExpandFrame}
use Rattle.sg_expand.specs.declared.frame.ExpandFrame.TheVariants.{Expands, Binds}
use Rattle.sg_expand.specs.Expansion.{ExpansionState, ExpansionOutcome, ExpansionJob, RunsJob}
use Rattle.sg_expand.specs.Expansion.RunsJob.{ends, moves, faults, includes, included_stops, file_faults, file_too_long, file_unread, uses, use_stops, binds, value_stops, body_runs}

-- with so many tokens held elsewhere, those that came out are within the limit
abbrev pub HoldsWithin : ℕ → ExpansionState → Type 0
HoldsWithin held state = held + length state.out ≤ 1048576

-- so it is in each state that the expansion comes by. A value that is expanded stands beside what came out before it, and
-- a value that is bound is held until its use is done
abbrev pub StaysWithin : ℕ → (job : ExpansionJob) (state : ExpansionState) (world : WorldState)
    (outcome : ExpansionOutcome) → RunsJob job state world outcome → Type 0
StaysWithin held _ _ _ _ (ends context fresh tokens state world e) = HoldsWithin held state
StaysWithin held _ _ _ _ (moves context fresh tokens state world again rest next outcome e r) =
    HoldsWithin held state × StaysWithin held _ _ _ _ r
StaysWithin held _ _ _ _ (faults context fresh tokens state world kind line e) = HoldsWithin held
    state
StaysWithin held _ _ _ _ (includes context fresh tokens state world line name rest next read bytes
    found middle later outcome e reads taken r k) =
    HoldsWithin held state × StaysWithin held _ _ _ _ r × StaysWithin held _ _ _ _ k
StaysWithin held _ _ _ _ (included_stops context fresh tokens state world line name rest next read
    bytes found refusal names later e reads taken r) =
    HoldsWithin held state × StaysWithin held _ _ _ _ r
StaysWithin held _ _ _ _ (file_faults context fresh tokens state world line name rest next read
    bytes fault e reads taken) =
    HoldsWithin held state
StaysWithin held _ _ _ _ (file_too_long context fresh tokens state world line name rest next read e
    reads) =
    HoldsWithin held state
StaysWithin held _ _ _ _ (file_unread context fresh tokens state world line name rest next read e
    reads) =
    HoldsWithin held state
StaysWithin held _ _ _ _ (uses context fresh tokens state world block given rest next middle later
    outcome e r k) =
    HoldsWithin held state × StaysWithin held _ _ _ _ r × StaysWithin held _ _ _ _ k
StaysWithin held _ _ _ _ (use_stops context fresh tokens state world block given rest next refusal
    names later e r) =
    HoldsWithin held state × StaysWithin held _ _ _ _ r
StaysWithin held _ _ _ _ (binds context serial body argument left bound state world whole later
    outcome r k) =
    HoldsWithin held state × StaysWithin (held + length state.out) _ _ _ _ r
    × StaysWithin (held + length whole.out) _ _ _ _ k
StaysWithin held _ _ _ _ (value_stops context serial body argument left bound state world refusal
    names later r) =
    HoldsWithin held state × StaysWithin (held + length state.out) _ _ _ _ r
StaysWithin held _ _ _ _ (body_runs context serial body bound state world outcome r) =
    HoldsWithin held state × StaysWithin held _ _ _ _ r

-- the tokens that came out before the values for which these frames wait
abbrev pub waiting : List ExpandFrame → ℕ
waiting [] = 0
waiting (Expands rest ∷ frames) = waiting frames
waiting (Binds wait ∷ frames) = length wait.out + waiting frames

-- what an expander holds of the list and of the values that are expanded, with these frames to be done, is no more than the total
pub record IsExpanderBounded (frames : List ExpandFrame) (expander : Expander) : Type 0 where
  pub held : waiting frames + length expander.out ≤ expander.total
  pub limit : expander.total ≤ 1048576
