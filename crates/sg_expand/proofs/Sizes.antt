-- An expansion gives at most 1,048,576 tokens.
use Rattle.std.proofs.Common.{◌≡◌, ◌≤◌, ◌<◌, ◌^◌, ℕ, ◌+◌, true, List, length, Result, Ok, Err, IfOk, sym, ap, subst, arith}
use Rattle.sg_outside.specs.World.{WorldState}
use Rattle.sg_lex.specs.declared.fault.ConfigFault.{ConfigFault}
use Rattle.sg_lex.specs.declared.token.Token.{Token}
use Rattle.sg_expand.specs.Bounded.{StaysWithin}
use Rattle.sg_expand.specs.declared.fault.Expanded.{Expanded}
use Rattle.sg_expand.specs.declared.fault.ExpandRefusal.{ExpandRefusal}
use Rattle.sg_expand.specs.Expansion.{ExpansionState, ExpansionOutcome, Goes, Stops, ExpansionJob, Tokens, RunsJob, RunsTokens, RunsMain, IsExpanded, main_tokens, first_context, first_state}
use Rattle.sg_expand.specs.Expansion.RunsJob.{ends, moves, faults, includes, included_stops, file_faults, file_too_long, file_unread, uses, use_stops, binds, value_stops, body_runs}

abbrev Bounds : ExpansionOutcome → Type 0
Bounds (Goes last read) = length last.out ≤ 1048576
Bounds (Stops refusal names read) = Unit {0}

ends-within : (held : ℕ) (job : ExpansionJob) (state : ExpansionState) (world : WorldState) (outcome : ExpansionOutcome) (runs : RunsJob job state world outcome)
    → StaysWithin held job state world outcome runs → Bounds outcome
ends-within held _ _ _ _ (ends context fresh tokens state world e) within = omega (arith, within)
ends-within held _ _ _ _ (moves context fresh tokens state world again rest next outcome e r) within = ends-within held _ _ _ _ r within.1
ends-within held _ _ _ _ (faults context fresh tokens state world kind line e) within = tt
ends-within held _ _ _ _ (includes context fresh tokens state world line name rest next read bytes found middle later outcome e reads taken r k) within = ends-within held _ _ _ _ k within.2
ends-within held _ _ _ _ (included_stops context fresh tokens state world line name rest next read bytes found refusal names later e reads taken r) within = tt
ends-within held _ _ _ _ (file_faults context fresh tokens state world line name rest next read bytes fault e reads taken) within = tt
ends-within held _ _ _ _ (file_too_long context fresh tokens state world line name rest next read e reads) within = tt
ends-within held _ _ _ _ (file_unread context fresh tokens state world line name rest next read e reads) within = tt
ends-within held _ _ _ _ (uses context fresh tokens state world block given rest next middle later outcome e r k) within = ends-within held _ _ _ _ k within.2
ends-within held _ _ _ _ (use_stops context fresh tokens state world block given rest next refusal names later e r) within = tt
ends-within held _ _ _ _ (binds context serial body argument left bound state world whole later outcome r k) within = ends-within (held + length whole.out) _ _ _ _ k within.2
ends-within held _ _ _ _ (value_stops context serial body argument left bound state world refusal names later r) within = tt
ends-within held _ _ _ _ (body_runs context serial body bound state world outcome r) within = ends-within held _ _ _ _ r within.1

-- what expansions keep
abbrev pub StayWithinTotal : Type 0
StayWithinTotal =
    (tokens : List Token) (name : List ℕ) (world : WorldState) (outcome : ExpansionOutcome) (runs : RunsJob (Tokens first_context true tokens) (first_state name) world outcome)
    → StaysWithin 0 (Tokens first_context true tokens) (first_state name) world outcome runs

text-within : StayWithinTotal → (found : Result (List Token) ConfigFault) (name : List ℕ) (world : WorldState) (outcome : ExpansionOutcome) → RunsTokens found (first_state name) world outcome → Bounds outcome
text-within law (Ok tokens) name world outcome runs = ends-within 0 _ _ _ outcome runs (law tokens name world outcome runs)
text-within law (Err fault) name world outcome runs = subst Bounds (sym runs) tt

pub few-tokens : StayWithinTotal → (name text : List ℕ) (world read : WorldState) (last : ExpansionState) (tokens : List Token)
    → RunsMain name text world (Goes last read) → tokens ≡ last.out → length tokens < 2 ^ 32
few-tokens law name text world read last tokens runs is =
    let most : length last.out ≤ 1048576 = text-within law (main_tokens text) name world (Goes last read) runs in
    let same : length tokens ≡ length last.out = ap length is in
    omega (arith, most, same)

-- so it is of what a text is expanded to
pub few-expanded : StayWithinTotal → (old new : WorldState) (name text : List ℕ) (result : Result Expanded ExpandRefusal)
    → IsExpanded old new name text result → IfOk result (λ expanded. length expanded.tokens < 2 ^ 32)
few-expanded law old new name text (Ok expanded) (last, (runs, made)) = few-tokens law name text old new last expanded.tokens runs made.0
few-expanded law old new name text (Err refusal) expands = tt
