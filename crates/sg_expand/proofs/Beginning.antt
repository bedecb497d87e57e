-- The main file, from its text to the answer.
use Rattle.std.proofs.Common.{◌≡◌, ℕ, ◌≤◌, true, List, [], ◌∷◌, Some, Result, Ok, Err, refl, ap, sym, subst, arith}
use Rattle.std.specs.Prelude.{reverse}
use Rattle.sg_device.specs.Faults.{Rose}
use Rattle.sg_outside.specs.World.{WorldState}
use Rattle.sg_lex.specs.declared.token.Token.{Token}
use Rattle.sg_lex.specs.declared.fault.ConfigFault.{ConfigFault}
use Rattle.sg_expand.specs.declared.expander.Expander.{Expander}
use Rattle.sg_expand.specs.declared.fault.ExpandRefusal.TheVariants.{Bad, ReadFault as RefusalReadFault}
use Rattle.sg_expand.specs.declared.fault.ExpandStop.{ExpandStop}
use Rattle.sg_expand.specs.declared.fault.ExpandStop.TheVariants.{Fault, ReadFault, NoMemory}
use Rattle.sg_expand.specs.declared.frame.ExpandFrame.{ExpandFrame}
use Rattle.sg_expand.specs.Expansion.{ExpansionState, ExpansionOutcome, Goes, Stops, Faulty, Unread, ExpansionJob, Tokens, RunsJob, first_context, main_tokens, RunsTokens, RunsMain, IsExpanded}
use Rattle.sg_expand.specs.Expansion.RunsJob.{ends, moves, faults, includes, included_stops, file_faults, file_too_long, file_unread, uses, use_stops, binds, value_stops, body_runs}
use Rattle.sg_expand.specs.Machine.{state_of, tokens_frame}
use Rattle.sg_expand.specs.Pending.{FollowsOutcome, FramesLead}
use Rattle.sg_expand.specs.Whole.{IsNewExpander, WorksFrames, BeginsText, RunsWhole}
use Rattle.sg_expand.proofs.Turning.{answers-then}

-- nothing waits behind the main file's tokens
alone : (s : ExpansionState) (world : WorldState) (tokens : List Token) (o first : ExpansionOutcome) → RunsJob (Tokens first_context true tokens) s world first
    → FollowsOutcome first (λ (middle : ExpansionState) (w : WorldState) (outcome : ExpansionOutcome). outcome ≡ Goes middle w) o → RunsJob (Tokens first_context true tokens) s world o
alone s world tokens o (Goes middle w) r f = subst (RunsJob (Tokens first_context true tokens) s world) (sym f) r
alone s world tokens o (Stops refusal names w) r f = subst (RunsJob (Tokens first_context true tokens) s world) (sym f) r

-- the text is begun: what waits then comes to what the text comes to
begun-leads : (text : List ℕ) (old new : Expander) (world : WorldState) → BeginsText text old new (Ok tt)
    → (o : ExpansionOutcome) → FramesLead (reverse new.frames.items) (state_of new) world o → RunsTokens (main_tokens text) (state_of old) world o
begun-leads text old new world begun o h =
    let frames : reverse new.frames.items ≡ tokens_frame first_context true begun.0 ∷ [] = ap reverse begun.1.1.1 in
    let led = subst (λ (s : ExpansionState). FramesLead (tokens_frame first_context true begun.0 ∷ []) s world o) begun.1.1.0 (subst (λ (fs : List ExpandFrame). FramesLead fs (state_of new) world o) frames h) in
    subst (λ (found : Result (List Token) ConfigFault). RunsTokens found (state_of old) world o) (sym begun.1.0)
    (alone (state_of old) world begun.0 o led.0 led.1.0 led.1.1)

-- and what waits then is done
pub whole-done : (text : List ℕ) (old middle new : Expander) (world world' : WorldState) (result : Result Unit ExpandStop)
    → BeginsText text old middle (Ok tt) → WorksFrames middle world new world' result → RunsWhole text old world new world' result
whole-done text old middle new world world' result begun works =
    answers-then result new world' (FramesLead (reverse middle.frames.items) (state_of middle) world) (RunsTokens (main_tokens text) (state_of old) world) (begun-leads text old middle world begun) works

-- the text isn't begun
pub whole-stops : (text : List ℕ) (old new : Expander) (world : WorldState) (stop : ExpandStop) → BeginsText text old new (Err stop) → RunsWhole text old world new world (Err stop)
whole-stops text old new world (Fault fault) begun =
    let same : Stops (Faulty fault) new.names world ≡ Stops (Faulty fault) old.names world = ap (λ (names : List (List ℕ)). Stops (Faulty fault) names world) begun.1 in
    subst (λ (found : Result (List Token) ConfigFault). RunsTokens found (state_of old) world (Stops (Faulty fault) new.names world)) (sym begun.0) same
whole-stops text old new world (ReadFault name) begun = absurd begun
whole-stops text old new world NoMemory begun = tt

-- what an outcome tells of the readings that failed
abbrev Fails : WorldState → ExpansionOutcome → Type 0
Fails world (Goes last later) = world.read_faults ≤ later.read_faults
Fails world (Stops (Faulty fault) names later) = Unit {0}
Fails world (Stops (Unread name) names later) = Rose world.read_faults later.read_faults × (later.unread ≡ Some name)

fails-then : (world middle : WorldState) (o : ExpansionOutcome) → world.read_faults ≤ middle.read_faults → Fails middle o → Fails world o
fails-then world middle (Goes last later) le h = omega arith
fails-then world middle (Stops (Faulty fault) names later) le h = tt
fails-then world middle (Stops (Unread name) names later) le h = let rose : Rose middle.read_faults later.read_faults = h.0 in (omega arith, h.1)

runs-fail : (job : ExpansionJob) (s : ExpansionState) (world : WorldState) (o : ExpansionOutcome) → RunsJob job s world o → Fails world o
runs-fail _ _ _ _ (ends context fresh tokens state world e) = omega arith
runs-fail _ _ _ _ (moves context fresh tokens state world again rest next outcome e r) = runs-fail _ _ _ _ r
runs-fail _ _ _ _ (faults context fresh tokens state world kind line e) = tt
runs-fail _ _ _ _ (includes context fresh tokens state world line name rest next read bytes found middle later outcome e reads taken r k) =
    let first : read.read_faults ≤ later.read_faults = runs-fail _ _ _ _ r in
    let le : world.read_faults ≤ read.read_faults = reads.0.1 in
    fails-then world later outcome (omega arith) (runs-fail _ _ _ _ k)
runs-fail _ _ _ _ (included_stops context fresh tokens state world line name rest next read bytes found refusal names later e reads taken r) =
    fails-then world read (Stops refusal names later) reads.0.1 (runs-fail _ _ _ _ r)
runs-fail _ _ _ _ (file_faults context fresh tokens state world line name rest next read bytes fault e reads taken) = tt
runs-fail _ _ _ _ (file_too_long context fresh tokens state world line name rest next read e reads) = tt
runs-fail _ _ _ _ (file_unread context fresh tokens state world line name rest next read e reads) = (reads.1, reads.2)
runs-fail _ _ _ _ (uses context fresh tokens state world block given rest next middle later outcome e r k) = fails-then world later outcome (runs-fail _ _ _ _ r) (runs-fail _ _ _ _ k)
runs-fail _ _ _ _ (use_stops context fresh tokens state world block given rest next refusal names later e r) = runs-fail _ _ _ _ r
runs-fail _ _ _ _ (binds context serial body argument left bound state world whole later outcome r k) = fails-then world later outcome (runs-fail _ _ _ _ r) (runs-fail _ _ _ _ k)
runs-fail _ _ _ _ (value_stops context serial body argument left bound state world refusal names later r) = runs-fail _ _ _ _ r
runs-fail _ _ _ _ (body_runs context serial body bound state world outcome r) = runs-fail _ _ _ _ r

tokens-fail : (found : Result (List Token) ConfigFault) (s : ExpansionState) (world : WorldState) (o : ExpansionOutcome) → RunsTokens found s world o → Fails world o
tokens-fail (Ok tokens) s world o h = runs-fail _ _ _ _ h
tokens-fail (Err fault) s world o h = subst (Fails world) (sym h) tt

-- for a new expander
main-runs : (name text : List ℕ) (old : Expander) (world : WorldState) (o : ExpansionOutcome) → IsNewExpander name old → RunsTokens (main_tokens text) (state_of old) world o → RunsMain name text world o
main-runs name text old world o fresh h = subst (λ (s : ExpansionState). RunsTokens (main_tokens text) s world o) fresh.1 h

-- what is expanded
pub expanded-is : (name text : List ℕ) (old new : Expander) (world world' : WorldState)
    → IsNewExpander name old → RunsWhole text old world new world' (Ok tt) → IsExpanded world world' name text (Ok (record { tokens = new.out; names = new.names }))
expanded-is name text old new world world' fresh ran = (state_of new, (main-runs name text old world (Goes (state_of new) world') fresh ran, (refl, refl)))

-- what is wrong with it
pub refused-is : (name text : List ℕ) (old new : Expander) (world world' : WorldState) (fault : ConfigFault)
    → IsNewExpander name old → RunsWhole text old world new world' (Err (Fault fault)) → IsExpanded world world' name text (Err (Bad fault new.names))
refused-is name text old new world world' fault fresh ran = main-runs name text old world (Stops (Faulty fault) new.names world') fresh ran

-- what couldn't be read
pub unread-is : (name text : List ℕ) (old new : Expander) (world world' : WorldState) (file : List ℕ)
    → IsNewExpander name old → RunsWhole text old world new world' (Err (ReadFault file)) → IsExpanded world world' name text (Err (RefusalReadFault file))
unread-is name text old new world world' file fresh ran =
    (new.names, (main-runs name text old world (Stops (Unread file) new.names world') fresh ran, tokens-fail (main_tokens text) (state_of old) world (Stops (Unread file) new.names world') ran))
