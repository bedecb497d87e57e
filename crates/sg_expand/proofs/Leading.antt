-- What is done leads where the expansion goes.
use Rattle.std.proofs.Common.{◌≡◌, ℕ, Bool, true, false, List, [], ◌∷◌, ◌++◌, Result, Ok, Err, refl, ap, ◌∙◌, subst, inl, inr}
use Rattle.std.specs.Prelude.{reverse, Vec}
use Rattle.std.proofs.lemmas.List.{reverse-append}
use Rattle.std.specs.FinMap as map
use Rattle.std.specs.declared.alloc.Global.{Global}
use Rattle.sg_outside.specs.World.{WorldState, ReadsFile}
use Rattle.sg_lex.specs.declared.token.Token.{Token}
use Rattle.sg_lex.specs.declared.fault.ConfigKind.TheVariants.{TooLong}
use Rattle.sg_block.specs.Arguments.{bindings}
use Rattle.sg_block.specs.Trimmed.{trimmed}
use Rattle.sg_block.specs.Values.{Values}
use Rattle.sg_block.specs.declared.argument.Argument.{Argument}
use Rattle.sg_block.specs.declared.token.FileLine.{FileLine}
use Rattle.sg_expand.specs.declared.block.BlockDefinition.{BlockDefinition}
use Rattle.sg_expand.specs.declared.expander.Expander.{Expander}
use Rattle.sg_expand.specs.declared.fault.ExpandStop.{ExpandStop}
use Rattle.sg_expand.specs.declared.fault.ExpandStop.TheVariants.{Fault}
use Rattle.sg_expand.specs.declared.frame.BlockCall.{BlockCall}
use Rattle.sg_expand.specs.declared.frame.Context.{Context}
use Rattle.sg_expand.specs.declared.frame.ExpandFrame.{ExpandFrame}
use Rattle.sg_expand.specs.declared.frame.ExpandFrame.TheVariants.{Binds}
use Rattle.sg_expand.specs.declared.frame.WaitingUse.{WaitingUse}
use Rattle.sg_expand.specs.Expansion.{ExpansionState, ExpansionOutcome, Goes, Stops, ExpansionStep, Ends, Moves, Faults, Includes, Uses, Tokens, Binding, RunsJob, ends, moves, includes, included_stops, uses, use_stops, binds, value_stops, body_runs, step, body_context, file_context, file_tokens, with_file, with_out}
use Rattle.sg_expand.specs.Faults.{fault_at}
use Rattle.sg_expand.specs.Machine.{state_of, tokens_frame, CallsBlock, call_of, DoesStep, DoesBind}
use Rattle.sg_expand.specs.Pending.{Later, FollowsOutcome, RunsThen, job_of, FramesLead}

-- the frames with one more or two more, the first to be done first
pub last-first : (frames before below : List ExpandFrame) (frame : ExpandFrame) → reverse before ≡ below → frames ≡ before ++ frame ∷ [] → reverse frames ≡ frame ∷ below
last-first frames before below frame r e = ap reverse e ∙ reverse-append before (frame ∷ []) ∙ ap (λ (l : List ExpandFrame). frame ∷ l) r

last-two : (frames before below : List ExpandFrame) (under frame : ExpandFrame) → reverse before ≡ below → frames ≡ before ++ under ∷ frame ∷ [] → reverse frames ≡ frame ∷ under ∷ below
last-two frames before below under frame r e = ap reverse e ∙ reverse-append before (under ∷ frame ∷ []) ∙ ap (λ (l : List ExpandFrame). frame ∷ under ∷ l) r

-- what leads on from other frames and another state that are these
pub leads-at : (frames frames' : List ExpandFrame) (s s' : ExpansionState) (world : WorldState) (o : ExpansionOutcome) → frames ≡ frames' → s ≡ s' → FramesLead frames s world o → FramesLead frames' s' world o
leads-at frames frames' s s' world o ef es h = subst (λ (x : ExpansionState). FramesLead frames' x world o) es (subst (λ (x : List ExpandFrame). FramesLead x s world o) ef h)

-- a step that goes on with other tokens
moved : (context : Context) (fresh : Bool) (tokens : List Token) (s : ExpansionState) (world : WorldState) (again : Bool) (rest : List Token) (next : ExpansionState) (later : Later) (o : ExpansionOutcome)
    → step context fresh tokens s ≡ Moves again rest next → RunsThen (Tokens context again rest) next world later o → RunsThen (Tokens context fresh tokens) s world later o
moved context fresh tokens s world again rest next later o e h = (h.0, (moves context fresh tokens s world again rest next h.0 e h.1.0, h.1.1))

-- a file that is read
read-in : (context : Context) (fresh : Bool) (tokens : List Token) (s : ExpansionState) (world : WorldState) (line : FileLine) (name : List ℕ) (rest : List Token) (next : ExpansionState)
    (read : WorldState) (bytes : Vec ℕ Global) (found : List Token) (later : Later) (o : ExpansionOutcome)
    → step context fresh tokens s ≡ Includes line name rest next → ReadsFile world read name 1048576 (Ok bytes)
    → file_tokens line next bytes.items ≡ Ok found
    → (first : ExpansionOutcome) → RunsJob (Tokens (file_context context) true found) (with_file name bytes.items next) read first
    → FollowsOutcome first (λ (middle : ExpansionState) (w : WorldState) (outcome : ExpansionOutcome). RunsThen (Tokens context fresh rest) middle w later outcome) o
    → RunsThen (Tokens context fresh tokens) s world later o
read-in context fresh tokens s world line name rest next read bytes found later o e reads taken (Goes middle w) r f =
    (f.0, (includes context fresh tokens s world line name rest next read bytes found middle w f.0 e reads taken r f.1.0, f.1.1))
read-in context fresh tokens s world line name rest next read bytes found later o e reads taken (Stops refusal names w) r f =
    (Stops refusal names w, (included_stops context fresh tokens s world line name rest next read bytes found refusal names w e reads taken r, f))

-- a use
used-in : (context : Context) (fresh : Bool) (tokens : List Token) (s : ExpansionState) (world : WorldState) (block : BlockDefinition) (given : List Argument) (rest : List Token) (next : ExpansionState) (later : Later) (o : ExpansionOutcome)
    → step context fresh tokens s ≡ Uses block given rest next
    → (first : ExpansionOutcome) → RunsJob (Binding context block.serial block.body (bindings block.parameters given) map.empty) next world first
    → FollowsOutcome first (λ (middle : ExpansionState) (w : WorldState) (outcome : ExpansionOutcome). RunsThen (Tokens context false rest) middle w later outcome) o
    → RunsThen (Tokens context fresh tokens) s world later o
used-in context fresh tokens s world block given rest next later o e (Goes middle w) r f =
    (f.0, (uses context fresh tokens s world block given rest next middle w f.0 e r f.1.0, f.1.1))
used-in context fresh tokens s world block given rest next later o e (Stops refusal names w) r f =
    (Stops refusal names w, (use_stops context fresh tokens s world block given rest next refusal names w e r, f))

-- the value of an argument
value-in : (context : Context) (serial : ℕ) (body : List Token) (argument : Argument) (left : List Argument) (bound : Values) (s : ExpansionState) (world : WorldState) (later : Later) (o : ExpansionOutcome)
    → (first : ExpansionOutcome) → RunsJob (Tokens context false argument.tokens) (with_out [] s) world first
    → FollowsOutcome first (λ (whole : ExpansionState) (w : WorldState) (outcome : ExpansionOutcome). RunsThen (Binding context serial body left (map.insert bound argument.name whole.out)) (with_out s.out whole) w later outcome) o
    → RunsThen (Binding context serial body (argument ∷ left) bound) s world later o
value-in context serial body argument left bound s world later o (Goes whole w) r f =
    (f.0, (binds context serial body argument left bound s world whole w f.0 r f.1.0, f.1.1))
value-in context serial body argument left bound s world later o (Stops refusal names w) r f =
    (Stops refusal names w, (value_stops context serial body argument left bound s world refusal names w r, f))

-- the binding of a use goes on
calls-at : (context : Context) (serial : ℕ) (body : List Token) (left : List Argument) (bound : Values) (old new : Expander) (world : WorldState) (below : List ExpandFrame)
    → reverse old.frames.items ≡ below
    → CallsBlock (record { context = context; serial = serial; body = body; left = left; bound = bound }) old new (Ok tt)
    → (o : ExpansionOutcome) → FramesLead (reverse new.frames.items) (state_of new) world o
    → RunsThen (Binding context serial body left bound) (state_of old) world (FramesLead below) o
calls-at context serial body [] bound old new world below r does o h =
    let frames = last-first new.frames.items old.frames.items below (tokens_frame (body_context context bound serial) true (trimmed body)) r does.1 in
    let led = leads-at (reverse new.frames.items) (tokens_frame (body_context context bound serial) true (trimmed body) ∷ below) (state_of new) (state_of old) world o frames (ap state_of does.0) h in
    (led.0, (body_runs context serial body bound (state_of old) world led.0 led.1.0, led.1.1))
calls-at context serial body (argument ∷ left) bound old new world below r does o h =
    let wait : WaitingUse = record { call = record { context = context; serial = serial; body = body; left = left; bound = bound }; name = argument.name; out = old.out } in
    let frames = last-two new.frames.items old.frames.items below (Binds wait) (tokens_frame context false argument.tokens) r does.1 in
    let led = leads-at (reverse new.frames.items) (tokens_frame context false argument.tokens ∷ Binds wait ∷ below) (state_of new) (with_out [] (state_of old)) world o frames (ap state_of does.0) h in
    value-in context serial body argument left bound (state_of old) world (FramesLead below) o led.0 led.1.0 led.1.1

-- the same of a call
pub calls-lead : (call : BlockCall) (old new : Expander) (world : WorldState) (below : List ExpandFrame)
    → reverse old.frames.items ≡ below → CallsBlock call old new (Ok tt)
    → (o : ExpansionOutcome) → FramesLead (reverse new.frames.items) (state_of new) world o → RunsThen (job_of call) (state_of old) world (FramesLead below) o
calls-lead call old new world below r does o h = calls-at call.context call.serial call.body call.left call.bound old new world below r does o h

-- a value that is bound
pub binds-lead : (wait : WaitingUse) (old new : Expander) (world : WorldState) (below : List ExpandFrame)
    → reverse old.frames.items ≡ below → DoesBind wait old new (Ok tt)
    → (o : ExpansionOutcome) → FramesLead (reverse new.frames.items) (state_of new) world o → FramesLead (Binds wait ∷ below) (state_of old) world o
binds-lead wait old new world below r does o h =
    calls-lead (record wait.call { bound = map.insert wait.call.bound wait.name old.out }) (record old { out = wait.out }) new world below r does o h

-- an answer is one
not-both : (stop : ExpandStop) (result : Result Unit ExpandStop) → result ≡ Ok tt → result ≡ Err stop → ⊥
not-both stop result a b = cc

-- a step
pub step-leads : (asked : ExpansionStep) (context : Context) (fresh : Bool) (tokens : List Token) (old new : Expander) (world world' : WorldState) (below : List ExpandFrame)
    → reverse old.frames.items ≡ below → step context fresh tokens (state_of old) ≡ asked
    → DoesStep asked context fresh old world new world' (Ok tt)
    → (o : ExpansionOutcome) → FramesLead (reverse new.frames.items) (state_of new) world' o → RunsThen (Tokens context fresh tokens) (state_of old) world (FramesLead below) o
step-leads Ends context fresh tokens old new world world' below r e does o h =
    let frames : reverse new.frames.items ≡ below = ap (λ (x : Expander). reverse x.frames.items) does.1 ∙ r in
    let led = leads-at (reverse new.frames.items) below (state_of new) (state_of old) world' o frames (ap state_of does.1) h in
    (Goes (state_of old) world, (ends context fresh tokens (state_of old) world e, subst (λ (w : WorldState). FramesLead below (state_of old) w o) does.0 led))
step-leads (Moves again rest next) context fresh tokens old new world world' below r e does o h =
    let frames = last-first new.frames.items old.frames.items below (tokens_frame context again rest) r does.1.1 in
    let led = leads-at (reverse new.frames.items) (tokens_frame context again rest ∷ below) (state_of new) next world' o frames does.1.0 h in
    moved context fresh tokens (state_of old) world again rest next (FramesLead below) o e (subst (λ (w : WorldState). FramesLead (tokens_frame context again rest ∷ below) next w o) does.0 led)
step-leads (Faults kind line) context fresh tokens old new world world' below r e does o h = absurd does.1
step-leads (Includes line name rest next) context fresh tokens old new world world' below r e (inl does) o h =
    let bytes = does.0 in
    let middle : Expander = does.1.1.0 in
    let is : state_of middle ≡ next = does.1.1.1.0 in
    let took = does.1.1.1.1.1 in
    let found = took.0 in
    let before : reverse middle.frames.items ≡ below = ap reverse does.1.1.1.1.0 ∙ r in
    let frames = last-two new.frames.items middle.frames.items below (tokens_frame context fresh rest) (tokens_frame (file_context context) true found) before took.1.1.1 in
    let led = leads-at (reverse new.frames.items) (tokens_frame (file_context context) true found ∷ tokens_frame context fresh rest ∷ below) (state_of new) (with_file name bytes.items next) world' o
    frames (took.1.1.0 ∙ ap (with_file name bytes.items) is) h in
    read-in context fresh tokens (state_of old) world line name rest next world' bytes found (FramesLead below) o e does.1.0
    (subst (λ (s : ExpansionState). file_tokens line s bytes.items ≡ Ok found) is took.1.0) led.0 led.1.0 led.1.1
step-leads (Includes line name rest next) context fresh tokens old new world world' below r e (inr does) o h =
    absurd (not-both (Fault (fault_at TooLong line)) (Ok tt) refl does.1.0)
step-leads (Uses block given rest next) context fresh tokens old new world world' below r e does o h =
    let middle = does.1.0 in
    let frames = last-first middle.frames.items old.frames.items below (tokens_frame context false rest) r does.1.1.1.0 in
    let states : state_of middle ≡ next = does.1.1.0 in
    let led = calls-lead (call_of context block given) middle new world (tokens_frame context false rest ∷ below) frames does.1.1.1.1 o
    (subst (λ (w : WorldState). FramesLead (reverse new.frames.items) (state_of new) w o) does.0 h) in
    let run = subst (λ (s : ExpansionState). RunsJob (Binding context block.serial block.body (bindings block.parameters given) map.empty) s world led.0) states led.1.0 in
    used-in context fresh tokens (state_of old) world block given rest next (FramesLead below) o e led.0 run led.1.1
