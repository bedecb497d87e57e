-- A turn that stops, and what an answer says behind it.
use Rattle.std.proofs.Common.{◌≡◌, ℕ, Bool, List, [], ◌∷◌, ◌++◌, length, Result, Ok, Err, refl, ap, sym, ◌∙◌, subst, inl, inr, arith}
use Rattle.std.specs.Prelude.{reverse, Vec}
use Rattle.std.specs.declared.alloc.Global.{Global}
use Rattle.sg_outside.specs.World.{WorldState}
use Rattle.sg_lex.specs.declared.token.Token.{Token}
use Rattle.sg_lex.specs.declared.fault.ConfigFault.{ConfigFault}
use Rattle.sg_lex.specs.declared.fault.ConfigKind.TheVariants.{TooLong}
use Rattle.sg_expand.specs.declared.expander.Expander.{Expander}
use Rattle.sg_expand.specs.declared.fault.ExpandStop.{ExpandStop}
use Rattle.sg_expand.specs.declared.fault.ExpandStop.TheVariants.{Fault, ReadFault, NoMemory}
use Rattle.sg_expand.specs.declared.frame.Context.{Context}
use Rattle.sg_expand.specs.declared.frame.ExpandFrame.{ExpandFrame}
use Rattle.sg_expand.specs.declared.frame.ExpandFrame.TheVariants.{Expands, Binds}
use Rattle.sg_expand.specs.declared.frame.RestTokens.{RestTokens}
use Rattle.sg_expand.specs.declared.frame.WaitingUse.{WaitingUse}
use Rattle.sg_expand.specs.Expansion.{ExpansionState, ExpansionOutcome, Goes, Stops, Refusal, Faulty, Unread, ExpansionStep, Ends, Moves, Faults, Includes, Uses, ExpansionJob, Tokens, RunsJob, faults, file_faults, file_too_long, file_unread, step, file_tokens}
use Rattle.sg_expand.specs.Faults.{fault_at}
use Rattle.sg_expand.specs.Machine.{state_of, DoesStep, DoesBind}
use Rattle.sg_expand.specs.Pending.{Later, RunsThen, FramesLead}
use Rattle.sg_expand.specs.Whole.{AnswersExpansion, DoesFrame}
use Rattle.sg_expand.proofs.Leading.{last-first, leads-at, step-leads, binds-lead}

-- a job that stops leaves nothing to what follows: so it stops with these names
stopped : (job : ExpansionJob) (s : ExpansionState) (world : WorldState) (later : Later) (refusal refusal' : Refusal) (names names' : List (List ℕ)) (world' : WorldState)
    → refusal ≡ refusal' → names ≡ names' → RunsJob job s world (Stops refusal' names' world') → RunsThen job s world later (Stops refusal names world')
stopped job s world later refusal refusal' names names' world' e n r = (Stops refusal' names' world', (r, cc))

-- an answer has one fault
same-fault : (fault fault' : ConfigFault) (result : Result Unit ExpandStop) → result ≡ Err (Fault fault) → result ≡ Err (Fault fault') → fault ≡ fault'
same-fault fault fault' result a b = cc

-- a step that stops
pub step-stops : (asked : ExpansionStep) (stop : ExpandStop) (context : Context) (fresh : Bool) (tokens : List Token) (old new : Expander) (world world' : WorldState) (later : Later)
    → step context fresh tokens (state_of old) ≡ asked → DoesStep asked context fresh old world new world' (Err stop)
    → AnswersExpansion new world' (Err stop) (RunsThen (Tokens context fresh tokens) (state_of old) world later)
step-stops asked NoMemory context fresh tokens old new world world' later e does = tt
step-stops Ends (Fault fault) context fresh tokens old new world world' later e does = absurd does.1
step-stops Ends (ReadFault other) context fresh tokens old new world world' later e does = absurd does.1
step-stops (Moves again rest next) (Fault fault) context fresh tokens old new world world' later e does = absurd does.1
step-stops (Moves again rest next) (ReadFault other) context fresh tokens old new world world' later e does = absurd does.1
step-stops (Faults kind line) (Fault fault) context fresh tokens old new world world' later e does =
    let stops = stopped (Tokens context fresh tokens) (state_of old) world later (Faulty fault) (Faulty (fault_at kind line)) new.names old.names world (ap Faulty does.1.0) does.1.1 (faults context fresh tokens (state_of old) world kind line e) in
    subst (λ (w : WorldState). RunsThen (Tokens context fresh tokens) (state_of old) world later (Stops (Faulty fault) new.names w)) (sym does.0) stops
step-stops (Faults kind line) (ReadFault other) context fresh tokens old new world world' later e does = absurd does.1
step-stops (Includes line name rest next) (Fault fault) context fresh tokens old new world world' later e (inl does) =
    let bytes : Vec ℕ Global = does.0 in
    let middle : Expander = does.1.1.0 in
    let is : state_of middle ≡ next = does.1.1.1.0 in
    let took = does.1.1.1.1.1 in
    stopped (Tokens context fresh tokens) (state_of old) world later (Faulty fault) (Faulty fault) new.names (next.names ++ name ∷ []) world' refl
    (took.1 ∙ ap (λ (s : ExpansionState). s.names ++ name ∷ []) is)
    (file_faults context fresh tokens (state_of old) world line name rest next world' bytes fault e does.1.0 (subst (λ (s : ExpansionState). file_tokens line s bytes.items ≡ Err fault) is took.0))
step-stops (Includes line name rest next) (Fault fault) context fresh tokens old new world world' later e (inr does) =
    stopped (Tokens context fresh tokens) (state_of old) world later (Faulty fault) (Faulty (fault_at TooLong line)) new.names next.names world'
    (ap Faulty (same-fault fault (fault_at TooLong line) (Err (Fault fault)) refl does.1.0)) does.1.1
    (file_too_long context fresh tokens (state_of old) world line name rest next world' e does.0)
step-stops (Includes line name rest next) (ReadFault other) context fresh tokens old new world world' later e does =
    stopped (Tokens context fresh tokens) (state_of old) world later (Unread other) (Unread name) new.names next.names world'
    (ap Unread does.0) does.1.1 (file_unread context fresh tokens (state_of old) world line name rest next world' e does.1.0)
step-stops (Uses block given rest next) (Fault fault) context fresh tokens old new world world' later e does = absurd does.1
step-stops (Uses block given rest next) (ReadFault other) context fresh tokens old new world world' later e does = absurd does.1

-- a binding that stops
binds-stop : (stop : ExpandStop) (wait : WaitingUse) (old new : Expander) (world : WorldState) (below : List ExpandFrame)
    → DoesBind wait old new (Err stop) → AnswersExpansion new world (Err stop) (FramesLead (Binds wait ∷ below) (state_of old) world)
binds-stop NoMemory wait old new world below does = tt
binds-stop (Fault fault) wait old new world below does = absurd does
binds-stop (ReadFault name) wait old new world below does = absurd does

-- what the frame on top asks for is done
expands-at : (rest : RestTokens) (old : Expander) (world : WorldState) (new : Expander) (world' : WorldState) (result : Result Unit ExpandStop)
    → DoesStep (step rest.context rest.fresh rest.tokens (state_of old)) rest.context rest.fresh old world new world' result → DoesFrame (Expands rest) old world new world' result
expands-at rest old world new world' (Ok done) does = λ o h.
    step-leads (step rest.context rest.fresh rest.tokens (state_of old)) rest.context rest.fresh rest.tokens old new world world' (reverse old.frames.items) refl refl does o h
expands-at rest old world new world' (Err stop) does =
    step-stops (step rest.context rest.fresh rest.tokens (state_of old)) stop rest.context rest.fresh rest.tokens old new world world' (FramesLead (reverse old.frames.items)) refl does

binds-at : (wait : WaitingUse) (old : Expander) (world : WorldState) (new : Expander) (result : Result Unit ExpandStop)
    → DoesBind wait old new result → DoesFrame (Binds wait) old world new world result
binds-at wait old world new (Ok done) does = λ o h. binds-lead wait old new world (reverse old.frames.items) refl does o h
binds-at wait old world new (Err stop) does = binds-stop stop wait old new world (reverse old.frames.items) does

-- the same of a frame that is known to be one
pub expands-does : (frame : ExpandFrame) (rest : RestTokens) (old : Expander) (world : WorldState) (new : Expander) (world' : WorldState) (result : Result Unit ExpandStop) → frame ≡ Expands rest
    → DoesStep (step rest.context rest.fresh rest.tokens (state_of old)) rest.context rest.fresh old world new world' result → DoesFrame frame old world new world' result
expands-does frame rest old world new world' result e does = subst (λ (f : ExpandFrame). DoesFrame f old world new world' result) (sym e) (expands-at rest old world new world' result does)

pub binds-does : (frame : ExpandFrame) (wait : WaitingUse) (old : Expander) (world : WorldState) (new : Expander) (result : Result Unit ExpandStop) → frame ≡ Binds wait
    → DoesBind wait old new result → DoesFrame frame old world new world result
binds-does frame wait old world new result e does = subst (λ (f : ExpandFrame). DoesFrame f old world new world result) (sym e) (binds-at wait old world new result does)

-- an answer behind what leads on
pub answers-then : (result : Result Unit ExpandStop) (expander : Expander) (world : WorldState) (comes comes' : ExpansionOutcome → Type 0)
    → ((o : ExpansionOutcome) → comes o → comes' o) → AnswersExpansion expander world result comes → AnswersExpansion expander world result comes'
answers-then (Ok done) expander world comes comes' f h = f (Goes (state_of expander) world) h
answers-then (Err (Fault fault)) expander world comes comes' f h = f (Stops (Faulty fault) expander.names world) h
answers-then (Err (ReadFault name)) expander world comes comes' f h = f (Stops (Unread name) expander.names world) h
answers-then (Err NoMemory) expander world comes comes' f h = tt

-- nothing waits
pub ends-here : (frames : List ExpandFrame) (s : ExpansionState) (world : WorldState) → length frames ≡ 0 → FramesLead (reverse frames) s world (Goes s world)
ends-here [] s world e = refl
ends-here (frame ∷ frames) s world e = absurd (omega arith)

-- what waits with a frame on top
pub frame-leads : (frames before : List ExpandFrame) (frame : ExpandFrame) (s : ExpansionState) (world : WorldState) (o : ExpansionOutcome) → frames ≡ before ++ frame ∷ [] → FramesLead (frame ∷ reverse before) s world o → FramesLead (reverse frames) s world o
frame-leads frames before frame s world o e h =
    leads-at (frame ∷ reverse before) (reverse frames) s s world o (sym (last-first frames before (reverse before) frame refl e)) refl h
