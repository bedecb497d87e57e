-- Each turn keeps what is held within the total.
use Rattle.std.proofs.Common.{◌≡◌, ℕ, ◌+◌, ◌≤◌, Bool, List, [], ◌∷◌, ◌++◌, length, Result, Ok, Err, refl, ap, sym, ◌∙◌, subst, inl, inr, arith}
use Rattle.std.specs.Prelude.{OnOk, Vec}
use Rattle.std.specs.declared.alloc.Global.{Global}
use Rattle.std.specs.FinMap as map
use Rattle.sg_outside.specs.World.{WorldState}
use Rattle.sg_lex.specs.declared.token.Token.{Token}
use Rattle.sg_block.specs.declared.argument.Argument.{Argument}
use Rattle.sg_expand.specs.declared.expander.Expander.{Expander}
use Rattle.sg_expand.specs.declared.fault.ExpandStop.{ExpandStop}
use Rattle.sg_expand.specs.declared.fault.ExpandStop.TheVariants.{Fault}
use Rattle.sg_expand.specs.declared.frame.BlockCall.{BlockCall}
use Rattle.sg_expand.specs.declared.frame.Context.{Context}
use Rattle.sg_expand.specs.declared.frame.ExpandFrame.{ExpandFrame}
use Rattle.sg_expand.specs.declared.frame.ExpandFrame.TheVariants.{Expands, Binds}
use Rattle.sg_expand.specs.declared.frame.RestTokens.{RestTokens}
use Rattle.sg_expand.specs.declared.frame.WaitingUse.{WaitingUse}
use Rattle.sg_expand.specs.Bounded.{IsExpanderBounded, waiting}
use Rattle.sg_expand.specs.Expansion.{ExpansionState, ExpansionStep, Ends, Moves, Faults, Includes, Uses, step, with_file}
use Rattle.sg_expand.specs.Machine.{state_of, CallsBlock, call_frames, call_of, DoesStep, DoesBind}
use Rattle.sg_expand.specs.Whole.{IsNewExpander, BeginsText}
use Rattle.sg_expand.proofs.Bounding.{HoldsBound, step-keeps, file-keeps}

waiting-append : (xs ys : List ExpandFrame) → waiting (xs ++ ys) ≡ waiting xs + waiting ys
waiting-append [] ys = let e : waiting ys ≡ 0 + waiting ys = omega arith in e
waiting-append (Expands rest ∷ xs) ys = waiting-append xs ys
waiting-append (Binds wait ∷ xs) ys = let more = waiting-append xs ys in let e : length wait.out + waiting (xs ++ ys) ≡ length wait.out + waiting xs + waiting ys = omega arith in e

-- tokens that are put on to be expanded hold nothing
waiting-more : (frames before : List ExpandFrame) (rest : RestTokens) → frames ≡ before ++ Expands rest ∷ [] → waiting frames ≡ waiting before
waiting-more frames before rest e = let sum = waiting-append before (Expands rest ∷ []) in let one : waiting frames ≡ waiting (before ++ Expands rest ∷ []) = ap waiting e in omega arith

waiting-two : (frames before : List ExpandFrame) (rest other : RestTokens) → frames ≡ before ++ Expands rest ∷ Expands other ∷ [] → waiting frames ≡ waiting before
waiting-two frames before rest other e = let sum = waiting-append before (Expands rest ∷ Expands other ∷ []) in let one : waiting frames ≡ waiting (before ++ Expands rest ∷ Expands other ∷ []) = ap waiting e in omega arith

-- from what holds in a state
bounded-in : (s : ExpansionState) (new : Expander) (held : ℕ) → state_of new ≡ s → waiting new.frames.items ≡ held → HoldsBound held s → IsExpanderBounded new.frames.items new
bounded-in s new held e w h =
    let now : HoldsBound held (state_of new) = subst (HoldsBound held) (sym e) h in
    let sum : held + length new.out ≤ new.total = now.0 in
    record { held = omega arith; limit = now.1 }

-- the binding of a use goes on
calls-bounded : (call : BlockCall) (left : List Argument) (old new : Expander) → call.left ≡ left → CallsBlock call old new (Ok tt) → HoldsBound (waiting old.frames.items) (state_of old) → IsExpanderBounded new.frames.items new
calls-bounded call [] old new e does h =
    let frames : new.frames.items ≡ old.frames.items ++ call_frames call [] old.out = does.1 ∙ ap (λ (left : List Argument). old.frames.items ++ call_frames call left old.out) e in
    let same : length new.out ≡ length old.out = cc in
    let total : new.total ≡ old.total = ap (λ (x : Expander). x.total) does.0 in
    let waits = waiting-append old.frames.items (call_frames call [] old.out) in
    let one : waiting new.frames.items ≡ waiting (old.frames.items ++ call_frames call [] old.out) = ap waiting frames in
    let before : waiting old.frames.items + length old.out ≤ old.total = h.0 in
    let limit : old.total ≤ 1048576 = h.1 in
    record { held = omega arith; limit = omega arith }
calls-bounded call (argument ∷ left) old new e does h =
    let frames : new.frames.items ≡ old.frames.items ++ call_frames call (argument ∷ left) old.out = does.1 ∙ ap (λ (left : List Argument). old.frames.items ++ call_frames call left old.out) e in
    let none : length new.out ≡ 0 = cc in
    let total : new.total ≡ old.total = ap (λ (x : Expander). x.total) does.0 in
    let waits = waiting-append old.frames.items (call_frames call (argument ∷ left) old.out) in
    let one : waiting new.frames.items ≡ waiting (old.frames.items ++ call_frames call (argument ∷ left) old.out) = ap waiting frames in
    let before : waiting old.frames.items + length old.out ≤ old.total = h.0 in
    let limit : old.total ≤ 1048576 = h.1 in
    record { held = omega arith; limit = omega arith }

-- an answer is one
not-both : (stop : ExpandStop) (result : Result Unit ExpandStop) → result ≡ Ok tt → result ≡ Err stop → ⊥
not-both stop result a b = cc

step-bounded : (asked : ExpansionStep) (context : Context) (fresh : Bool) (tokens : List Token) (old new : Expander) (world world' : WorldState) → step context fresh tokens (state_of old) ≡ asked
    → DoesStep asked context fresh old world new world' (Ok tt) → HoldsBound (waiting old.frames.items) (state_of old) → IsExpanderBounded new.frames.items new
step-bounded Ends context fresh tokens old new world world' e does h =
    bounded-in (state_of old) new (waiting old.frames.items) (ap state_of does.1) (ap (λ (x : Expander). waiting x.frames.items) does.1) h
step-bounded (Moves again rest next) context fresh tokens old new world world' e does h =
    bounded-in next new (waiting old.frames.items) does.1.0 (waiting-more new.frames.items old.frames.items (record { context = context; fresh = again; tokens = rest }) does.1.1)
    (step-keeps context fresh tokens (state_of old) (Moves again rest next) e (waiting old.frames.items) h)
step-bounded (Faults kind line) context fresh tokens old new world world' e does h = absurd does.1
step-bounded (Includes line name rest next) context fresh tokens old new world world' e (inl does) h =
    let bytes = does.0 in
    let middle : Expander = does.1.1.0 in
    let is : state_of middle ≡ next = does.1.1.1.0 in
    let took = does.1.1.1.1.1 in
    let frames : waiting middle.frames.items ≡ waiting old.frames.items = ap waiting does.1.1.1.1.0 in
    let begins : HoldsBound (waiting old.frames.items) (state_of middle) = subst (HoldsBound (waiting old.frames.items)) (sym is) (step-keeps context fresh tokens (state_of old) (Includes line name rest next) e (waiting old.frames.items) h) in
    bounded-in (with_file name bytes.items (state_of middle)) new (waiting old.frames.items) took.1.1.0
    (waiting-two new.frames.items middle.frames.items _ _ took.1.1.1 ∙ frames)
    (file-keeps line name bytes.items (state_of middle) took.0 took.1.0 (waiting old.frames.items) begins)
step-bounded (Includes line name rest next) context fresh tokens old new world world' e (inr does) h = absurd (not-both (Fault _) (Ok tt) refl does.1.0)
step-bounded (Uses block given rest next) context fresh tokens old new world world' e does h =
    let middle : Expander = does.1.0 in
    let frames : waiting middle.frames.items ≡ waiting old.frames.items = waiting-more middle.frames.items old.frames.items _ does.1.1.1.0 in
    let begins : HoldsBound (waiting old.frames.items) (state_of middle) = subst (HoldsBound (waiting old.frames.items)) (sym does.1.1.0) (step-keeps context fresh tokens (state_of old) (Uses block given rest next) e (waiting old.frames.items) h) in
    calls-bounded (call_of context block given) _ middle new refl does.1.1.1.1 (subst (λ (n : ℕ). HoldsBound n (state_of middle)) (sym frames) begins)

-- what the frame on top asks for is done
pub expands-bounded : (frame : ExpandFrame) (rest : RestTokens) (old new : Expander) (world world' : WorldState) (result : Result Unit ExpandStop) → frame ≡ Expands rest → IsExpanderBounded (frame ∷ old.frames.items) old
    → DoesStep (step rest.context rest.fresh rest.tokens (state_of old)) rest.context rest.fresh old world new world' result → OnOk result (IsExpanderBounded new.frames.items new)
expands-bounded frame rest old new world world' (Ok done) e bounded does =
    let here : IsExpanderBounded (Expands rest ∷ old.frames.items) old = subst (λ (f : ExpandFrame). IsExpanderBounded (f ∷ old.frames.items) old) e bounded in
    step-bounded (step rest.context rest.fresh rest.tokens (state_of old)) rest.context rest.fresh rest.tokens old new world world' refl does (here.held, here.limit)
expands-bounded frame rest old new world world' (Err stop) e bounded does = tt

pub binds-bounded : (frame : ExpandFrame) (wait : WaitingUse) (old new : Expander) (result : Result Unit ExpandStop) → frame ≡ Binds wait → IsExpanderBounded (frame ∷ old.frames.items) old → DoesBind wait old new result → OnOk result (IsExpanderBounded new.frames.items new)
binds-bounded frame wait old new (Ok done) e bounded does =
    let here : IsExpanderBounded (Binds wait ∷ old.frames.items) old = subst (λ (f : ExpandFrame). IsExpanderBounded (f ∷ old.frames.items) old) e bounded in
    let sum : length wait.out + waiting old.frames.items + length old.out ≤ old.total = here.held in
    calls-bounded (record wait.call { bound = map.insert wait.call.bound wait.name old.out }) wait.call.left (record old { out = wait.out }) new refl does (omega arith, here.limit)
binds-bounded frame wait old new (Err stop) e bounded does = tt

-- the frame on top is taken off
pub popped-bounded : (frames : List ExpandFrame) (before : Vec ExpandFrame Global) (frame : ExpandFrame) (expander : Expander) → frames ≡ before.items ++ frame ∷ [] → IsExpanderBounded frames expander → IsExpanderBounded (frame ∷ before.items) (record expander { frames = before })
popped-bounded frames before frame expander e bounded =
    let sum = waiting-append before.items (frame ∷ []) in
    let same : waiting frames ≡ waiting (before.items ++ frame ∷ []) = ap waiting e in
    let last : waiting (frame ∷ before.items) ≡ waiting before.items + waiting (frame ∷ []) = one frame in
    let held : waiting frames + length expander.out ≤ expander.total = bounded.held in
    record { held = omega arith; limit = bounded.limit }
  where
    one : (f : ExpandFrame) → waiting (f ∷ before.items) ≡ waiting before.items + waiting (f ∷ [])
    one (Expands rest) = let e : waiting before.items ≡ waiting before.items + 0 = omega arith in e
    one (Binds wait) = let e : length wait.out + waiting before.items ≡ waiting before.items + (length wait.out + 0) = omega arith in e

-- at the beginning
pub begun-bounded : (text : List ℕ) (old new : Expander) → BeginsText text old new (Ok tt) → IsExpanderBounded [] old → IsExpanderBounded new.frames.items new
begun-bounded text old new begun bounded =
    bounded-in (state_of old) new 0 begun.1.1.0 (ap waiting begun.1.1.1) (bounded.held, bounded.limit)

pub new-bounded : (name : List ℕ) (expander : Expander) → IsNewExpander name expander → IsExpanderBounded [] expander
new-bounded name expander new =
    let none : HoldsBound 0 (state_of expander) = subst (HoldsBound 0) (sym new.1) (omega arith, omega arith) in
    record { held = none.0; limit = none.1 }
