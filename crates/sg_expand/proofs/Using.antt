-- Uses of blocks, as they are begun and bound.
use Rattle.std.proofs.Common.{◌≡◌, ℕ, ◌+◌, ◌≤◌, Bool, false, cond, List, [], ◌∷◌, ◌++◌, Result, Ok, Err, Vec, ap, sym, ◌∙◌, subst, append_assoc, arith}
use Rattle.std.proofs.lemmas.Bool.{le-leb}
use Rattle.std.specs.FinMap as map
use Rattle.std.specs.declared.alloc.Global.{Global}
use Rattle.sg_lex.specs.declared.token.Token.{Token}
use Rattle.sg_lex.specs.declared.fault.ConfigKind.TheVariants.{TooLong}
use Rattle.sg_block.specs.Values.{Values}
use Rattle.sg_block.specs.declared.argument.Argument.{Argument}
use Rattle.sg_block.specs.declared.token.FileLine.{FileLine}
use Rattle.sg_expand.specs.declared.expander.Expander.{Expander}
use Rattle.sg_expand.specs.declared.fault.ExpandStop.{ExpandStop}
use Rattle.sg_expand.specs.declared.fault.ExpandStop.TheVariants.{Fault, ReadFault, NoMemory}
use Rattle.sg_expand.specs.declared.frame.BlockCall.{BlockCall}
use Rattle.sg_expand.specs.declared.frame.Context.{Context}
use Rattle.sg_expand.specs.declared.frame.ExpandFrame.{ExpandFrame}
use Rattle.sg_expand.specs.declared.frame.ExpandFrame.TheVariants.{Binds}
use Rattle.sg_expand.specs.declared.uses.BlockUse.{BlockUse}
use Rattle.sg_expand.specs.Expansion.{ExpansionState, Faults, Uses}
use Rattle.sg_expand.specs.Machine.{CallsBlock, PushesFrames, DoesAsked, DoesUse, BeginsUse, state_of, tokens_frame, call_of, call_frames}
use Rattle.sg_expand.specs.Total.{IsSize}

-- the use waits, and then the argument's tokens are put on
pub calls-next : (call : BlockCall) (argument : Argument) (left : List Argument) (context : Context) (out : List Token) (old begun new : Expander) (frames : Vec ExpandFrame Global) (result : Result Unit ExpandStop)
    → call.left ≡ argument ∷ left → context ≡ call.context → out ≡ old.out → begun ≡ record old { out = [] }
    → frames.items ≡ begun.frames.items ++ Binds (record { call = record call { left = left }; name = argument.name; out = out }) ∷ []
    → PushesFrames (tokens_frame context false argument.tokens ∷ []) (record begun { frames = frames }) new result
    → CallsBlock call old new result
calls-next call argument left context out old begun new frames (Ok done) left-is context-is out-is begun-is waits pushed =
    let later = tokens_frame context false argument.tokens in
    let wait : ExpandFrame = Binds (record { call = record call { left = left }; name = argument.name; out = out }) in
    let first : new.frames.items ≡ begun.frames.items ++ (wait ∷ later ∷ []) = pushed.1 ∙ ap (λ (fs : List ExpandFrame). fs ++ later ∷ []) waits ∙ append_assoc begun.frames.items (wait ∷ []) (later ∷ []) in
    let before : begun.frames.items ≡ old.frames.items = ap (λ (e : Expander). e.frames.items) begun-is in
    let both : (wait ∷ later ∷ []) ≡ call_frames call (argument ∷ left) old.out = cc in
    (cc, first ∙ ap (λ (fs : List ExpandFrame). fs ++ (wait ∷ later ∷ [])) before ∙ ap (λ (fs : List ExpandFrame). old.frames.items ++ fs) (both ∙ ap (λ xs. call_frames call xs old.out) (sym left-is)))
calls-next call argument left context out old begun new frames (Err (Fault fault)) left-is context-is out-is begun-is waits pushed = pushed
calls-next call argument left context out old begun new frames (Err (ReadFault name)) left-is context-is out-is begun-is waits pushed = pushed
calls-next call argument left context out old begun new frames (Err NoMemory) left-is context-is out-is begun-is waits pushed = tt

-- the size that was counted is the size asked for
counted-size : (size found total : ℕ) → IsSize size found → total + found ≤ 1048576 → (found ≡ size) × (total + size ≤ 1048576)
counted-size size found total is within =
    let small : size ≤ 1048576 = grind arith in
    (is.0 small, let e : found ≡ size = is.0 small in omega arith)

begun : (context : Context) (call call' : BlockCall) (behind : List Token) (next : ExpansionState) (old middle new : Expander) (result : Result Unit ExpandStop)
    → call ≡ call' → state_of middle ≡ next → middle.frames.items ≡ old.frames.items ++ tokens_frame context false behind ∷ []
    → CallsBlock call middle new result → DoesUse context call' behind next old new result
begun context call call' behind next old middle new (Ok done) call-is state-is frames-is calls =
    (middle, (state-is, (frames-is, subst (λ (x : BlockCall). CallsBlock x middle new (Ok done)) call-is calls)))
begun context call call' behind next old middle new (Err (Fault fault)) call-is state-is frames-is calls = calls
begun context call call' behind next old middle new (Err (ReadFault name)) call-is state-is frames-is calls = calls
begun context call call' behind next old middle new (Err NoMemory) call-is state-is frames-is calls = tt

-- a use is counted, the tokens behind it are put on, and its binding begins
pub begins-use : (context shared : Context) (place : FileLine) (asked : BlockUse) (behind : List Token) (bound : Values) (total : ℕ) (old middle new : Expander) (result : Result Unit ExpandStop)
    → total ≡ old.total + asked.size → old.total + asked.size ≤ 1048576 → shared ≡ context → bound ≡ map.empty
    → middle ≡ record old { total = total; frames = middle.frames } → middle.frames.items ≡ old.frames.items ++ tokens_frame context false behind ∷ []
    → CallsBlock (record { context = shared; serial = asked.serial; body = asked.body; left = asked.left; bound = bound }) middle new result
    → BeginsUse context place asked behind old new result
begins-use context shared place asked behind bound total old middle new result total-is within shared-is bound-is middle-is frames-is calls =
    λ size block given asks.
    let counts = counted-size size asked.size old.total asks.size_is within in
    let next : ExpansionState = record (state_of old) { total = old.total + size } in
    let grown : total ≡ old.total + size = total-is ∙ ap (λ (n : ℕ). old.total + n) counts.0 in
    let state-is : state_of middle ≡ next = ap state_of middle-is ∙ ap (λ (n : ℕ). let s : ExpansionState = record (state_of old) { total = n } in s) grown in
    let call : BlockCall = record { context = shared; serial = asked.serial; body = asked.body; left = asked.left; bound = bound } in
    let call-is : call ≡ call_of context block given = cc (asks.serial_is, asks.body_is, asks.left_is) in
    subst (λ (b : Bool). DoesAsked (cond b (Uses block given behind next) (Faults TooLong place)) context old new result) (sym (le-leb (old.total + size) 1048576 counts.1))
    (begun context call (call_of context block given) behind next old middle new result call-is state-is frames-is calls)
