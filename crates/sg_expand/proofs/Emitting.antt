-- A token that comes out, before those behind it.
use Rattle.std.proofs.Common.{◌≡◌, ℕ, Bool, false, cond, List, [], ◌∷◌, ◌++◌, drop, slice_get, Option, Some, None, Result, Ok, Err, ap, sym, ◌∙◌, subst}
use Rattle.std.specs.Option.{option_map}
use Rattle.sg_list.specs.Lists.{passes_at}
use Rattle.sg_lex.specs.declared.token.Token.{Token}
use Rattle.sg_block.specs.Tokens.{is_front, is_tick, text_at, line_at}
use Rattle.sg_block.specs.Values.{reached}
use Rattle.sg_block.specs.declared.token.FileLine.{FileLine}
use Rattle.sg_expand.specs.declared.expander.Expander.{Expander}
use Rattle.sg_expand.specs.declared.fault.ExpandStop.{ExpandStop}
use Rattle.sg_expand.specs.declared.fault.ExpandStop.TheVariants.{Fault, ReadFault, NoMemory}
use Rattle.sg_expand.specs.declared.frame.Context.{Context}
use Rattle.sg_expand.specs.declared.frame.ExpandFrame.{ExpandFrame}
use Rattle.sg_expand.specs.Expansion.{ExpansionState, Moves, emitted_by, retold, text_in, text_of, plain_text, variable_tokens, plain}
use Rattle.sg_expand.specs.Machine.{DoesAsked, EmitsToken, PushesFrames, tokens_frame, state_of}

-- some tokens came out, and those behind them are put on
moved : (context : Context) (fresh : Bool) (rest out : List Token) (old middle new : Expander) (result : Result Unit ExpandStop)
    → middle ≡ record old { total = middle.total; out = middle.out } → middle.out ≡ old.out ++ out → PushesFrames (tokens_frame context fresh rest ∷ []) middle new result
    → DoesAsked (Moves fresh rest (record (state_of old) { total = middle.total; out = old.out ++ out })) context old new result
moved context fresh rest out old middle new (Ok done) is grown pushed =
    let so : (xs : List Token) → ExpansionState = λ xs. record (state_of old) { total = middle.total; out = xs } in
    let stays : state_of new ≡ state_of middle = ap state_of pushed.0 in
    let was : state_of middle ≡ so middle.out = ap state_of is in
    let more : so middle.out ≡ so (old.out ++ out) = ap so grown in
    let before : middle.frames.items ≡ old.frames.items = ap (λ (e : Expander). e.frames.items) is in
    (stays ∙ was ∙ more, pushed.1 ∙ ap (λ (fs : List ExpandFrame). fs ++ tokens_frame context fresh rest ∷ []) before)
moved context fresh rest out old middle new (Err (Fault fault)) is grown pushed = pushed
moved context fresh rest out old middle new (Err (ReadFault name)) is grown pushed = pushed
moved context fresh rest out old middle new (Err NoMemory) is grown pushed = tt

text-emitted : (context : Context) (tokens : List Token) (text : Option (List ℕ)) (done : Unit) (old middle new : Expander) (result : Result Unit ExpandStop)
    → EmitsToken (option_map (retold (slice_get tokens 0)) text) (line_at tokens 0) old middle (Ok done)
    → PushesFrames (tokens_frame context (passes_at tokens 0 is_front) (drop 1 tokens) ∷ []) middle new result → DoesAsked (plain_text tokens (state_of old) text) context old new result
text-emitted context tokens None done old middle new result emits pushed = absurd emits
text-emitted context tokens (Some text) done old middle new result emits pushed =
    let out : List Token = retold (slice_get tokens 0) text in
    let fresh : Bool = passes_at tokens 0 is_front in
    subst (λ (r : Result ℕ FileLine). DoesAsked (emitted_by fresh (drop 1 tokens) out (state_of old) r) context old new result) (sym emits.1.0)
    (moved context fresh (drop 1 tokens) out old middle new result emits.0 emits.1.1 pushed)

-- the token at the front comes out, which is no variable
pub emits-text : (context : Context) (tokens behind : List Token) (fresh tick : Bool) (done : Unit) (old middle new : Expander) (result : Result Unit ExpandStop)
    → tick ≡ passes_at tokens 0 is_tick → tick ≡ false → fresh ≡ passes_at tokens 0 is_front → behind ≡ drop 1 tokens
    → EmitsToken (option_map (retold (slice_get tokens 0)) (text_in context.scope old.variables tokens 0)) (line_at tokens 0) old middle (Ok done)
    → PushesFrames (tokens_frame context fresh behind ∷ []) middle new result → DoesAsked (plain context tokens (state_of old)) context old new result
emits-text context tokens behind fresh tick done old middle new result is differs fresh-is behind-is emits pushed =
    let value = variable_tokens tokens (state_of old) (reached context.scope old.variables (text_at tokens 0)) in
    let text = plain_text tokens (state_of old) (text_of context (state_of old) tokens 0) in
    let none : passes_at tokens 0 is_tick ≡ false = sym is ∙ differs in
    subst (λ (b : Bool). DoesAsked (cond b value text) context old new result) (sym none)
    (text-emitted context tokens (text_in context.scope old.variables tokens 0) done old middle new result emits
    (subst (λ (xs : List Token). PushesFrames (tokens_frame context (passes_at tokens 0 is_front) xs ∷ []) middle new result) behind-is
    (subst (λ (b : Bool). PushesFrames (tokens_frame context b behind ∷ []) middle new result) fresh-is pushed)))
