-- What a step does, from what its parts do.
use Rattle.std.proofs.Common.{◌≡◌, ℕ, Bool, List, Result, Ok, Err, inl, refl, sym, subst}
use Rattle.std.specs.Prelude.{Vec}
use Rattle.std.specs.declared.alloc.Global.{Global}
use Rattle.sg_outside.specs.World.{WorldState, ReadsFile}
use Rattle.sg_lex.specs.declared.token.Token.{Token}
use Rattle.sg_block.specs.declared.token.FileLine.{FileLine}
use Rattle.sg_expand.specs.declared.expander.Expander.{Expander}
use Rattle.sg_expand.specs.declared.fault.ExpandStop.{ExpandStop}
use Rattle.sg_expand.specs.declared.fault.ExpandStop.TheVariants.{Fault, ReadFault, NoMemory}
use Rattle.sg_expand.specs.declared.frame.Context.{Context}
use Rattle.sg_expand.specs.Expansion.{ExpansionStep, Ends, Moves, Faults, Includes, Uses}
use Rattle.sg_expand.specs.Machine.{DoesAsked, DoesInclude, DoesStep, NamesFile, TakesFile, state_of}

-- lack of memory is free
pub does-free : (asked : ExpansionStep) (context : Context) (old new : Expander) → DoesAsked asked context old new (Err NoMemory)
does-free Ends context old new = tt
does-free (Moves fresh rest next) context old new = tt
does-free (Faults kind line) context old new = tt
does-free (Includes line name rest next) context old new = tt
does-free (Uses block given rest next) context old new = tt

-- a step that reads nothing
does-step : (asked : ExpansionStep) (context : Context) (fresh : Bool) (old : Expander) (world : WorldState) (new : Expander) (result : Result Unit ExpandStop)
    → DoesAsked asked context old new result → DoesStep asked context fresh old world new world result
does-step Ends context fresh old world new result does = (refl, does)
does-step (Moves again rest next) context fresh old world new result does = (refl, does)
does-step (Faults kind line) context fresh old world new result does = (refl, does)
does-step (Includes line name rest next) context fresh old world new (Ok done) does = absurd does
does-step (Includes line name rest next) context fresh old world new (Err (Fault fault)) does = absurd does
does-step (Includes line name rest next) context fresh old world new (Err (ReadFault other)) does = absurd does
does-step (Includes line name rest next) context fresh old world new (Err NoMemory) does = tt
does-step (Uses block given rest next) context fresh old world new result does = (refl, does)

-- the same of a step that is known to be another
pub step-does : (asked asked' : ExpansionStep) (context : Context) (fresh : Bool) (old : Expander) (world : WorldState) (new : Expander) (result : Result Unit ExpandStop)
    → asked ≡ asked' → DoesAsked asked' context old new result → DoesStep asked context fresh old world new world result
step-does asked asked' context fresh old world new result e does = does-step asked context fresh old world new result (subst (λ (x : ExpansionStep). DoesAsked x context old new result) (sym e) does)

-- what is wrong with the name stops an `@include`
pub name-stops : (step : ExpansionStep) (context : Context) (fresh : Bool) (line : FileLine) (rest : List Token) (old : Expander) (world : WorldState) (new : Expander) (stop : ExpandStop)
    → NamesFile step line rest old new (Err stop) → DoesStep step context fresh old world new world (Err stop)
name-stops step context fresh line rest old world new (Fault fault) h =
    subst (λ (s : ExpansionStep). DoesStep s context fresh old world new world (Err (Fault fault))) (sym h.1.1.0) (refl, h.1.1.1)
name-stops step context fresh line rest old world new (ReadFault name) h = absurd h
name-stops step context fresh line rest old world new NoMemory h = does-step step context fresh old world new (Err NoMemory) (does-free step context old new)

-- what a file that was read gives, over frames that are those before
file-taken : (context : Context) (fresh : Bool) (line : FileLine) (name : List ℕ) (rest : List Token) (old : Expander) (world : WorldState) (middle new : Expander) (world' : WorldState) (bytes : Vec ℕ Global) (result : Result Unit ExpandStop)
    → middle.frames.items ≡ old.frames.items → ReadsFile world world' name 1048576 (Ok bytes) → TakesFile context fresh line name rest bytes.items middle new result
    → DoesInclude context fresh line name rest (state_of middle) old world new world' result
file-taken context fresh line name rest old world middle new world' bytes (Ok done) same reads taken = inl (bytes, (reads, (middle, (refl, (same, taken)))))
file-taken context fresh line name rest old world middle new world' bytes (Err (Fault fault)) same reads taken = inl (bytes, (reads, (middle, (refl, (same, taken)))))
file-taken context fresh line name rest old world middle new world' bytes (Err (ReadFault other)) same reads taken = absurd taken
file-taken context fresh line name rest old world middle new world' bytes (Err NoMemory) same reads taken = tt

-- an `@include` whose file was read and taken
pub include-taken : (step : ExpansionStep) (context : Context) (fresh : Bool) (line : FileLine) (name : List ℕ) (rest : List Token) (old : Expander) (world : WorldState) (middle new : Expander) (world' : WorldState) (asked : List ℕ) (bytes : Vec ℕ Global) (text : List ℕ) (place : FileLine) (result : Result Unit ExpandStop)
    → NamesFile step line rest old middle (Ok name) → asked ≡ name → ReadsFile world world' asked 1048576 (Ok bytes) → text ≡ bytes.items → place ≡ line
    → TakesFile context fresh place name rest text middle new result
    → DoesStep step context fresh old world new world' result
include-taken step context fresh line name rest old world middle new world' asked bytes text place result named called reads same stands taken =
    subst (λ (s : ExpansionStep). DoesStep s context fresh old world new world' result) (sym named.0)
    (file-taken context fresh line name rest old world middle new world' bytes result named.1
    (subst (λ (xs : List ℕ). ReadsFile world world' xs 1048576 (Ok bytes)) called reads)
    (subst (λ (at : FileLine). TakesFile context fresh at name rest bytes.items middle new result) stands
    (subst (λ (items : List ℕ). TakesFile context fresh place name rest items middle new result) same taken)))
