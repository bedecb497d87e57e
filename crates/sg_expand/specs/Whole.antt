-- What an expander does as a whole.
use Rattle.std.specs.Prelude.{◌≡◌, ℕ, true, List, [], ◌∷◌, Result, Ok, Err, reverse}
use Rattle.sg_outside.specs.World.{WorldState}
use Rattle.sg_lex.specs.declared.token.Token.{Token}
use Rattle.sg_lex.specs.declared.fault.ConfigFault.{ConfigFault}
use Rattle.sg_expand.specs.declared.expander.Expander.{Expander}
use Rattle.sg_expand.specs.declared.fault.ExpandStop.{ExpandStop}
use Rattle.sg_expand.specs.declared.fault.ExpandStop.TheVariants.{Fault, ReadFault, NoMemory}
use Rattle.sg_expand.specs.declared.frame.ExpandFrame.{ExpandFrame}
use Rattle.sg_expand.specs.Expansion.{ExpansionOutcome, Goes, Stops, Faulty, Unread, first_context, first_state, main_tokens, RunsTokens}
use Rattle.sg_expand.specs.Machine.{state_of, tokens_frame}
use Rattle.sg_expand.specs.Pending.{FramesLead}

-- nothing was done yet
abbrev pub IsNewExpander : List ℕ → Expander → Type 0
IsNewExpander name expander = (expander.frames.items ≡ []) × (state_of expander ≡ first_state name)

-- an answer is a list of tokens or a fault, but for lack of memory
abbrev pub GivesTokens : Result (List Token) ConfigFault → Result (List Token) ExpandStop → Type 0
GivesTokens wanted (Ok tokens) = wanted ≡ Ok tokens
GivesTokens wanted (Err (Fault fault)) = wanted ≡ Err fault
GivesTokens wanted (Err (ReadFault name)) = ⊥
GivesTokens wanted (Err NoMemory) = Unit {0}

-- the outcome to which an answer belongs, in the state that it leaves
abbrev pub AnswersExpansion : Expander → WorldState → Result Unit ExpandStop
    → (ExpansionOutcome → Type 0) → Type 0
AnswersExpansion expander world (Ok done) comes = comes (Goes (state_of expander) world)
AnswersExpansion expander world (Err (Fault fault)) comes = comes
    (Stops (Faulty fault) expander.names world)
AnswersExpansion expander world (Err (ReadFault name)) comes = comes
    (Stops (Unread name) expander.names world)
AnswersExpansion expander world (Err NoMemory) comes = Unit {0}

-- what was to be done first is done: what waits then leads to what it led to before
abbrev pub DoesFrame : ExpandFrame → Expander → WorldState → Expander → WorldState
    → Result Unit ExpandStop → Type 0
DoesFrame frame old world new world' (Ok done) =
    (outcome : ExpansionOutcome)
    → FramesLead (reverse new.frames.items) (state_of new) world' outcome
    → FramesLead (frame ∷ reverse old.frames.items) (state_of old) world outcome
DoesFrame frame old world new world' (Err stop) = AnswersExpansion new world' (Err stop)
    (FramesLead (frame ∷ reverse old.frames.items) (state_of old) world)

-- what waits is done
abbrev pub WorksFrames : Expander → WorldState → Expander → WorldState → Result Unit ExpandStop
    → Type 0
WorksFrames old world new world' result = AnswersExpansion new world' result
    (FramesLead (reverse old.frames.items) (state_of old) world)

-- the main file's text is begun: its tokens are expanded next
abbrev pub BeginsText : List ℕ → Expander → Expander → Result Unit ExpandStop → Type 0
BeginsText text old new (Ok done) =
    (tokens : List Token) × ((main_tokens text ≡ Ok tokens) ×
    ((state_of new ≡ state_of old)
    × (new.frames.items ≡ tokens_frame first_context true tokens ∷ [])))
BeginsText text old new (Err (Fault fault)) = (main_tokens text ≡ Err fault)
    × (new.names ≡ old.names)
BeginsText text old new (Err (ReadFault name)) = ⊥
BeginsText text old new (Err NoMemory) = Unit {0}

-- the main file's text is expanded
abbrev pub RunsWhole : List ℕ → Expander → WorldState → Expander → WorldState
    → Result Unit ExpandStop → Type 0
RunsWhole text old world new world' result = AnswersExpansion new world' result
    (RunsTokens (main_tokens text) (state_of old) world)
