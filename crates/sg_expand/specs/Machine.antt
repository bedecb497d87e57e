-- What a step does to an expander, for what the front of the tokens asks for.
use Rattle.std.specs.Prelude.{◌≡◌, ◌⊎◌, ℕ, ◌<◌, ◌≤◌, Bool, true, false, List, [], ◌∷◌, ◌++◌, length, Option, Some, None, Result, Ok, Err, Vec}
use Rattle.std.specs.FinMap as map
use Rattle.std.specs.declared.alloc.Global.{Global}
use Rattle.sg_outside.specs.World.{WorldState, ReadsFile}
use Rattle.sg_device.specs.declared.fault.FileRefusal.TheVariants.{Failed, TooLong as FileTooLong}
use Rattle.sg_lex.specs.declared.token.Token.{Token}
use Rattle.sg_lex.specs.declared.fault.ConfigKind.{ConfigKind}
use Rattle.sg_lex.specs.declared.fault.ConfigKind.TheVariants.{TooLong, UnknownVariable, MissingArgument, UnknownArgument, Unsupported}
use Rattle.sg_block.specs.Arguments.{is_missing, is_unknown, bindings}
use Rattle.sg_block.specs.Tokens.{line_at}
use Rattle.sg_block.specs.Trimmed.{trimmed}
use Rattle.sg_block.specs.declared.argument.Argument.{Argument}
use Rattle.sg_block.specs.declared.token.FileLine.{FileLine}
use Rattle.sg_expand.specs.declared.block.BlockDefinition.{BlockDefinition}
use Rattle.sg_expand.specs.declared.expander.Expander.{Expander}
use Rattle.sg_expand.specs.declared.fault.ExpandStop.{ExpandStop}
use Rattle.sg_expand.specs.declared.fault.ExpandStop.TheVariants.{Fault, ReadFault, NoMemory}
use Rattle.sg_expand.specs.declared.frame.BlockCall.{BlockCall}
use Rattle.sg_expand.specs.declared.frame.Context.{Context}
use Rattle.sg_expand.specs.declared.frame.ExpandFrame.{ExpandFrame}
use Rattle.sg_expand.specs.declared.frame.ExpandFrame.TheVariants.{Expands, Binds}
use Rattle.sg_expand.specs.declared.frame.WaitingUse.{WaitingUse}
use Rattle.sg_expand.specs.declared.uses.BlockUse.{BlockUse}
use Rattle.sg_expand.specs.Expansion.{ExpansionState, ExpansionStep, Ends, Moves, Faults, Includes, Uses, body_context, file_context, file_tokens, with_file, names_no_file, charged, use_size, plain, word_or_use}
use Rattle.sg_expand.specs.Faults.{fault_at}
use Rattle.sg_expand.specs.Total.{Emits, IsSize}

-- the state in which an expander stands
abbrev pub state_of : Expander → ExpansionState
state_of expander = record {
  variables = expander.variables;
  blocks = expander.blocks;
  serial = expander.serial;
  total = expander.total;
  names = expander.names;
  out = expander.out;
}

-- these tokens are expanded next
abbrev pub tokens_frame : Context → Bool → List Token → ExpandFrame
tokens_frame context fresh tokens = Expands
    (record { context = context; fresh = fresh; tokens = tokens })

-- frames stand on those before, the first of them to be done the last
abbrev pub PushesFrames : List ExpandFrame → Expander → Expander → Result Unit ExpandStop → Type 0
PushesFrames frames old new (Ok done) = (new ≡ record old { frames = new.frames })
    × (new.frames.items ≡ old.frames.items ++ frames)
PushesFrames frames old new (Err (Fault fault)) = ⊥
PushesFrames frames old new (Err (ReadFault name)) = ⊥
PushesFrames frames old new (Err NoMemory) = Unit {0}

-- the frames with which the binding of a use goes on, and what comes out then
abbrev pub call_frames : BlockCall → List Argument → List Token → List ExpandFrame
call_frames call [] out =
    tokens_frame (body_context call.context call.bound call.serial) true (trimmed call.body) ∷ []
call_frames call (argument ∷ left) out =
    Binds (record { call = record call { left = left }; name = argument.name; out = out })
    ∷ tokens_frame call.context false argument.tokens ∷ []

abbrev pub call_out : List Argument → List Token → List Token
call_out [] out = out
call_out (argument ∷ left) out = []

-- the binding of a use goes on with the next argument, or with the body
abbrev pub CallsBlock : BlockCall → Expander → Expander → Result Unit ExpandStop → Type 0
CallsBlock call old new (Ok done) =
    (new ≡ record old { frames = new.frames; out = call_out call.left old.out })
    × (new.frames.items ≡ old.frames.items ++ call_frames call call.left old.out)
CallsBlock call old new (Err (Fault fault)) = ⊥
CallsBlock call old new (Err (ReadFault name)) = ⊥
CallsBlock call old new (Err NoMemory) = Unit {0}

-- the value that is whole now is bound, and what came out before it stands in its place
abbrev pub DoesBind : WaitingUse → Expander → Expander → Result Unit ExpandStop → Type 0
DoesBind wait old new result =
    CallsBlock (record wait.call { bound = map.insert wait.call.bound wait.name old.out })
    (record old { out = wait.out }) new result

-- a use begins: the tokens behind it wait
abbrev pub call_of : Context → BlockDefinition → List Argument → BlockCall
call_of context block given = record {
  context = context;
  serial = block.serial;
  body = block.body;
  left = bindings block.parameters given;
  bound = map.empty;
}

abbrev pub DoesUse : Context → BlockCall → List Token → ExpansionState → Expander → Expander
    → Result Unit ExpandStop
    → Type 0
DoesUse context call rest next old new (Ok done) =
    (middle : Expander) × ((state_of middle ≡ next)
    × ((middle.frames.items ≡ old.frames.items ++ tokens_frame context false rest ∷ [])
    × CallsBlock call middle new (Ok done)))
DoesUse context call rest next old new (Err (Fault fault)) = ⊥
DoesUse context call rest next old new (Err (ReadFault name)) = ⊥
DoesUse context call rest next old new (Err NoMemory) = Unit {0}

-- nothing is left to be done
abbrev pub DoesNothing : Expander → Expander → Result Unit ExpandStop → Type 0
DoesNothing old new (Ok done) = new ≡ old
DoesNothing old new (Err (Fault fault)) = ⊥
DoesNothing old new (Err (ReadFault name)) = ⊥
DoesNothing old new (Err NoMemory) = Unit {0}

abbrev pub IsNoMemory : Result Unit ExpandStop → Type 0
IsNoMemory (Ok done) = ⊥
IsNoMemory (Err (Fault fault)) = ⊥
IsNoMemory (Err (ReadFault name)) = ⊥
IsNoMemory (Err NoMemory) = Unit {0}

abbrev pub DoesMove : Context → Bool → List Token → ExpansionState → Expander → Expander
    → Result Unit ExpandStop
    → Type 0
DoesMove context fresh rest next old new (Ok done) =
    (state_of new ≡ next)
    × (new.frames.items ≡ old.frames.items ++ tokens_frame context fresh rest ∷ [])
DoesMove context fresh rest next old new (Err (Fault fault)) = ⊥
DoesMove context fresh rest next old new (Err (ReadFault name)) = ⊥
DoesMove context fresh rest next old new (Err NoMemory) = Unit {0}

abbrev pub DoesFault : ConfigKind → FileLine → Expander → Expander → Result Unit ExpandStop → Type 0
DoesFault kind line old new (Ok done) = ⊥
DoesFault kind line old new (Err (Fault fault)) = (fault ≡ fault_at kind line)
    × (new.names ≡ old.names)
DoesFault kind line old new (Err (ReadFault name)) = ⊥
DoesFault kind line old new (Err NoMemory) = Unit {0}

-- a token comes out as these, unless it names what is unknown
abbrev pub EmitsToken : Option (List Token) → FileLine → Expander → Expander
    → Result Unit ExpandStop → Type 0
EmitsToken None line old new result = DoesFault UnknownVariable line old new result
EmitsToken (Some tokens) line old new result =
    (new ≡ record old { total = new.total; out = new.out })
    × Emits tokens old.out old.total new.out new.total result

-- a step that reads no file does what is asked for
abbrev pub DoesAsked : ExpansionStep → Context → Expander → Expander → Result Unit ExpandStop
    → Type 0
DoesAsked Ends context old new result = DoesNothing old new result
DoesAsked (Moves fresh rest next) context old new result = DoesMove context fresh rest next old new
    result
DoesAsked (Faults kind line) context old new result = DoesFault kind line old new result
DoesAsked (Includes line name rest next) context old new result = IsNoMemory result
DoesAsked (Uses block given rest next) context old new result = DoesUse context
    (call_of context block given) rest next old new result

-- what a use asks for is the block's
pub record IsAskedFor (asked : BlockUse) (size : ℕ) (block : BlockDefinition)
    (given : List Argument) : Type 0 where
  pub size_is : IsSize size asked.size
  pub serial_is : asked.serial ≡ block.serial
  pub body_is : asked.body ≡ block.body
  pub left_is : asked.left ≡ bindings block.parameters given

-- a use that gives these arguments, or what is wrong with it
abbrev pub IsAsked : List Token → BlockDefinition → List Argument → Result BlockUse ExpandStop
    → Type 0
IsAsked tokens block given (Ok asked) =
    (is_missing block.parameters given ≡ false) × ((is_unknown block.parameters given ≡ false)
    × IsAskedFor asked (use_size tokens block) block given)
IsAsked tokens block given (Err (Fault fault)) =
    ((is_missing block.parameters given ≡ true)
    × (fault ≡ fault_at MissingArgument (line_at tokens 0)))
    ⊎ ((is_missing block.parameters given ≡ false) × ((is_unknown block.parameters given ≡ true)
    × (fault ≡ fault_at UnknownArgument (line_at tokens 0))))
IsAsked tokens block given (Err (ReadFault name)) = ⊥
IsAsked tokens block given (Err NoMemory) = Unit {0}

-- the use at the front, if one stands there, or what is wrong with it
abbrev pub FindsUse : Context → Bool → List Token → ExpansionState
    → Result (Option (BlockUse × List Token)) ExpandStop → Type 0
FindsUse context fresh tokens state (Ok None) = word_or_use context fresh tokens state
    ≡ plain context tokens state
FindsUse context fresh tokens state (Ok (Some found)) =
    (block : BlockDefinition) × ((given : List Argument)
    × (IsAskedFor found.0 (use_size tokens block) block given
    × (word_or_use context fresh tokens state
    ≡ charged (use_size tokens block) (line_at tokens 0) state (Uses block given found.1))))
FindsUse context fresh tokens state (Err (Fault fault)) =
    (kind : ConfigKind) × ((word_or_use context fresh tokens state ≡ Faults kind (line_at tokens 0))
    × (fault ≡ fault_at kind (line_at tokens 0)))
FindsUse context fresh tokens state (Err (ReadFault name)) = ⊥
FindsUse context fresh tokens state (Err NoMemory) = Unit {0}

-- the use of a block begins, whichever block it is that asks so
abbrev pub BeginsUse : Context → FileLine → BlockUse → List Token → Expander → Expander
    → Result Unit ExpandStop
    → Type 0
BeginsUse context line asked rest old new result =
    (size : ℕ) (block : BlockDefinition) (given : List Argument) → IsAskedFor asked size block given
    → DoesAsked (charged size line (state_of old) (Uses block given rest)) context old new result

-- the name of the file that an `@include` asks for, which is counted, or what is wrong with it
abbrev pub NamesFile : ExpansionStep → FileLine → List Token → Expander → Expander
    → Result (List ℕ) ExpandStop
    → Type 0
NamesFile step line rest old new (Ok name) = (step ≡ Includes line name rest (state_of new))
    × (new.frames.items ≡ old.frames.items)
NamesFile step line rest old new (Err (Fault fault)) = (kind : ConfigKind)
    × ((place : FileLine)
    × ((step ≡ Faults kind place) × ((fault ≡ fault_at kind place) × (new.names ≡ old.names))))
NamesFile step line rest old new (Err (ReadFault name)) = ⊥
NamesFile step line rest old new (Err NoMemory) = Unit {0}

-- whether a file of this name may be read, as the next one
abbrev pub ChecksName : List (List ℕ) → List ℕ → FileLine → Result Unit ExpandStop → Type 0
ChecksName names name line (Ok done) = (length names < 65536) × (names_no_file name ≡ false)
ChecksName names name line (Err (Fault fault)) =
    ((65536 ≤ length names) × (fault ≡ fault_at TooLong line))
    ⊎ ((length names < 65536) × (names_no_file name ≡ true) × (fault ≡ fault_at Unsupported line))
ChecksName names name line (Err (ReadFault other)) = ⊥
ChecksName names name line (Err NoMemory) = ⊥

-- a file was read, and its tokens are expanded before those behind the `@include`
abbrev pub TakesFile : Context → Bool → FileLine → List ℕ → List Token → List ℕ → Expander
    → Expander → Result Unit ExpandStop → Type 0
TakesFile context fresh line name rest text old new (Ok done) =
    (found : List Token) × ((file_tokens line (state_of old) text ≡ Ok found)
    × ((state_of new ≡ with_file name text (state_of old))
    × (new.frames.items ≡ old.frames.items ++ tokens_frame context fresh rest
    ∷ tokens_frame (file_context context) true found ∷ [])))
TakesFile context fresh line name rest text old new (Err (Fault fault)) =
    (file_tokens line (state_of old) text ≡ Err fault) × (new.names ≡ old.names ++ name ∷ [])
TakesFile context fresh line name rest text old new (Err (ReadFault other)) = ⊥
TakesFile context fresh line name rest text old new (Err NoMemory) = Unit {0}

-- what an `@include` of a name that may be read does, from where its name was counted
abbrev pub DoesInclude : Context → Bool → FileLine → List ℕ → List Token → ExpansionState → Expander
    → WorldState → Expander → WorldState → Result Unit ExpandStop → Type 0
DoesInclude context fresh line name rest next old world new world' (Err NoMemory) = Unit {0}
DoesInclude context fresh line name rest next old world new world' (Err (ReadFault other)) =
    (other ≡ name) × (ReadsFile world world' name 1048576 (Err Failed) × (new.names ≡ next.names))
DoesInclude context fresh line name rest next old world new world' result =
    ((bytes : Vec ℕ Global) × (ReadsFile world world' name 1048576 (Ok bytes)
    × ((middle : Expander) × ((state_of middle ≡ next)
    × ((middle.frames.items ≡ old.frames.items)
    × TakesFile context fresh line name rest bytes.items middle new result)))))
    ⊎ (ReadsFile world world' name 1048576 (Err FileTooLong)
    × ((result ≡ Err (Fault (fault_at TooLong line))) × (new.names ≡ next.names)))

-- a step does what is asked for
abbrev pub DoesStep : ExpansionStep → Context → Bool → Expander → WorldState → Expander → WorldState
    → Result Unit ExpandStop → Type 0
DoesStep (Includes line name rest next) context fresh old world new world' result =
    DoesInclude context fresh line name rest next old world new world' result
DoesStep step context fresh old world new world' result = (world' ≡ world)
    × DoesAsked step context old new result
