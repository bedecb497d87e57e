-- What a configuration is expanded to: a relation by cases, from left to right, over the state of variables, blocks, files and the running
-- total. Variables, `@define`, `@include` and blocks are those of syslog-ng's administration guide.
use Rattle.std.specs.Prelude.{◌≡◌, ℕ, ◌+◌, ◌-◌, ◌^◌, min, Bool, true, false, ◌==◌, ◌&&◌, ◌||◌, not, nat_le, nat_lt, if◌then◌else◌, List, [], ◌∷◌, ◌++◌, length, Option, Some, None, Result, Ok, Err, Vec, codes, drop, slice_get, slice_index}
use Rattle.std.specs.List.{list_any, list_all}
use Rattle.std.specs.Option.{option_map_or}
use Rattle.std.specs.Char.{is_ascii_digit}
use Rattle.std.specs.Str.{bytes_eq, is_utf8}
use Rattle.std.specs.Ordering.{nat_cmp}
use Rattle.std.specs.Cmp.Lexicographic.{slice_cmp}
use Rattle.std.specs.FinMap as map
use Rattle.std.specs.declared.alloc.Global.{Global}
use Rattle.sg_device.specs.Faults.{Rose}
use Rattle.sg_outside.specs.World.{WorldState, ReadsFile}
use Rattle.sg_device.specs.declared.fault.FileRefusal.TheVariants.{Failed, TooLong as FileTooLong}
use Rattle.sg_list.specs.Lists.{passes_at}
use Rattle.sg_lex.specs.declared.token.Token.{Token}
use Rattle.sg_lex.specs.declared.token.LexFault.{LexFault}
use Rattle.sg_lex.specs.declared.token.LexFault.TheVariants.{OpenString as OpenStringAt, BadByte as BadByteAt, NoMemory as LexNoMemory}
use Rattle.sg_lex.specs.declared.fault.ConfigKind.{ConfigKind}
use Rattle.sg_lex.specs.declared.fault.ConfigKind.TheVariants.{OpenString, BadByte, Version, IncludeDepth, UnknownVariable, MissingArgument, UnknownArgument, TooLong, Unsupported}
use Rattle.sg_lex.specs.declared.fault.ConfigFault.{ConfigFault}
use Rattle.sg_lex.specs.Tokens.{tokens_of, line_at as line_in}
use Rattle.sg_block.specs.declared.token.FileLine.{FileLine}
use Rattle.sg_block.specs.declared.argument.Argument.{Argument}
use Rattle.sg_block.specs.declared.form.Definition.{Definition}
use Rattle.sg_expand.specs.declared.block.BlockDefinition.{BlockDefinition}
use Rattle.sg_expand.specs.declared.frame.Context.{Context}
use Rattle.sg_expand.specs.declared.fault.Expanded.{Expanded}
use Rattle.sg_expand.specs.declared.fault.ExpandRefusal.{ExpandRefusal}
use Rattle.sg_expand.specs.declared.fault.ExpandRefusal.TheVariants.{Bad, ReadFault, NoMemory}
use Rattle.sg_block.specs.Tokens.{is_word, is_string, is_name, is_at, is_tick, is_symbol, is_front, size_of, text_at, line_at}
use Rattle.sg_block.specs.Arguments.{is_missing, is_unknown, bindings}
use Rattle.sg_block.specs.Forms.{Use, definition, use_form}
use Rattle.sg_block.specs.Trimmed.{trimmed}
use Rattle.sg_block.specs.Values.{Values, reached, replaced}
use Rattle.sg_expand.specs.Faults.{fault_at}
use Rattle.sg_expand.specs.Total.{counted}

-- the blocks by name
abbrev pub Blocks : Type 0
Blocks = map.FinMap (slice_cmp nat_cmp) BlockDefinition

pub record ExpansionState : Type 0 where
  pub variables : Values
  pub blocks : Blocks
  -- how many blocks were defined: the count stands still at 2 ^ 64 - 1
  pub serial : ℕ
  pub total : ℕ
  -- the names of the files read, in order
  pub names : List (List ℕ)
  -- the tokens that stand in the list, or in the value that is expanded
  pub out : List Token

-- why there is no expansion
pub data Refusal : Type 0 where
  Faulty : ConfigFault → Refusal
  Unread : List ℕ → Refusal

-- what an expansion comes to, and the machine then: a state, or why it stops, with the names of the files read until then
pub data ExpansionOutcome : Type 0 where
  Goes : ExpansionState → WorldState → ExpansionOutcome
  Stops : Refusal → List (List ℕ) → WorldState → ExpansionOutcome

-- what the front of a token list asks for
pub data ExpansionStep : Type 0 where
  -- there is nothing left
  Ends : ExpansionStep
  -- to go on with these tokens, at whose front a use may stand or not
  Moves : Bool → List Token → ExpansionState → ExpansionStep
  -- a fault that stands at this line
  Faults : ConfigKind → FileLine → ExpansionStep
  -- the directive's line, the name of the file to be read, and the tokens behind it
  Includes : FileLine → List ℕ → List Token → ExpansionState → ExpansionStep
  -- the block, what is given, and the tokens behind the use
  Uses : BlockDefinition → List Argument → List Token → ExpansionState → ExpansionStep

-- the running total grows, or the fault stands at the line
abbrev pub charged : ℕ → FileLine → ExpansionState → (ExpansionState → ExpansionStep)
    → ExpansionStep
charged size line state later = if nat_le (state.total + size) 1048576
    then later (record state { total = state.total + size }) else Faults TooLong line

-- tokens come out, each of which is counted
abbrev pub emitted_by : Bool → List Token → List Token → ExpansionState → Result ℕ FileLine
    → ExpansionStep
emitted_by fresh rest tokens state (Ok total) = Moves fresh rest
    (record state { total = total; out = state.out ++ tokens })
emitted_by fresh rest tokens state (Err line) = Faults TooLong line

abbrev pub emitted : Bool → List Token → List Token → ExpansionState → ExpansionStep
emitted fresh rest tokens state = emitted_by fresh rest tokens state (counted state.total tokens)

abbrev pub is_directive : List ℕ → List Token → Bool
is_directive word tokens = passes_at tokens 0 is_at && bytes_eq (text_at tokens 0) word

-- the text of the token at a place, in which names are replaced where it is a string
abbrev pub text_in : Values → Values → List Token → ℕ → Option (List ℕ)
text_in scope variables tokens place =
    if passes_at tokens place is_string then replaced scope variables 0 (text_at tokens place)
    else Some (text_at tokens place)

abbrev pub text_of : Context → ExpansionState → List Token → ℕ → Option (List ℕ)
text_of context state tokens place = text_in context.scope state.variables tokens place

-- the token of another text
abbrev pub with_text : Token → List ℕ → Token
with_text token text = record token { text = text }

-- the token at a place of another text, as a list
abbrev pub retold : Option Token → List ℕ → List Token
retold None text = []
retold (Some token) text = with_text token text ∷ []

abbrev pub plain_text : List Token → ExpansionState → Option (List ℕ) → ExpansionStep
plain_text tokens state None = Faults UnknownVariable (line_at tokens 0)
plain_text tokens state (Some text) = emitted (passes_at tokens 0 is_front) (drop 1 tokens)
    (retold (slice_get tokens 0) text) state

abbrev pub variable_tokens : List Token → ExpansionState → Option (List Token) → ExpansionStep
variable_tokens tokens state None = Faults UnknownVariable (line_at tokens 0)
variable_tokens tokens state (Some value) = emitted false (drop 1 tokens) value state

-- a token that is no directive, definition or use
abbrev pub plain : Context → List Token → ExpansionState → ExpansionStep
plain context tokens state =
    if passes_at tokens 0 is_tick then variable_tokens tokens state
    (reached context.scope state.variables (text_at tokens 0))
    else plain_text tokens state (text_of context state tokens 0)

-- whether the block may be used: in a block's body only those may that were defined before it
abbrev pub is_in_reach : Option ℕ → BlockDefinition → Bool
is_in_reach None block = true
is_in_reach (Some limit) block = nat_lt block.serial limit

-- a use's word and its block's definition, as they are counted
abbrev pub use_size : List Token → BlockDefinition → ℕ
use_size tokens block = length (text_at tokens 0) + 1 + size_of block.written + size_of block.body

abbrev pub used : List Token → BlockDefinition → Use → ExpansionState → ExpansionStep
used tokens block given state =
    if is_missing block.parameters given.0 then Faults MissingArgument (line_at tokens 0)
    else (if is_unknown block.parameters given.0 then Faults UnknownArgument (line_at tokens 0)
    else charged (use_size tokens block) (line_at tokens 0) state (Uses block given.0 given.1))

abbrev pub use_of : Context → List Token → ExpansionState → Option BlockDefinition → Option Use
    → ExpansionStep
use_of context tokens state None given = plain context tokens state
use_of context tokens state (Some block) None = plain context tokens state
use_of context tokens state (Some block) (Some given) =
    if is_in_reach context.limit block then used tokens block given state
    else plain context tokens state

-- a word at which a use may stand, or another token
abbrev pub word_or_use : Context → Bool → List Token → ExpansionState → ExpansionStep
word_or_use context fresh tokens state =
    if fresh && passes_at tokens 0 is_word
    then use_of context tokens state (map.get state.blocks (text_at tokens 0)) (use_form tokens)
    else plain context tokens state

abbrev pub with_block : Definition → ExpansionState → ExpansionState
with_block defined state =
    record state {
      serial = min (state.serial + 1) (2 ^ 64 - 1);
      blocks = map.insert state.blocks defined.name
          (record {
            serial = state.serial;
            parameters = defined.parameters;
            written = defined.written;
            body = defined.body;
          });
    }

abbrev pub definition_or_word : Context → Bool → List Token → ExpansionState → Option Definition
    → ExpansionStep
definition_or_word context fresh tokens state None = word_or_use context fresh tokens state
definition_or_word context fresh tokens state (Some defined) = Moves true defined.behind
    (with_block defined state)

-- `4.` and one or more digits
abbrev pub is_version : List ℕ → Bool
is_version word =
    nat_le 3 (length word) && ((slice_index word 0 == 52)
    && ((slice_index word 1 == 46) && list_all is_ascii_digit (drop 2 word)))

-- `@version : WORD`, `@define WORD NAME`, `@include STR`, `@module WORD` and `@requires WORD`
abbrev pub begins_version : List Token → Bool
begins_version tokens = is_directive (codes "version") tokens
    && (passes_at tokens 1 (is_symbol 58) && passes_at tokens 2 is_word)

abbrev pub begins_define : List Token → Bool
begins_define tokens = is_directive (codes "define") tokens
    && (passes_at tokens 1 is_word && passes_at tokens 2 is_name)

abbrev pub begins_include : List Token → Bool
begins_include tokens = is_directive (codes "include") tokens && passes_at tokens 1 is_string

abbrev pub begins_ignored : List Token → Bool
begins_ignored tokens = (is_directive (codes "module") tokens
    || is_directive (codes "requires") tokens) && passes_at tokens 1 is_word

abbrev pub version_read : Bool → List Token → ExpansionState → ExpansionStep
version_read fresh tokens state =
    if is_version (text_at tokens 2) || bytes_eq (text_at tokens 2) (codes "current")
    then Moves fresh (drop 3 tokens) state
    else Faults Version (line_at tokens 0)

abbrev pub with_variable : List ℕ → List Token → ExpansionState → ExpansionState
with_variable name value state = record state { variables = map.insert state.variables name value }

abbrev pub define_read : Bool → List Token → ExpansionState → Option (List ℕ) → ExpansionStep
define_read fresh tokens state None = Faults UnknownVariable (line_at tokens 2)
define_read fresh tokens state (Some text) =
    charged (length text + 1) (line_at tokens 0) state (λ next. Moves fresh (drop 3 tokens)
    (with_variable (text_at tokens 1) (retold (slice_get tokens 2) text) next))

abbrev pub has_wildcard : List ℕ → Bool
has_wildcard name = list_any (λ b. (b == 42) || (b == 63)) name

-- no file is asked for by a name with a wildcard, or by one that isn't UTF-8
abbrev pub names_no_file : List ℕ → Bool
names_no_file name = has_wildcard name || not (is_utf8 name)

abbrev pub named_file : List Token → List ℕ → ExpansionState → ExpansionStep
named_file tokens name state =
    if nat_le 65536 (length state.names) then Faults TooLong (line_at tokens 0)
    else (if names_no_file name then Faults Unsupported (line_at tokens 0)
    else Includes (line_at tokens 0) name (drop 2 tokens) state)

abbrev pub included : List Token → ExpansionState → Option (List ℕ) → ExpansionStep
included tokens state None = Faults UnknownVariable (line_at tokens 1)
included tokens state (Some name) = charged (length name + 1) (line_at tokens 0) state
    (named_file tokens name)

abbrev pub include_read : Context → List Token → ExpansionState → ExpansionStep
include_read context tokens state =
    if nat_le 15 context.depth then Faults IncludeDepth (line_at tokens 0)
    else included tokens state (replaced context.scope state.variables 0 (text_at tokens 1))

-- what stands at the front: a directive that reads nothing, a definition, a use or a token
abbrev pub front : Context → Bool → List Token → ExpansionState → ExpansionStep
front context fresh tokens state =
    if length tokens == 0 then Ends
    else (if begins_version tokens then version_read fresh tokens state
    else (if begins_define tokens then define_read fresh tokens state
    (text_of context state tokens 2)
    else (if begins_ignored tokens then Moves fresh (drop 2 tokens) state
    else definition_or_word context fresh tokens state (definition tokens))))

abbrev pub step : Context → Bool → List Token → ExpansionState → ExpansionStep
step context fresh tokens state = if begins_include tokens then include_read context tokens state
    else front context fresh tokens state

-- what is to be expanded
pub data ExpansionJob : Type 0 where
  -- these tokens, at whose front a use may stand or not
  Tokens : Context → Bool → List Token → ExpansionJob
  -- a use in a context, of the block of this number and body: the arguments that are left, with the values that are bound
  Binding : Context → ℕ → List Token → List Argument → Values → ExpansionJob

abbrev pub body_context : Context → Values → ℕ → Context
body_context context bound serial = record context { scope = bound; limit = Some serial }

abbrev pub file_context : Context → Context
file_context context = record { depth = context.depth + 1; scope = map.empty; limit = None }

abbrev pub fault_in : ℕ → List ℕ → LexFault → ConfigFault
fault_in file text (OpenStringAt place) =
    record { kind = OpenString; file = file; line = line_in text place }
fault_in file text (BadByteAt place) =
    record { kind = BadByte; file = file; line = line_in text place }
fault_in file text LexNoMemory = record { kind = BadByte; file = file; line = 1 }

-- the tokens of a text, or what is wrong with it
abbrev pub lexed : ℕ → List ℕ → Result (List Token) LexFault → Result (List Token) ConfigFault
lexed file text (Ok tokens) = Ok tokens
lexed file text (Err fault) = Err (fault_in file text fault)

-- the tokens of the next file of this text, which an `@include` at this line asks for, once its bytes are counted
abbrev pub file_tokens : FileLine → ExpansionState → List ℕ → Result (List Token) ConfigFault
file_tokens line state text =
    if nat_le (state.total + (length text + 1)) 1048576
    then lexed (length state.names) text (tokens_of (length state.names) text)
    else Err (fault_at TooLong line)

-- a file was read, and its bytes were counted: it takes the next number
abbrev pub with_file : List ℕ → List ℕ → ExpansionState → ExpansionState
with_file name text state = record state {
  names = state.names ++ name ∷ [];
  total = state.total + (length text + 1);
}

-- the state with nothing, or with these tokens, come out
abbrev pub with_out : List Token → ExpansionState → ExpansionState
with_out out state = record state { out = out }

-- the job, in a state of the expansion and of the machine, comes to this outcome
pub data RunsJob : ExpansionJob → ExpansionState → WorldState → ExpansionOutcome → Type 0 where
  ends : (context : Context) (fresh : Bool) (tokens : List Token) (state : ExpansionState)
      (world : WorldState)
      → step context fresh tokens state ≡ Ends
      → RunsJob (Tokens context fresh tokens) state world (Goes state world)
  moves : (context : Context) (fresh : Bool) (tokens : List Token) (state : ExpansionState)
      (world : WorldState) (again : Bool) (rest : List Token) (next : ExpansionState)
      (outcome : ExpansionOutcome)
      → step context fresh tokens state ≡ Moves again rest next
      → RunsJob (Tokens context again rest) next world outcome
      → RunsJob (Tokens context fresh tokens) state world outcome
  faults : (context : Context) (fresh : Bool) (tokens : List Token) (state : ExpansionState)
      (world : WorldState) (kind : ConfigKind) (line : FileLine)
      → step context fresh tokens state ≡ Faults kind line
      → RunsJob (Tokens context fresh tokens) state world
      (Stops (Faulty (fault_at kind line)) state.names world)
  -- a file is read, and its tokens are expanded before those behind the `@include`
  includes : (context : Context) (fresh : Bool) (tokens : List Token) (state : ExpansionState)
      (world : WorldState) (line : FileLine) (name : List ℕ) (rest : List Token)
      (next : ExpansionState) (read : WorldState) (bytes : Vec ℕ Global)
      (found : List Token) (middle : ExpansionState) (later : WorldState)
      (outcome : ExpansionOutcome)
      → step context fresh tokens state ≡ Includes line name rest next
      → ReadsFile world read name 1048576 (Ok bytes)
      → file_tokens line next bytes.items ≡ Ok found
      → RunsJob (Tokens (file_context context) true found) (with_file name bytes.items next) read
      (Goes middle later)
      → RunsJob (Tokens context fresh rest) middle later outcome
      → RunsJob (Tokens context fresh tokens) state world outcome
  included_stops : (context : Context) (fresh : Bool) (tokens : List Token) (state : ExpansionState)
      (world : WorldState) (line : FileLine) (name : List ℕ) (rest : List Token)
      (next : ExpansionState) (read : WorldState) (bytes : Vec ℕ Global)
      (found : List Token) (refusal : Refusal) (names : List (List ℕ)) (later : WorldState)
      → step context fresh tokens state ≡ Includes line name rest next
      → ReadsFile world read name 1048576 (Ok bytes)
      → file_tokens line next bytes.items ≡ Ok found
      → RunsJob (Tokens (file_context context) true found) (with_file name bytes.items next) read
      (Stops refusal names later)
      → RunsJob (Tokens context fresh tokens) state world (Stops refusal names later)
  file_faults : (context : Context) (fresh : Bool) (tokens : List Token) (state : ExpansionState)
      (world : WorldState) (line : FileLine) (name : List ℕ) (rest : List Token)
      (next : ExpansionState) (read : WorldState) (bytes : Vec ℕ Global) (fault : ConfigFault)
      → step context fresh tokens state ≡ Includes line name rest next
      → ReadsFile world read name 1048576 (Ok bytes)
      → file_tokens line next bytes.items ≡ Err fault
      → RunsJob (Tokens context fresh tokens) state world
      (Stops (Faulty fault) (next.names ++ name ∷ []) read)
  file_too_long : (context : Context) (fresh : Bool) (tokens : List Token) (state : ExpansionState)
      (world : WorldState) (line : FileLine) (name : List ℕ) (rest : List Token)
      (next : ExpansionState) (read : WorldState)
      → step context fresh tokens state ≡ Includes line name rest next
      → ReadsFile world read name 1048576 (Err FileTooLong)
      → RunsJob (Tokens context fresh tokens) state world
      (Stops (Faulty (fault_at TooLong line)) next.names read)
  file_unread : (context : Context) (fresh : Bool) (tokens : List Token) (state : ExpansionState)
      (world : WorldState) (line : FileLine) (name : List ℕ) (rest : List Token)
      (next : ExpansionState) (read : WorldState)
      → step context fresh tokens state ≡ Includes line name rest next
      → ReadsFile world read name 1048576 (Err Failed)
      → RunsJob (Tokens context fresh tokens) state world (Stops (Unread name) next.names read)
  -- a use's values and body are expanded before the tokens behind it
  uses : (context : Context) (fresh : Bool) (tokens : List Token) (state : ExpansionState)
      (world : WorldState) (block : BlockDefinition) (given : List Argument) (rest : List Token)
      (next : ExpansionState) (middle : ExpansionState) (later : WorldState)
      (outcome : ExpansionOutcome)
      → step context fresh tokens state ≡ Uses block given rest next
      → RunsJob (Binding context block.serial block.body (bindings block.parameters given)
      map.empty) next world (Goes middle later)
      → RunsJob (Tokens context false rest) middle later outcome
      → RunsJob (Tokens context fresh tokens) state world outcome
  use_stops : (context : Context) (fresh : Bool) (tokens : List Token) (state : ExpansionState)
      (world : WorldState) (block : BlockDefinition) (given : List Argument) (rest : List Token)
      (next : ExpansionState) (refusal : Refusal) (names : List (List ℕ)) (later : WorldState)
      → step context fresh tokens state ≡ Uses block given rest next
      → RunsJob (Binding context block.serial block.body (bindings block.parameters given)
      map.empty) next world (Stops refusal names later)
      → RunsJob (Tokens context fresh tokens) state world (Stops refusal names later)
  -- a value is expanded by itself, and bound
  binds : (context : Context) (serial : ℕ) (body : List Token) (argument : Argument)
      (left : List Argument) (bound : Values) (state : ExpansionState) (world : WorldState)
      (whole : ExpansionState) (later : WorldState) (outcome : ExpansionOutcome)
      → RunsJob (Tokens context false argument.tokens) (with_out [] state) world (Goes whole later)
      → RunsJob (Binding context serial body left (map.insert bound argument.name whole.out))
      (with_out state.out whole) later outcome
      → RunsJob (Binding context serial body (argument ∷ left) bound) state world outcome
  value_stops : (context : Context) (serial : ℕ) (body : List Token) (argument : Argument)
      (left : List Argument) (bound : Values) (state : ExpansionState) (world : WorldState)
      (refusal : Refusal) (names : List (List ℕ)) (later : WorldState)
      → RunsJob (Tokens context false argument.tokens) (with_out [] state) world
      (Stops refusal names later)
      → RunsJob (Binding context serial body (argument ∷ left) bound) state world
      (Stops refusal names later)
  -- then the body, in which the values are in reach
  body_runs : (context : Context) (serial : ℕ) (body : List Token) (bound : Values)
      (state : ExpansionState) (world : WorldState) (outcome : ExpansionOutcome)
      → RunsJob (Tokens (body_context context bound serial) true (trimmed body)) state world outcome
      → RunsJob (Binding context serial body [] bound) state world outcome

abbrev pub first_state : List ℕ → ExpansionState
first_state name = record {
  variables = map.empty;
  blocks = map.empty;
  serial = 0;
  total = 0;
  names = name ∷ [];
  out = [];
}

abbrev pub first_context : Context
first_context = record { depth = 0; scope = map.empty; limit = None }

abbrev pub first_line : List Token → FileLine
first_line tokens = option_map_or (λ token. record { file = token.file; line = token.line })
    (slice_get tokens 0) (record { file = 0; line = 1 })

-- the main file's tokens behind its version, or what is wrong with them
abbrev pub behind_version : List Token → Result (List Token) ConfigFault
behind_version tokens =
    if begins_version tokens && is_version (text_at tokens 2) then Ok (drop 3 tokens)
    else Err (fault_at Version (first_line tokens))

abbrev pub versioned : Result (List Token) ConfigFault → Result (List Token) ConfigFault
versioned (Ok tokens) = behind_version tokens
versioned (Err fault) = Err fault

-- the tokens of the main file's text, which has a limit
abbrev pub main_tokens : List ℕ → Result (List Token) ConfigFault
main_tokens text =
    if nat_le (length text) 1048576 then versioned (lexed 0 text (tokens_of 0 text))
    else Err (record { kind = TooLong; file = 0; line = 1 })

abbrev pub RunsTokens : Result (List Token) ConfigFault → ExpansionState → WorldState
    → ExpansionOutcome → Type 0
RunsTokens (Ok tokens) state world outcome = RunsJob (Tokens first_context true tokens) state world
    outcome
RunsTokens (Err fault) state world outcome = outcome ≡ Stops (Faulty fault) state.names world

-- the main file's text, of this name, comes to this outcome
abbrev pub RunsMain : List ℕ → List ℕ → WorldState → ExpansionOutcome → Type 0
RunsMain name text world outcome = RunsTokens (main_tokens text) (first_state name) world outcome

-- what an expansion answers is what the text comes to, but for lack of memory. A file isn't read only where its reading failed
abbrev pub IsExpanded : WorldState → WorldState → List ℕ → List ℕ → Result Expanded ExpandRefusal
    → Type 0
IsExpanded old new name text (Ok expanded) =
    (last : ExpansionState) × (RunsMain name text old (Goes last new)
    × ((expanded.tokens ≡ last.out) × (expanded.names ≡ last.names)))
IsExpanded old new name text (Err (Bad fault names)) = RunsMain name text old
    (Stops (Faulty fault) names new)
IsExpanded old new name text (Err (ReadFault file)) =
    (names : List (List ℕ)) × (RunsMain name text old (Stops (Unread file) names new)
    × (Rose old.read_faults new.read_faults × (new.unread ≡ Some file)))
IsExpanded old new name text (Err NoMemory) = Unit {0}
