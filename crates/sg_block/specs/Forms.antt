-- The forms of the definitions and uses of blocks, as they are written in a configuration.
use Rattle.std.specs.Prelude.{◌≡◌, ◌<◌, ℕ, zero, suc, ◌==◌, Bool, true, false, ◌&&◌, nat_lt, if◌then◌else◌, List, [], ◌∷◌, ◌++◌, length, drop, Option, Some, None}
use Rattle.std.specs.List.{prefix_len}
use Rattle.std.specs.Option.{option_map}
use Rattle.sg_list.specs.Lists.{passes_at}
use Rattle.sg_lex.specs.declared.token.Token.{Token}
use Rattle.sg_block.specs.declared.argument.Argument.{Argument}
use Rattle.sg_block.specs.declared.form.Definition.{Definition}
use Rattle.sg_block.specs.Tokens.{is_word, is_name, is_symbol, is_block_word, is_block_type, text_at}
use Rattle.sg_block.specs.Brackets.{Parted, bracketed}
use Rattle.sg_block.specs.Arguments.{last_named}

-- the tokens behind any commas; none where commas end the tokens
abbrev pub separated : List Token → Option (List Token)
separated tokens =
    if nat_lt 0 (prefix_len (is_symbol 44) tokens)
    && (prefix_len (is_symbol 44) tokens == length tokens) then None
    else Some (drop (prefix_len (is_symbol 44) tokens) tokens)

-- an argument, and what stands behind it and its commas
abbrev pub Next : Type 0
Next = Argument × List Token

abbrev pub argument_of : List ℕ → Option Parted → Option Next
argument_of name None = None
argument_of name (Some parted) =
    option_map (λ rest. (record { name = name; tokens = parted.0 }, rest)) (separated parted.1)

-- `name(tokens)` at the front
abbrev pub next_argument : List Token → Option Next
next_argument tokens = if passes_at tokens 0 is_word
    then argument_of (text_at tokens 0) (bracketed 40 41 tokens 1) else None

abbrev pub and_others : Option Next → (List Token → Option (List Argument)) → Option (List Argument)
and_others None later = None
and_others (Some next) later = option_map (λ others. next.0 ∷ others) (later next.1)

-- any number of arguments with any commas between them: at most so many
abbrev pub arguments_within : ℕ → List Token → Option (List Argument)
arguments_within most [] = Some []
arguments_within zero (token ∷ tokens) = None
arguments_within (suc most) (token ∷ tokens) = and_others (next_argument (token ∷ tokens))
    (arguments_within most)

abbrev pub arguments : List Token → Option (List Argument)
arguments tokens = arguments_within (length tokens) tokens

-- the argument at the front is taken off, and stands behind the others, where one stands there
abbrev pub TakesArgument : List Argument → List Token → List Argument → List Token → Bool → Type 0
TakesArgument found rest found' rest' true =
    (next : Next) × ((Some next ≡ next_argument rest)
    × ((found' ≡ found ++ next.0 ∷ []) × ((rest' ≡ next.1) × (length rest' < length rest))))
TakesArgument found rest found' rest' false = None ≡ next_argument rest

-- `block WORD NAME`
abbrev pub begins_definition : List Token → Bool
begins_definition tokens = passes_at tokens 0 is_block_word
    && (passes_at tokens 1 is_block_type && passes_at tokens 2 is_name)

abbrev pub with_body : List ℕ → List Token → Option (List Argument) → Option Parted
    → Option Definition
with_body name written given None = None
with_body name written None (Some body) = None
with_body name written (Some given) (Some body) =
    if passes_at body.1 0 (is_symbol 59)
    then Some (record {
      name = name;
      parameters = last_named given;
      written = written;
      body = body.0;
      behind = drop 1 body.1;
    })
    else None

abbrev pub defined : List ℕ → Option Parted → Option Definition
defined name None = None
defined name (Some given) = with_body name given.0 (arguments given.0) (bracketed 123 125 given.1 0)

-- `block WORD NAME ( args ) { body } ;` at the front
abbrev pub definition : List Token → Option Definition
definition tokens = if begins_definition tokens
    then defined (text_at tokens 2) (bracketed 40 41 tokens 3) else None

-- the arguments of a use, and the tokens behind it
abbrev pub Use : Type 0
Use = List Argument × List Token

abbrev pub given_in : Option Parted → Option Use
given_in None = None
given_in (Some parted) = option_map (λ given. (given, parted.1)) (arguments parted.0)

-- `( args )` behind the word at the front
abbrev pub use_form : List Token → Option Use
use_form tokens = given_in (bracketed 40 41 tokens 1)
