-- What holds a token: the parentheses and braces that are open before it, and which words the language has there.
use Rattle.std.specs.Prelude.{◌-◌, ◌+◌, ℕ, if◌then◌else◌, Bool, ◌||◌, List, [], ◌∷◌, ◌++◌, length, take, codes, Option, Some, None, slice_get}
use Rattle.sg_lex.specs.declared.token.Token.{Token}
use Rattle.sg_parse_base.specs.Tokens.{is_symbol}
use Rattle.sg_parse_expr.specs.Forms.{row_of}
use Rattle.sg_hint.specs.declared.context.Around.{Around}
use Rattle.sg_hint.specs.declared.context.BodyKind.{BodyKind}
use Rattle.sg_hint.specs.declared.context.BodyKind.TheVariants as body
use Rattle.sg_hint.specs.declared.context.HintContext.{HintContext}
use Rattle.sg_hint.specs.declared.context.HintContext.TheVariants as context

-- ---- the words in front of what opens

-- What a brace holds by the word in front of it, or in front of the name there; behind `)` it is that of `if`.
unfoldable pub bodies : List (List ℕ × BodyKind)
bodies =
    (codes "log", body.Path)
    ∷ (codes "channel", body.Path)
    ∷ (codes "else", body.Path)
    ∷ (codes ")", body.Path)
    ∷ (codes "junction", body.Channels)
    ∷ (codes "source", body.Source)
    ∷ (codes "destination", body.Destination)
    ∷ (codes "filter", body.Filter)
    ∷ (codes "rewrite", body.Rewrite)
    ∷ (codes "parser", body.Parser)
    ∷ (codes "options", body.Options)
    ∷ (codes "template", body.Template)
    ∷ []

-- parentheses that hold a filter
unfoldable pub conditions : List (List ℕ × BodyKind)
conditions = (codes "if", body.Filter) ∷ (codes "elif", body.Filter)
    ∷ (codes "condition", body.Filter) ∷ []

unfoldable pub in_source : List (List ℕ × HintContext)
in_source =
    (codes "file", context.FileSource)
    ∷ (codes "network", context.NetworkSource)
    ∷ (codes "syslog", context.NetworkSource)
    ∷ (codes "flags", context.SourceFlags)
    ∷ (codes "transport", context.Transports)
    ∷ (codes "default-facility", context.Levels)
    ∷ (codes "default-level", context.Levels)
    ∷ (codes "default-priority", context.Levels)
    ∷ []

unfoldable pub in_destination : List (List ℕ × HintContext)
in_destination =
    (codes "file", context.FileDestination)
    ∷ (codes "network", context.NetworkDestination)
    ∷ (codes "syslog", context.SyslogDestination)
    ∷ (codes "disk-buffer", context.DiskBuffer)
    ∷ (codes "ts-format", context.Stamps)
    ∷ (codes "transport", context.Transports)
    ∷ []

unfoldable pub in_filter : List (List ℕ × HintContext)
in_filter =
    (codes "(", context.Filters)
    ∷ (codes "{", context.Filters)
    ∷ (codes "not", context.Filters)
    ∷ (codes "and", context.Filters)
    ∷ (codes "or", context.Filters)
    ∷ (codes "program", context.Pattern)
    ∷ (codes "host", context.Pattern)
    ∷ (codes "message", context.Pattern)
    ∷ (codes "match", context.Match)
    ∷ (codes "type", context.Kinds)
    ∷ (codes "flags", context.PatternFlags)
    ∷ (codes "facility", context.Levels)
    ∷ (codes "level", context.Levels)
    ∷ (codes "severity", context.Levels)
    ∷ (codes "priority", context.Levels)
    ∷ []

unfoldable pub in_rewrite : List (List ℕ × HintContext)
in_rewrite =
    (codes "set", context.Set)
    ∷ (codes "unset", context.Set)
    ∷ (codes "subst", context.Subst)
    ∷ (codes "groupset", context.Group)
    ∷ (codes "groupunset", context.Group)
    ∷ (codes "set-tag", context.Tag)
    ∷ (codes "clear-tag", context.Tag)
    ∷ (codes "type", context.Kinds)
    ∷ (codes "flags", context.SubstFlags)
    ∷ []

unfoldable pub in_parser : List (List ℕ × HintContext)
in_parser =
    (codes "csv-parser", context.Csv)
    ∷ (codes "kv-parser", context.Kv)
    ∷ (codes "delimiters", context.Delimiters)
    ∷ (codes "flags", context.CsvFlags)
    ∷ []

unfoldable pub in_path : List (List ℕ × HintContext)
in_path = (codes "flags", context.PathFlags) ∷ []

unfoldable pub in_options : List (List ℕ × HintContext)
in_options = (codes "ts-format", context.Stamps) ∷ []

-- ---- what opens

abbrev pub is_opening : Token → Bool
is_opening token = is_symbol 40 token || is_symbol 123 token

abbrev pub is_closing : Token → Bool
is_closing token = is_symbol 41 token || is_symbol 125 token

abbrev pub token_text : Option Token → List ℕ
token_text None = []
token_text (Some token) = token.text

abbrev pub text_at : List Token → ℕ → List ℕ
text_at tokens at = token_text (slice_get tokens at)

abbrev pub first_body : Option BodyKind → Option BodyKind → Option BodyKind
first_body None near = near
first_body (Some far) near = Some far

-- the body that opens with the token of this place, if one does
abbrev pub body_at : List Token → ℕ → Token → Option BodyKind
body_at tokens at token =
    if is_symbol 123 token then
    first_body (row_of bodies (text_at tokens (at - 2))) (row_of bodies (text_at tokens (at - 1)))
    else row_of conditions (text_at tokens (at - 1))

-- what the language has at the beginning of a body's items
abbrev pub body_context : BodyKind → HintContext
body_context body.Path = context.Elements
body_context body.Channels = context.Channels
body_context body.Source = context.Drivers
body_context body.Destination = context.Drivers
body_context body.Filter = context.Filters
body_context body.Rewrite = context.Rewrites
body_context body.Parser = context.Parsers
body_context body.Options = context.Globals
body_context body.Template = context.Templates

-- what it has in the parentheses of a call in a body
abbrev pub call_row : BodyKind → List ℕ → Option HintContext
call_row body.Path word = row_of in_path word
call_row body.Channels word = None
call_row body.Source word = row_of in_source word
call_row body.Destination word = row_of in_destination word
call_row body.Filter word = row_of in_filter word
call_row body.Rewrite word = row_of in_rewrite word
call_row body.Parser word = row_of in_parser word
call_row body.Options word = row_of in_options word
call_row body.Template word = None

abbrev pub or_anywhere : Option HintContext → HintContext
or_anywhere None = context.Anywhere
or_anywhere (Some found) = found

abbrev pub call_context : Option BodyKind → List ℕ → HintContext
call_context None word = context.Anywhere
call_context (Some within) word = or_anywhere (call_row within word)

-- what is around the tokens behind one that opens: the body it begins, or else a call's parentheses in the body so far
abbrev pub around_of : Option BodyKind → Around → List ℕ → Around
around_of None outer word = record { body = outer.body; context = call_context outer.body word }
around_of (Some begun) outer word = record { body = Some begun; context = body_context begun }

-- ---- what is open

abbrev pub outermost : Around
outermost = record { body = None; context = context.Statements }

abbrev pub or_outermost : Option Around → Around
or_outermost None = outermost
or_outermost (Some around) = around

abbrev pub innermost : List Around → Around
innermost stack = or_outermost (slice_get stack (length stack - 1))

-- what is open behind the token of this place, the innermost last
abbrev pub stack_behind : List Token → List Around → ℕ → Token → List Around
stack_behind tokens stack at token =
    if is_opening token then
    stack ++ around_of (body_at tokens at token) (innermost stack) (text_at tokens (at - 1)) ∷ []
    else (if is_closing token then take (length stack - 1) stack else stack)

-- and behind these tokens of the list, the first of which has this place
abbrev pub stack_from : List Token → List Around → ℕ → List Token → List Around
stack_from tokens stack at [] = stack
stack_from tokens stack at (token ∷ rest) =
    stack_from tokens (stack_behind tokens stack at token) (at + 1) rest

-- what the language has at the token of this place
abbrev pub context_of : List Token → ℕ → HintContext
context_of tokens at = (innermost (stack_from tokens [] 0 (take at tokens))).context
