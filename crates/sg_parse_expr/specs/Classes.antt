-- What may stand in the place of a value, and what another token there is (syslog-ng's administration guide, the options of drivers, filters and
-- rewrites; RFC 5424, tables 1 and 2, for facilities and severities).
use Rattle.std.specs.Prelude.{ℕ, Bool, true, false, ◌&&◌, ◌||◌, nat_le, is_none, if◌then◌else◌, List, [], ◌∷◌, codes, bytes_eq, Option, Some, None, Result, Ok, Err}
use Rattle.sg_lex.specs.declared.token.Token.{Token}
use Rattle.sg_lex.specs.declared.fault.ConfigKind.{ConfigKind}
use Rattle.sg_lex.specs.declared.fault.ConfigKind.TheVariants as kind
use Rattle.sg_macro.specs.declared.part.TemplatePart.{TemplatePart}
use Rattle.sg_macro.specs.declared.fault.TemplateFault.{TemplateFault}
use Rattle.sg_macro.specs.declared.fault.TemplateFault.TheVariants as template
use Rattle.sg_macro.specs.Reading.{parts_of}
use Rattle.sg_parse_base.specs.Tokens.{is_word, is_string, is_name, is_symbol, same_keyword, is_number, is_truth}
use Rattle.sg_parse_expr.specs.declared.class.WordChoice.{WordChoice}
use Rattle.sg_parse_expr.specs.declared.class.WordChoice.TheVariants as choice
use Rattle.sg_parse_expr.specs.declared.class.Class.{Class}
use Rattle.sg_parse_expr.specs.declared.class.Class.TheVariants as class

abbrev pub is_one_of : List ℕ → List (List ℕ) → Bool
is_one_of text [] = false
is_one_of text (word ∷ words) = if same_keyword text word then true else is_one_of text words

-- the words of a choice
unfoldable pub words_of : WordChoice → List (List ℕ)
words_of choice.PatternKind = codes "pcre" ∷ codes "string" ∷ codes "glob" ∷ []
words_of choice.PatternFlag = codes "ignore-case" ∷ codes "prefix" ∷ codes "substring" ∷ []
words_of choice.SubstFlag = codes "ignore-case" ∷ codes "prefix" ∷ codes "substring"
    ∷ codes "global" ∷ []
words_of choice.CsvFlag = codes "greedy" ∷ codes "drop-invalid" ∷ []
words_of choice.SourceFlag =
    codes "no-parse" ∷ codes "syslog-protocol" ∷ codes "empty-lines" ∷ codes "kernel"
    ∷ codes "assume-utf8" ∷ codes "dont-store-legacy-msghdr" ∷ codes "expect-hostname"
    ∷ codes "no-multi-line" ∷ []
words_of choice.Transport = codes "tcp" ∷ []
words_of choice.StampForm = codes "bsd" ∷ codes "rfc3164" ∷ codes "iso" ∷ codes "rfc3339" ∷ []

-- names are compared byte for byte
abbrev pub is_same_as : List ℕ → List (List ℕ) → Bool
is_same_as text [] = false
is_same_as text (name ∷ names) = if bytes_eq text name then true else is_same_as text names

-- the names of facilities in the order of their numbers
unfoldable pub facilities : List (List ℕ)
facilities =
    codes "kern" ∷ codes "user" ∷ codes "mail" ∷ codes "daemon" ∷ codes "auth" ∷ codes "syslog"
    ∷ codes "lpr" ∷ codes "news"
    ∷ codes "uucp" ∷ codes "cron" ∷ codes "authpriv" ∷ codes "ftp" ∷ codes "ntp" ∷ codes "security"
    ∷ codes "console" ∷ codes "solaris-cron"
    ∷ codes "local0" ∷ codes "local1" ∷ codes "local2" ∷ codes "local3" ∷ codes "local4"
    ∷ codes "local5" ∷ codes "local6" ∷ codes "local7" ∷ []

-- the names of severities in the order of their numbers, and the older ones of 0, 3 and 4
unfoldable pub levels : List (List ℕ)
levels =
    codes "emerg" ∷ codes "alert" ∷ codes "crit" ∷ codes "err" ∷ codes "warning" ∷ codes "notice"
    ∷ codes "info" ∷ codes "debug"
    ∷ codes "panic" ∷ codes "error" ∷ codes "warn" ∷ []

abbrev pub are_digits : List ℕ → Bool
are_digits [] = true
are_digits (b ∷ text) = if nat_le 48 b && nat_le b 57 then are_digits text else false

abbrev pub is_yes : List ℕ → Bool
is_yes text = bytes_eq text (codes "yes") || bytes_eq text (codes "on") || bytes_eq text (codes "1")

-- the first fault of a template
abbrev pub template_verdict : Result (List TemplatePart) TemplateFault → Option ConfigKind
template_verdict (Ok parts) = None
template_verdict (Err template.OpenBrace) = Some kind.OpenBrace
template_verdict (Err template.Function) = Some kind.Function
template_verdict (Err template.NoMemory) = None

abbrev pub supported : Bool → Option ConfigKind
supported passes = if passes then None else Some kind.Unsupported

-- NUM, BOOL and yes: another token there is a bad number, but a comma
abbrev pub no_number : Token → Option ConfigKind
no_number token = if is_symbol 44 token then Some kind.Unexpected else Some kind.BadNumber

abbrev pub number_verdict : Token → Option ConfigKind
number_verdict token = if is_word token && is_number token.text then None else no_number token

abbrev pub truth_verdict : Token → Option ConfigKind
truth_verdict token = if is_word token && is_truth token.text then None else no_number token

abbrev pub yes_verdict : Token → Option ConfigKind
yes_verdict token = if is_word token && is_truth token.text then supported (is_yes token.text)
    else no_number token

-- what is wrong with a word or a string
abbrev pub name_verdict : Class → Token → Option ConfigKind
name_verdict class.Name token = None
name_verdict class.Template token = template_verdict (parts_of token.text)
name_verdict class.Text token = None
name_verdict class.Number token = None
name_verdict class.Truth token = None
name_verdict class.Yes token = None
name_verdict class.Facility token = supported
    (is_same_as token.text facilities || (is_word token && are_digits token.text))
name_verdict class.Level token = supported
    (is_same_as token.text levels || (is_word token && are_digits token.text))
name_verdict (class.Word choice) token = supported (is_one_of token.text (words_of choice))

abbrev pub named_verdict : Class → Token → Option ConfigKind
named_verdict class token = if is_name token then name_verdict class token else Some kind.Unexpected

-- STR
abbrev pub text_verdict : Token → Option ConfigKind
text_verdict token = if is_string token then template_verdict (parts_of token.text)
    else Some kind.Unexpected

-- what is wrong with a token in the place of a value, none where it may stand there
unfoldable pub verdict : Class → Token → Option ConfigKind
verdict class.Name token = named_verdict class.Name token
verdict class.Template token = named_verdict class.Template token
verdict class.Text token = text_verdict token
verdict class.Number token = number_verdict token
verdict class.Truth token = truth_verdict token
verdict class.Yes token = yes_verdict token
verdict class.Facility token = named_verdict class.Facility token
verdict class.Level token = named_verdict class.Level token
verdict (class.Word choice) token = named_verdict (class.Word choice) token

-- a token that may stand in the place of a value
unfoldable pub passes : Class → Token → Bool
passes class token = is_none (verdict class token)
