-- Parsers: their words and options, and what is read, or the first fault (syslog-ng's administration guide, "Options of CSV parsers" and
-- "Options of key=value parsers").
use Rattle.std.specs.Prelude.{ℕ, if◌then◌else◌, List, [], ◌∷◌, codes, Ok}
use Rattle.sg_parse_base.specs.Input.{Parser, ◌>>=◌, behind, sees_word, symbol}
use Rattle.sg_parse_base.specs.Lists.{many, body}
use Rattle.sg_parse_expr.specs.declared.class.WordChoice.TheVariants.{CsvFlag}
use Rattle.sg_parse_expr.specs.declared.class.Class.TheVariants.{Name, Template, Word}
use Rattle.sg_parse_expr.specs.declared.form.Flat.TheVariants.{One, Many}
use Rattle.sg_parse_expr.specs.declared.tree.Call.{Call}
use Rattle.sg_parse_expr.specs.declared.tree.Arg.{Arg}
use Rattle.sg_parse_expr.specs.Forms.{row_of}
use Rattle.sg_parse_expr.specs.Args.{item, flat_args, called, nested}
use Rattle.sg_parse_obj.specs.declared.parsers.ParserTable.{ParserTable}
use Rattle.sg_parse_obj.specs.declared.parsers.ParserTable.TheVariants.{Csv, Kv}
use Rattle.sg_parse_obj.specs.declared.parsers.ParserOption.{ParserOption}
use Rattle.sg_parse_obj.specs.declared.parsers.ParserOption.TheVariants.{Flat, Delimiters}

unfoldable pub parsers : List (List ℕ × ParserTable)
parsers = (codes "csv-parser", Csv) ∷ (codes "kv-parser", Kv) ∷ []

-- options of `csv-parser`
unfoldable pub csv_options : List (List ℕ × ParserOption)
csv_options =
    (codes "columns", Flat (Many Name))
    ∷ (codes "delimiters", Delimiters)
    ∷ (codes "prefix", Flat (One Name))
    ∷ (codes "template", Flat (One Template))
    ∷ (codes "flags", Flat (Many (Word CsvFlag)))
    ∷ []

-- options of `kv-parser`
unfoldable pub kv_options : List (List ℕ × ParserOption)
kv_options =
    (codes "pair-separator", Flat (One Name))
    ∷ (codes "value-separator", Flat (One Name))
    ∷ (codes "prefix", Flat (One Name))
    ∷ (codes "template", Flat (One Template))
    ∷ []

abbrev pub parser_options : ParserTable → List (List ℕ × ParserOption)
parser_options Csv = csv_options
parser_options Kv = kv_options

-- a name, or one in `chars()`
unfoldable pub characters : Parser (List Arg)
characters spots =
    if sees_word (codes "chars") spots then flat_args (One Name) (behind spots)
    else (do x ← item Name spots; Ok (x.0 ∷ [], x.1))

unfoldable pub delimiters : Parser (List Arg)
delimiters spots = do
  opened ← symbol 40 spots
  found ← characters opened.1
  closed ← symbol 41 found.1
  Ok (found.0, closed.1)

unfoldable pub option_args : ParserOption → Parser (List Arg)
option_args (Flat form) = flat_args form
option_args Delimiters = delimiters

unfoldable pub option : ParserTable → Parser Arg
option table = nested (called (row_of (parser_options table)) option_args)

unfoldable pub parser_args : ParserTable → Parser (List Arg)
parser_args table = many (option table)

unfoldable pub parser_call : Parser Call
parser_call = called (row_of parsers) parser_args

-- "{" { parser ";" } "}"
unfoldable pub parser_calls : Parser (List Call)
parser_calls = body parser_call
