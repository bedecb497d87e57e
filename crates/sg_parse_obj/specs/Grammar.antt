-- The grammar of statements: what stands at the front of tokens, and what stands behind it (syslog-ng's administration guide, "The syntax of
-- the configuration file").
use Rattle.std.specs.Prelude.{◌≡◌, ◌⊎◌, ℕ, false, List, [], ◌∷◌, codes, Some, None}
use Rattle.sg_parse_base.specs.declared.spot.Spot.{Spot}
use Rattle.sg_parse_base.specs.Tokens.{is_name}
use Rattle.sg_parse_base.specs.Input.{sees_word}
use Rattle.sg_parse_base.specs.Grammar.{Stands, TakesToken, Symbol, Keyword, Many, Braced, Ending}
use Rattle.sg_parse_expr.specs.declared.tree.Arg.{Arg}
use Rattle.sg_parse_expr.specs.declared.tree.Call.{Call}
use Rattle.sg_parse_expr.specs.declared.tree.RawExpr.{RawExpr}
use Rattle.sg_parse_expr.specs.declared.class.Class.TheVariants.{Name, Text, Truth}
use Rattle.sg_parse_expr.specs.declared.form.Flat.TheVariants.{One}
use Rattle.sg_parse_expr.specs.Classes.{passes, is_yes}
use Rattle.sg_parse_expr.specs.Forms.{row_of}
use Rattle.sg_parse_expr.specs.Grammar.{OneItem, FlatArgs, Called, Option_of, Named, Expression, RewriteCall}
use Rattle.sg_parse_obj.specs.declared.object.Object.{Object}
use Rattle.sg_parse_obj.specs.declared.object.Object.TheVariants.{Options, Source, Destination, Filter, Rewrite, Parser, Template}
use Rattle.sg_parse_obj.specs.declared.table.OptionForm.{OptionForm}
use Rattle.sg_parse_obj.specs.declared.table.OptionForm.TheVariants as option
use Rattle.sg_parse_obj.specs.declared.table.DriverForm.{DriverForm}
use Rattle.sg_parse_obj.specs.declared.table.DriverForm.TheVariants as driver
use Rattle.sg_parse_obj.specs.declared.table.OptionTable.{OptionTable}
use Rattle.sg_parse_obj.specs.declared.driver.Side.{Side}
use Rattle.sg_parse_obj.specs.declared.driver.Side.TheVariants as side
use Rattle.sg_parse_obj.specs.declared.templates.TemplateItem.{TemplateItem}
use Rattle.sg_parse_obj.specs.declared.templates.TemplateItem.TheVariants as item
use Rattle.sg_parse_obj.specs.Tables.{disk, global_form, option_form}
use Rattle.sg_parse_obj.specs.Drivers.{driver_form}
use Rattle.sg_parse_obj.specs.declared.parsers.ParserTable.{ParserTable}
use Rattle.sg_parse_obj.specs.declared.parsers.ParserOption.{ParserOption}
use Rattle.sg_parse_obj.specs.declared.parsers.ParserOption.TheVariants as parser_option
use Rattle.sg_parse_obj.specs.Parsers.{parsers, parser_options}
use Rattle.sg_parse_obj.specs.Templates.{last_text}

-- ---- drivers and options

abbrev pub DiskOption : Stands Arg
DiskOption = Option_of (row_of disk) FlatArgs

abbrev pub DriverOptionArgs : OptionForm → Stands (List Arg)
DriverOptionArgs (option.Flat form) = FlatArgs form
DriverOptionArgs option.Disk = Many DiskOption

abbrev pub DriverOption : OptionTable → Stands Arg
DriverOption table = Option_of (option_form table) DriverOptionArgs

abbrev pub DriverArgs : DriverForm → Stands (List Arg)
DriverArgs (driver.Options table) = Many (DriverOption table)
DriverArgs (driver.Named class table) = Named class (DriverOption table)

abbrev pub DriverCall : Side → Stands Call
DriverCall side = Called (driver_form side) DriverArgs

-- "{" { driver ";" } "}"
abbrev pub DriverCalls : Side → Stands (List Call)
DriverCalls side = Braced (DriverCall side)

abbrev pub GlobalOption : Stands Call
GlobalOption = Called global_form FlatArgs

-- ---- templates

-- a text that is no template fault
abbrev pub TakesText : List Spot → Spot → List Spot → Type 0
TakesText s text r = TakesToken (passes Text) s text r

-- "template" "(" STR ")"
pub record TextItem (s : List Spot) (x : TemplateItem) (r : List Spot) : Type 0 where
  pub text : Spot
  pub m : List Spot
  pub inner : List Spot
  pub after : List Spot
  pub word : Keyword (codes "template") s m
  pub opens : Symbol 40 m inner
  pub is_text : TakesText inner text after
  pub closes : Symbol 41 after r
  pub is : x ≡ item.Text text

-- "template-escape" "(" BOOL ")", of which only no is supported
pub record EscapeItem (s : List Spot) (x : TemplateItem) (r : List Spot) : Type 0 where
  pub truth : Spot
  pub m : List Spot
  pub inner : List Spot
  pub after : List Spot
  pub word : Keyword (codes "template-escape") s m
  pub opens : Symbol 40 m inner
  pub is_truth : TakesToken (passes Truth) inner truth after
  pub is_no : is_yes truth.token.text ≡ false
  pub closes : Symbol 41 after r
  pub is : x ≡ item.Escape

abbrev pub IsTemplateItem : List Spot → TemplateItem → List Spot → Type 0
IsTemplateItem s x r = TextItem s x r ⊎ EscapeItem s x r

-- ---- parsers

-- "chars" "(" NAME ")" | NAME
abbrev pub Characters : Stands (List Arg)
Characters s args r =
    ((m : List Spot) × Keyword (codes "chars") s m × FlatArgs (One Name) m args r)
    ⊎ ((x : Arg) × (sees_word (codes "chars") s ≡ false) × OneItem Name s x r × (args ≡ x ∷ []))

-- "(" characters ")"
abbrev pub Delimiters : Stands (List Arg)
Delimiters s args r = (m : List Spot) × (n : List Spot) × Symbol 40 s m × Characters m args n
    × Symbol 41 n r

abbrev pub ParserOptionArgs : ParserOption → Stands (List Arg)
ParserOptionArgs (parser_option.Flat form) = FlatArgs form
ParserOptionArgs parser_option.Delimiters = Delimiters

abbrev pub ParserArgs : ParserTable → Stands (List Arg)
ParserArgs table = Many (Option_of (row_of (parser_options table)) ParserOptionArgs)

abbrev pub ParserCall : Stands Call
ParserCall = Called (row_of parsers) ParserArgs

-- "{" { parser ";" } "}"
abbrev pub Parsers : Stands (List Call)
Parsers = Braced ParserCall

-- ---- statements

-- "{" expr [ ";" ] "}"
pub record FilterBody (depth : ℕ) (s : List Spot) (x : RawExpr) (r : List Spot) : Type 0 where
  pub inner : List Spot
  pub after : List Spot
  pub closing : List Spot
  pub opens : Symbol 123 s inner
  pub is_expr : Expression depth inner x after
  pub ends : Ending after closing
  pub closes : Symbol 125 closing r

-- "{" { rewrite ";" } "}"
abbrev pub Rewrites : ℕ → Stands (List Call)
Rewrites depth = Braced (RewriteCall depth)

pub data IsObject (depth : ℕ) : List Spot → Object → List Spot → Type 0 where
  -- "options" "{" { option ";" } "}"
  options : (s m r : List Spot) (calls : List Call) (x : Object) → Keyword (codes "options") s m
      → Braced GlobalOption m calls r → x ≡ Options calls → IsObject depth s x r
  -- "source" NAME "{" { driver ";" } "}"
  source : (s m n r : List Spot) (name : Spot) (calls : List Call) (x : Object)
      → Keyword (codes "source") s m → TakesToken is_name m name n
      → DriverCalls side.Source n calls r → x ≡ Source name calls → IsObject depth s x r
  -- "destination" NAME "{" { driver ";" } "}"
  destination : (s m n r : List Spot) (name : Spot) (calls : List Call) (x : Object)
      → Keyword (codes "destination") s m → TakesToken is_name m name n
      → DriverCalls side.Destination n calls r → x ≡ Destination name calls → IsObject depth s x r
  -- "filter" NAME "{" expr [ ";" ] "}"
  filter : (s m n r : List Spot) (name : Spot) (expr : RawExpr) (x : Object)
      → Keyword (codes "filter") s m → TakesToken is_name m name n → FilterBody depth n expr r
      → x ≡ Filter name expr → IsObject depth s x r
  -- "rewrite" NAME "{" { rewrite ";" } "}"
  rewrite : (s m n r : List Spot) (name : Spot) (calls : List Call) (x : Object)
      → Keyword (codes "rewrite") s m → TakesToken is_name m name n → Rewrites depth n calls r
      → x ≡ Rewrite name calls → IsObject depth s x r
  -- "parser" NAME "{" { parser ";" } "}"
  parser : (s m n r : List Spot) (name : Spot) (calls : List Call) (x : Object)
      → Keyword (codes "parser") s m → TakesToken is_name m name n → Parsers n calls r
      → x ≡ Parser name calls → IsObject depth s x r
  -- "template" NAME "{" { item ";" } "}"
  block : (s m n r : List Spot) (name : Spot) (items : List TemplateItem) (x : Object)
      → Keyword (codes "template") s m → TakesToken is_name m name n
      → Braced IsTemplateItem n items r → x ≡ Template name (last_text None items)
      → IsObject depth s x r
  -- "template" NAME STR
  text : (s m n r : List Spot) (name text : Spot) (x : Object) → Keyword (codes "template") s m
      → TakesToken is_name m name n → TakesText n text r → x ≡ Template name (Some text)
      → IsObject depth s x r
