-- Statements: what is read, or the first fault.
use Rattle.std.specs.Prelude.{ℕ, if◌then◌else◌, List, codes, Some, None, Ok, Err, drop}
use Rattle.sg_lex.specs.declared.token.Token.{Token}
use Rattle.sg_lex.specs.declared.fault.ConfigKind.TheVariants.{Unexpected}
use Rattle.sg_parse_base.specs.declared.spot.Spot.{Spot}
use Rattle.sg_parse_base.specs.Input.{Parser, ◌>>=◌, behind, sees, sees_word, symbol, name, fault_at, spots_from}
use Rattle.sg_parse_base.specs.Lists.{body, ending}
use Rattle.sg_parse_expr.specs.declared.tree.Call.{Call}
use Rattle.sg_parse_expr.specs.declared.tree.RawExpr.{RawExpr}
use Rattle.sg_parse_expr.specs.declared.class.Class.TheVariants.{Text}
use Rattle.sg_parse_expr.specs.Args.{value}
use Rattle.sg_parse_expr.specs.Expr.{expr}
use Rattle.sg_parse_expr.specs.Rewrites.{rewrite_call}
use Rattle.sg_parse_obj.specs.declared.object.Object.{Object}
use Rattle.sg_parse_obj.specs.declared.object.Object.TheVariants as object
use Rattle.sg_parse_obj.specs.declared.driver.Side.TheVariants as side
use Rattle.sg_parse_obj.specs.Drivers.{drivers, global_option}
use Rattle.sg_parse_obj.specs.Parsers.{parser_calls}
use Rattle.sg_parse_obj.specs.Templates.{template_item, last_text}

-- how deep statements, branches and groups may be nested
abbrev pub depth_limit : ℕ
depth_limit = 64

-- "{" expr [ ";" ] "}"
unfoldable pub filter_body : ℕ → Parser RawExpr
filter_body depth spots = do
  opened ← symbol 123 spots
  x ← expr depth opened.1
  next ← ending x.1
  closed ← symbol 125 next.1
  Ok (x.0, closed.1)

-- "{" { rewrite ";" } "}"
unfoldable pub rewrites : ℕ → Parser (List Call)
rewrites depth = body (rewrite_call depth)

-- ---- behind the statement's word

unfoldable pub options : Parser Object
options spots = do
  calls ← body global_option spots
  Ok (object.Options calls.0, calls.1)

unfoldable pub source : Parser Object
source spots = do
  called ← name spots
  found ← drivers side.Source called.1
  Ok (object.Source called.0 found.0, found.1)

unfoldable pub destination : Parser Object
destination spots = do
  called ← name spots
  found ← drivers side.Destination called.1
  Ok (object.Destination called.0 found.0, found.1)

unfoldable pub filter : ℕ → Parser Object
filter depth spots = do
  called ← name spots
  x ← filter_body depth called.1
  Ok (object.Filter called.0 x.0, x.1)

unfoldable pub rewrite : ℕ → Parser Object
rewrite depth spots = do
  called ← name spots
  calls ← rewrites depth called.1
  Ok (object.Rewrite called.0 calls.0, calls.1)

unfoldable pub parser : Parser Object
parser spots = do
  called ← name spots
  calls ← parser_calls called.1
  Ok (object.Parser called.0 calls.0, calls.1)

unfoldable pub template_block : Spot → Parser Object
template_block called spots = do
  items ← body template_item spots
  Ok (object.Template called (last_text None items.0), items.1)

unfoldable pub template_text : Spot → Parser Object
template_text called spots = do
  text ← value Text spots
  Ok (object.Template called (Some text.0), text.1)

unfoldable pub template : Parser Object
template spots = do
  called ← name spots
  if sees 123 called.1 then template_block called.0 called.1 else template_text called.0 called.1

-- a statement, in which groups may be nested so deep
unfoldable pub object_in : ℕ → Parser Object
object_in depth spots =
    if sees_word (codes "source") spots then source (behind spots)
    else (if sees_word (codes "destination") spots then destination (behind spots)
    else (if sees_word (codes "filter") spots then filter depth (behind spots)
    else (if sees_word (codes "rewrite") spots then rewrite depth (behind spots)
    else (if sees_word (codes "template") spots then template (behind spots)
    else (if sees_word (codes "options") spots then options (behind spots)
    else (if sees_word (codes "parser") spots then parser (behind spots)
    else Err (fault_at Unexpected spots)))))))

unfoldable pub object_at : Parser Object
object_at spots = object_in depth_limit spots

-- the tokens from a place on
unfoldable pub spots_at : List Token → ℕ → List Spot
spots_at tokens at = spots_from at (drop at tokens)
