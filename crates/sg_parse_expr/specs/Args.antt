-- Values and arguments: what is read, or the first fault.
use Rattle.std.specs.Prelude.{ℕ, if◌then◌else◌, List, [], ◌∷◌, Option, Some, None, Ok, Err}
use Rattle.sg_lex.specs.declared.fault.ConfigKind.{ConfigKind}
use Rattle.sg_lex.specs.declared.fault.ConfigKind.TheVariants.{Unexpected}
use Rattle.sg_parse_base.specs.declared.spot.Spot.{Spot}
use Rattle.sg_parse_base.specs.Input.{Parser, ◌>>=◌, behind, any, known, sees_dots, symbol, word, fault_at}
use Rattle.sg_parse_base.specs.Lists.{many, single, items, gap}
use Rattle.sg_parse_base.specs.Skipping.{skipped}
use Rattle.sg_parse_expr.specs.declared.tree.Call.{Call, roll-Call}
use Rattle.sg_parse_expr.specs.declared.tree.Arg.{Arg}
use Rattle.sg_parse_expr.specs.declared.tree.Arg.TheVariants.{Item, Range, Nested}
use Rattle.sg_parse_expr.specs.declared.class.Class.{Class}
use Rattle.sg_parse_expr.specs.declared.form.Flat.{Flat}
use Rattle.sg_parse_expr.specs.declared.form.Flat.TheVariants as flat
use Rattle.sg_parse_expr.specs.Classes.{verdict}

-- ---- values

-- at the end of the list a token is missing, whatever was wanted there
unfoldable pub next_verdict : Class → List Spot → Option ConfigKind
next_verdict class [] = Some Unexpected
next_verdict class (spot ∷ spots) = verdict class spot.token

abbrev pub judged : Option ConfigKind → Parser Spot
judged None spots = any spots
judged (Some kind) spots = Err (fault_at kind spots)

-- the next token, where it may stand in the place of a value of that class
unfoldable pub value : Class → Parser Spot
value class spots = judged (next_verdict class spots) spots

unfoldable pub item : Class → Parser Arg
item class spots = do
  x ← value class spots
  Ok (Item x.0, x.1)

-- a value, or two with `..` between them
unfoldable pub range : Class → Parser Arg
range class spots = do
  low ← value class spots
  if sees_dots low.1 then (do high ← value class (behind low.1); Ok (Range low.0 high.0, high.1))
      else Ok (Item low.0, low.1)

-- ---- arguments

unfoldable pub no_args : Parser (List Arg)
no_args spots = do
  done ← skipped spots
  Ok ([], done.1)

unfoldable pub flat_args : Flat → Parser (List Arg)
flat_args flat.Skipped = no_args
flat_args (flat.One class) = single (item class)
flat_args (flat.Many class) = many (item class)
flat_args (flat.Ranges class) = many (range class)

unfoldable pub call_of : Spot → List Arg → Call
call_of spot args = roll-Call (record { word = spot; args = args })

-- a word that has a form, with arguments of that form
unfoldable pub called : {F : Type 0} → (List ℕ → Option F) → (F → Parser (List Arg)) → Parser Call
called form_of args_of spots = do
  spot ← word spots
  form ← known (form_of spot.0.token.text) spot.0 spot.1
  args ← args_of form.0 spot.1
  Ok (call_of spot.0 args.0, args.1)

unfoldable pub nested : Parser Call → Parser Arg
nested parse spots = do
  call ← parse spots
  Ok (Nested call.0, call.1)

-- further options behind the arguments found
unfoldable pub options_behind : Parser Arg → List Arg → Parser (List Arg)
options_behind option found spots = do
  next ← gap spots
  items option found next.1

-- a value, and options
unfoldable pub named : Class → Parser Arg → Parser (List Arg)
named class option spots = do
  opened ← symbol 40 spots
  first ← value class opened.1
  options_behind option (Item first.0 ∷ []) first.1

-- two values, and options
unfoldable pub paired : Class → Class → Parser Arg → Parser (List Arg)
paired class next_class option spots = do
  opened ← symbol 40 spots
  first ← value class opened.1
  next ← gap first.1
  second ← value next_class next.1
  options_behind option (Item first.0 ∷ Item second.0 ∷ []) second.1
