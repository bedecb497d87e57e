-- Templates: what is read, or the first fault.
use Rattle.std.specs.Prelude.{if◌then◌else◌, List, [], ◌∷◌, codes, Option, Some, Ok, Err}
use Rattle.sg_lex.specs.declared.fault.ConfigKind.TheVariants.{Unexpected, Unsupported}
use Rattle.sg_parse_base.specs.declared.spot.Spot.{Spot}
use Rattle.sg_parse_base.specs.Input.{Parser, ◌>>=◌, behind, any, sees_word, symbol, fault_at, spot_line}
use Rattle.sg_parse_expr.specs.declared.class.Class.TheVariants.{Text, Truth}
use Rattle.sg_parse_expr.specs.Classes.{is_yes}
use Rattle.sg_parse_expr.specs.Args.{value}
use Rattle.sg_parse_obj.specs.declared.templates.TemplateItem.{TemplateItem}
use Rattle.sg_parse_obj.specs.declared.templates.TemplateItem.TheVariants as item

-- "(" STR ")"
unfoldable pub text_item : Parser TemplateItem
text_item spots = do
  opened ← symbol 40 spots
  x ← value Text opened.1
  closed ← symbol 41 x.1
  Ok (item.Text x.0, closed.1)

-- the word and "(" BOOL ")", of which yes isn't supported
unfoldable pub escape_item : Parser TemplateItem
escape_item spots = do
  word ← any spots
  opened ← symbol 40 word.1
  x ← value Truth opened.1
  if is_yes x.0.token.text then Err (record { kind = Unsupported; at = Some (spot_line word.0) })
      else (do
        closed ← symbol 41 x.1
        Ok (item.Escape, closed.1))

unfoldable pub template_item : Parser TemplateItem
template_item spots =
    if sees_word (codes "template") spots then text_item (behind spots)
    else (if sees_word (codes "template-escape") spots then escape_item spots
    else Err (fault_at Unexpected spots))

-- of several texts the last counts, behind one that was found
abbrev pub last_text : Option Spot → List TemplateItem → Option Spot
last_text found [] = found
last_text found (item.Text text ∷ items) = last_text (Some text) items
last_text found (item.Escape ∷ items) = last_text found items
