-- The last of the texts of a block.
use Rattle.std.proofs.Common.{◌≡◌, List, [], ◌∷◌, ◌++◌, Option, Some, refl}
use Rattle.sg_parse_base.specs.declared.spot.Spot.{Spot}
use Rattle.sg_parse_obj.specs.declared.templates.TemplateItem.{TemplateItem}
use Rattle.sg_parse_obj.specs.declared.templates.TemplateItem.TheVariants as item
use Rattle.sg_parse_obj.specs.Templates.{last_text}

pub last_is_text : (found : Option Spot) (items : List TemplateItem) (text : Spot) → last_text found (items ++ item.Text text ∷ []) ≡ Some text
last_is_text found [] text = refl
last_is_text found (item.Text other ∷ items) text = last_is_text (Some other) items text
last_is_text found (item.Escape ∷ items) text = last_is_text found items text

pub last_is_none : (found : Option Spot) (items : List TemplateItem) → last_text found (items ++ item.Escape ∷ []) ≡ last_text found items
last_is_none found [] = refl
last_is_none found (item.Text other ∷ items) = last_is_none (Some other) items
last_is_none found (item.Escape ∷ items) = last_is_none found items
