-- The text of a template over a message.
use Rattle.std.specs.Prelude.{ℕ, List, [], ◌∷◌, Option, None, Some}
use Rattle.std.specs.List.{flat_map}
use Rattle.sg_msg.specs.Message.{Content}
use Rattle.sg_macro.specs.declared.part.TemplatePart.{TemplatePart}
use Rattle.sg_macro.specs.declared.part.TemplatePart.TheVariants.{Literal, Macro, Pair}
use Rattle.sg_template.specs.declared.env.Env.{Env}
use Rattle.sg_template.specs.Texts.{macro_text, or_default, text_of}

abbrev pub part_text : Content → Env → TemplatePart → List ℕ
part_text content env (Literal text) = text
part_text content env (Macro kind default) = or_default (macro_text kind content env) default
part_text content env (Pair name default) = or_default (text_of name content.pairs) default

-- the texts of its parts, one after the other
unfoldable pub render_of : List TemplatePart → Content → Env → List ℕ
render_of parts content env = flat_map (part_text content env) parts

-- the text of a template without macros and names, which is the same over every message
abbrev pub constant_of : List TemplatePart → Option (List ℕ)
constant_of [] = Some []
constant_of (Literal text ∷ []) = Some text
constant_of _ = None
