-- Names and templates.
use Rattle.std.specs.Prelude.{ℕ, List, [], ◌∷◌, Option, Some, None, Result, Ok, Err, codes}
use Rattle.sg_macro.specs.declared.part.TemplatePart.{TemplatePart}
use Rattle.sg_macro.specs.declared.fault.TemplateFault.{TemplateFault}
use Rattle.sg_macro.specs.Reading.{parts_of}
use Rattle.sg_macro.specs.Macros.{pair_name}
use Rattle.sg_parse_base.specs.declared.spot.Spot.{Spot}
use Rattle.sg_parse_expr.specs.declared.tree.Arg.{Arg}
use Rattle.sg_options.specs.Settings.{calls_of, last_value}
use Rattle.sg_options.specs.Values.{text_of}

-- empty where it is missing
abbrev pub name_of : Option Spot → List ℕ
name_of value = text_of value

-- the name of the pair that `value` names
abbrev pub value_name : List Arg → List ℕ
value_name args = pair_name (text_of (last_value (codes "value" ∷ []) (calls_of args)))

abbrev pub or_empty : Result (List TemplatePart) TemplateFault → List TemplatePart
or_empty (Ok parts) = parts
or_empty (Err fault) = []

-- a template that has a fault, and so is refused, is empty
abbrev pub template_of : List ℕ → List TemplatePart
template_of text = or_empty (parts_of text)

abbrev pub text_if : Option Spot → List (List ℕ)
text_if None = []
text_if (Some spot) = spot.token.text ∷ []
