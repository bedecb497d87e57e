-- The template of a destination: the name of a template, or the text itself (syslog-ng's administration guide, "Templates and macros").
use Rattle.std.specs.Prelude.{◌≡◌, ℕ, if◌then◌else◌, List, [], ◌∷◌, codes, Option, Some, None, Result, Ok, Err}
use Rattle.sg_lex.specs.declared.fault.ConfigKind.{ConfigKind}
use Rattle.sg_lex.specs.declared.fault.ConfigKind.TheVariants.{UnknownName}
use Rattle.sg_macro.specs.declared.part.TemplatePart.{TemplatePart}
use Rattle.sg_macro.specs.declared.fault.TemplateFault.{TemplateFault}
use Rattle.sg_macro.specs.Reading.{parts_of}
use Rattle.sg_parse_base.specs.declared.spot.Spot.{Spot}
use Rattle.sg_parse_base.specs.Input.{spot_line}
use Rattle.sg_parse_base.specs.Tokens.{is_string}
use Rattle.sg_parse_expr.specs.declared.tree.Call.{Call}
use Rattle.sg_parse_expr.specs.Classes.{template_verdict}
use Rattle.sg_fault.specs.declared.placed.Placed.{Placed}
use Rattle.sg_options.specs.Settings.{is_called, value_of}
use Rattle.sg_options.specs.Checks.{faults_of}
use Rattle.sg_outfmt.specs.declared.shape.DriverKind.{DriverKind}
use Rattle.sg_outfmt.specs.declared.shape.Shape.{Shape}
use Rattle.sg_outfmt.specs.declared.shape.Shape.TheVariants.{Text}
use Rattle.sg_outfmt.specs.Shape.{IsDefault}

-- the texts of the templates that statements define, by name
abbrev pub Texts : Type 0
Texts = List ℕ → Option (List ℕ)

abbrev pub template_words : List (List ℕ)
template_words = codes "template" ∷ []

abbrev pub at_spot : Option ConfigKind → Spot → List Placed
at_spot None spot = []
at_spot (Some kind) spot = (record { kind = kind; line = spot_line spot }) ∷ []

-- a string that names no template is the text itself; another word that names none is unknown
abbrev pub own_faults : Spot → List Placed
own_faults spot = if is_string spot.token
    then at_spot (template_verdict (parts_of spot.token.text)) spot
    else at_spot (Some UnknownName) spot

abbrev pub unless_named : Option (List ℕ) → Spot → List Placed
unless_named None spot = own_faults spot
unless_named (Some text) spot = []

abbrev pub reference_faults : Texts → Option Spot → List Placed
reference_faults texts None = []
reference_faults texts (Some spot) = unless_named (texts spot.token.text) spot

abbrev pub template_option_faults : Texts → Call → List Placed
template_option_faults texts call =
    if is_called template_words call then reference_faults texts (value_of call) else []

-- what is wrong with the values of `template` among options; the text of a named one is its statement's
abbrev pub template_faults : Texts → List Call → List Placed
template_faults texts calls = faults_of (template_option_faults texts) calls

abbrev pub text_named : Option (List ℕ) → Spot → List ℕ
text_named None spot = spot.token.text
text_named (Some text) spot = text

-- the shape of the frames; without a template, or with one that has a fault and so is refused, it is the driver's own
abbrev pub IsTextShape : DriverKind → Result (List TemplatePart) TemplateFault → Shape → Type 0
IsTextShape kind (Ok parts) shape = shape ≡ Text parts
IsTextShape kind (Err fault) shape = IsDefault kind shape

abbrev pub HasShape : Texts → DriverKind → Option Spot → Shape → Type 0
HasShape texts kind None shape = IsDefault kind shape
HasShape texts kind (Some spot) shape = IsTextShape kind
    (parts_of (text_named (texts spot.token.text) spot)) shape
