-- Destinations whose files are named by their messages: a path with a macro in it (syslog-ng's administration guide, "file() destination:
-- storing messages in plain-text files").
use Rattle.std.specs.Prelude.{◌==◌, ◌&&◌, ℕ, Bool, true, false, if◌then◌else◌, List, [], ◌∷◌, Option, Some, None, Result, Ok, Err}
use Rattle.sg_macro.specs.declared.part.TemplatePart.{TemplatePart}
use Rattle.sg_macro.specs.declared.fault.TemplateFault.{TemplateFault}
use Rattle.sg_macro.specs.Reading.{parts_of}
use Rattle.sg_parse_expr.specs.declared.tree.Call.{Call}
use Rattle.sg_outfmt.specs.declared.shape.DriverKind.{DriverKind}
use Rattle.sg_outfmt.specs.declared.shape.DriverKind.TheVariants.{File, Network, Syslog}
use Rattle.sg_outfmt.specs.declared.shape.Shape.{Shape}
use Rattle.sg_outfmt.specs.Shape.{behind_path}
use Rattle.sg_driver.specs.Driver.{driver_kind, name_of}

abbrev pub has_dollar : List ℕ → Bool
has_dollar [] = false
has_dollar (b ∷ text) = if b == 36 then true else has_dollar text

abbrev pub is_file : DriverKind → Bool
is_file File = true
is_file Network = false
is_file Syslog = false

-- a file's path with a `$` in it is a template
abbrev pub is_template : DriverKind → List ℕ → Bool
is_template kind name = is_file kind && has_dollar name

abbrev pub is_by_path : Call → Bool
is_by_path call = is_template (driver_kind call) (name_of call)

-- a path with a fault is refused, and stands for none
abbrev pub readable : Result (List TemplatePart) TemplateFault → Option (List TemplatePart)
readable (Ok parts) = Some parts
readable (Err fault) = None

abbrev pub parts_for : DriverKind → List ℕ → Option (List TemplatePart)
parts_for kind name = if is_template kind name then readable (parts_of name) else None

abbrev pub path_parts : Call → Option (List TemplatePart)
path_parts call = parts_for (driver_kind call) (name_of call)

-- the shape of the frames, each behind its path where a template gives that
abbrev pub with_path : Option (List TemplatePart) → Shape → Shape
with_path None shape = shape
with_path (Some path) shape = behind_path path shape
