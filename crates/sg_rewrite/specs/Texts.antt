-- The texts of templates that are kept.
use Rattle.std.specs.Prelude.{◌≡◌, ◌≤◌, ℕ, List, length, Option, None, Some}
use Rattle.sg_msg.specs.Message.{Content}
use Rattle.sg_macro.specs.declared.part.TemplatePart.{TemplatePart}
use Rattle.sg_template.specs.declared.env.Env.{Env}
use Rattle.sg_template.specs.Render.{render_of}

-- the text is the template's over every message, and short enough for a value; or it isn't kept
abbrev pub IsConstantText : List TemplatePart → Option (List ℕ) → Type 0
IsConstantText parts None = Unit {0}
IsConstantText parts (Some text) = (length text ≤ 1048576)
    × ((content : Content) (env : Env) → render_of parts content env ≡ text)
