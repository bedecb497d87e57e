-- The path of a file, from a template over a message: a macro's text in it has no `/`, no NUL and no dot at its front
-- (a file's name has no `/` and no NUL, and `.` and `..` are directories: POSIX.1-2017, 3.170 and 4.13).
use Rattle.std.specs.Prelude.{ℕ, ◌==◌, ◌||◌, not, Bool, if◌then◌else◌, List, [], ◌∷◌, take, map, codes}
use Rattle.std.specs.List.{flat_map}
use Rattle.sg_msg.specs.Message.{Content}
use Rattle.sg_macro.specs.declared.part.TemplatePart.{TemplatePart}
use Rattle.sg_macro.specs.declared.part.TemplatePart.TheVariants.{Literal, Macro, Pair}
use Rattle.sg_template.specs.declared.env.Env.{Env}
use Rattle.sg_template.specs.Render.{part_text}

-- `/` and NUL are `_`
abbrev pub name_byte : ℕ → ℕ
name_byte b = if (b == 47) || (b == 0) then 95 else b

-- at the front a dot is `_` too
abbrev pub first_byte : ℕ → ℕ
first_byte b = if b == 46 then 95 else name_byte b

-- a byte of a file's name
abbrev pub is_inner : ℕ → Bool
is_inner b = not ((b == 47) || (b == 0))

-- the text of a macro or a value, in a path
abbrev pub name_text : List ℕ → List ℕ
name_text [] = []
name_text (b ∷ bytes) = first_byte b ∷ map name_byte bytes

abbrev pub path_part : Content → Env → TemplatePart → List ℕ
path_part content env (Literal text) = text
path_part content env (Macro kind default) = name_text (part_text content env (Macro kind default))
path_part content env (Pair name default) = name_text (part_text content env (Pair name default))

-- a path is some bytes, at most 4,095
abbrev pub fitted : List ℕ → List ℕ
fitted [] = codes "_"
fitted (b ∷ bytes) = take 4095 (b ∷ bytes)

-- the path that the parts come to
unfoldable pub path_of : List TemplatePart → Content → Env → List ℕ
path_of parts content env = fitted (flat_map (path_part content env) parts)
