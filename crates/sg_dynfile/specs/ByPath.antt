-- Which texts of messages stand under which path.
use Rattle.std.specs.Prelude.{ℕ, List, [], ◌∷◌, bytes_eq, if◌then◌else◌}
use Rattle.sg_msg.specs.Message.{Content}
use Rattle.sg_macro.specs.declared.part.TemplatePart.{TemplatePart}
use Rattle.sg_template.specs.declared.env.Env.{Env}
use Rattle.sg_template.specs.Path.{path_of}
use Rattle.sg_template.specs.Render.{render_of}
use Rattle.sg_outfmt.specs.Frame.{frame_of}
use Rattle.sg_outfmt.specs.declared.shape.Shape.TheVariants.{ByPath}

-- the frame of a message, by the templates of the path and the text
abbrev pub frame_by_path : List TemplatePart → List TemplatePart → Env → Content → List ℕ
frame_by_path path text env message = frame_of (ByPath path text) message env

-- of these messages, the texts of those whose path is this one
abbrev pub texts_with_path : List TemplatePart → List TemplatePart → Env → List ℕ → List Content
    → List (List ℕ)
texts_with_path path text env name [] = []
texts_with_path path text env name (m ∷ ms) = if bytes_eq (path_of path m env) name
    then render_of text m env ∷ texts_with_path path text env name ms
    else texts_with_path path text env name ms
