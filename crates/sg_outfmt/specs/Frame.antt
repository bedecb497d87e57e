-- The bytes that a destination sends for a message.
use Rattle.std.specs.Prelude.{ℕ, List, ◌++◌, length, codes, decimal}
use Rattle.sg_msg.specs.Message.{Content}
use Rattle.sg_template.specs.declared.env.Env.{Env}
use Rattle.sg_template.specs.Render.{render_of}
use Rattle.sg_template.specs.Path.{path_of}
use Rattle.sg_r5424.specs.Write.{line_text}
use Rattle.sg_outfmt.specs.Packed.{packed}
use Rattle.sg_outfmt.specs.declared.shape.Shape.{Shape}
use Rattle.sg_outfmt.specs.declared.shape.Shape.TheVariants.{Text, Counted5424, ByPath}

-- a line behind its length, in octets (RFC 6587, 3.4.1)
abbrev pub counted : List ℕ → List ℕ
counted line = decimal (length line) ++ codes " " ++ line

abbrev pub frame_of : Shape → Content → Env → List ℕ
frame_of (Text template) content env = render_of template content env
frame_of Counted5424 content env = counted (line_text content env)
frame_of (ByPath path text) content env = packed (path_of path content env)
    (render_of text content env)
