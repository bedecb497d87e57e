-- The texts of frames under a path.
use Rattle.std.proofs.Common.{◌≡◌, ℕ, List, [], ◌∷◌, refl, ap, ◌∙◌}
use Rattle.std.specs.Prelude.{map, bytes_eq, if◌then◌else◌}
use Rattle.sg_msg.specs.Message.{Content}
use Rattle.sg_macro.specs.declared.part.TemplatePart.{TemplatePart}
use Rattle.sg_template.specs.declared.env.Env.{Env}
use Rattle.sg_template.specs.Path.{path_of}
use Rattle.sg_template.specs.Render.{render_of}
use Rattle.sg_outfmt.specs.Packed.{unpacked}
use Rattle.sg_outfmt.specs.Frame.{frame_of}
use Rattle.sg_outfmt.specs.declared.shape.Shape.TheVariants.{ByPath}
use Rattle.sg_dynfile.specs.ByPath.{frame_by_path, texts_with_path}
use Rattle.sg_dynfile.specs.Texts.{parted, texts_under}

-- frames keep their paths
abbrev pub KeepPaths : Type 0
KeepPaths = (path text : List TemplatePart) (content : Content) (env : Env) → unpacked (frame_of (ByPath path text) content env) ≡ (path_of path content env, render_of text content env)

pub under : KeepPaths → (path text : List TemplatePart) (env : Env) (name : List ℕ) (messages : List Content) → texts_under name (map parted (map (frame_by_path path text env) messages)) ≡ texts_with_path path text env name messages
under keep path text env name [] = refl
under keep path text env name (m ∷ ms) =
    let rest = texts_under name (map parted (map (frame_by_path path text env) ms)) in
    ap (λ (parts : List ℕ × List ℕ). if bytes_eq parts.0 name then parts.1 ∷ rest else rest) (keep path text m env)
    ∙ ap (λ (more : List (List ℕ)). if bytes_eq (path_of path m env) name then render_of text m env ∷ more else more) (under keep path text env name ms)
