use Rattle.sg_template.specs.Path.{path_of}
use Rattle.sg_template.specs.Render.{render_of}
use Rattle.sg_template.proofs.Paths.{path_some}
use Rattle.sg_outfmt.proofs.Packing.{unpacked-packed}
use Rattle.sg_outfmt.proofs.laws.frames_keep_paths.Goals as goal

pub returns : goal.returns
returns c = λ path text content env. unpacked-packed (path_of path content env) (render_of text content env) (path_some path content env)
