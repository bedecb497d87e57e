use Rattle.std.proofs.Common.{◌∙◌, arith}
use Rattle.sg_template.specs.Path.{path_of}
use Rattle.sg_template.proofs.Paths.{path_most}
use Rattle.sg_outfmt.proofs.Packing.{behind_fits}
use Rattle.sg_outfmt.proofs.packed.append_path.Goals as goal

pub write_length-requires-clause-fits : goal.write_length-requires-clause-fits
write_length-requires-clause-fits c =
    behind_fits c.args.out.now.items c.append.new.out.items c.deref_mut.result.now (path_of c.args.path.now c.args.message.now c.args.env.now) c.len-before.result
    c.in_ok-append.ensures.ok (c.deref_mut.ensures.value ∙ c.in_ok-render_path.ensures.ok) (omega (arith, c.len-before.ensures)) (path_most c.args.path.now c.args.message.now c.args.env.now)
