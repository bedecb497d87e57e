use Rattle.std.proofs.Common.{length, refl}
use Rattle.std.proofs.lemmas.Option.{slice_get_read}
use Rattle.sg_trace.proofs.inlets.reader_of.Goals as goal

pub returns : goal.returns
returns c =
    let inlets = c.args.inlets.now in
    let plan = c.index-inlets-inlet.result in
    (plan, (slice_get_read inlets (length inlets) c.args.inlet plan refl c.requires c.index-inlets-inlet.is, refl))
