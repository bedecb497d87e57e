use Rattle.std.proofs.Common.{arith, pos, ap, ◌∙◌, length-append}
use Rattle.std.proofs.lemmas.List.{length-map}
use Rattle.sg_device.specs.Inlet.{Stamped, stamped}
use Rattle.sg_frame.specs.Framing.{fed}
use Rattle.bench_parts.proofs.lines.feed.Goals as goal

pub returns : goal.returns
returns c = ap fed c.in_ok-feed.ensures.fed ∙ omega (arith, c.requires.before, length-append c.args.framer.now.held (stamped c.args.piece.now (pos 1770312741000000)), length-map {B = Stamped} c.args.piece.now (λ b. (b, pos 1770312741000000)))
