use Rattle.std.proofs.Common.{refl, arith}
use Rattle.sg_spool.proofs.Walking.{read_at_gate}
use Rattle.sg_spool.proofs.read.read_size.Goals as goal

pub returns-clause-size : goal.returns-clause-size
returns-clause-size g c = λ b told payload entry.
    let is = read_at_gate c.args.gate c.in_ok-read_at.field-0 b _ c.read_at.new.into (c.in_ok-read_at.ensures.bytes b told) refl c.read_at.auto.into payload entry in
    omega (arith, is, c.size_of.ensures, c.max.ensures, c.min.ensures, entry.fits.some, entry.fits.limit)
