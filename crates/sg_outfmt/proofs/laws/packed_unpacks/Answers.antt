use Rattle.sg_outfmt.proofs.Packing.{unpacked-packed}
use Rattle.sg_outfmt.proofs.laws.packed_unpacks.Goals as goal

pub returns : goal.returns
returns c = unpacked-packed
