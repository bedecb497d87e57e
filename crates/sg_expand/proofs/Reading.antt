-- What only reads.
use Rattle.std.proofs.Common.{refl, ap, ◌∙◌, arith}
use Rattle.sg_outside.specs.World.{WorldState, OnlyReads}

-- nothing is read
pub reads-same : (world : WorldState) → OnlyReads world world
reads-same world = (refl, omega arith)

-- one after the other
pub reads-then : (first mid last : WorldState) → OnlyReads first mid → OnlyReads mid last → OnlyReads first last
reads-then first mid last a b = (b.0 ∙ ap (λ (w : WorldState). record w { read_faults = last.read_faults; unread = last.unread }) a.0, omega (arith, a.1, b.1))
