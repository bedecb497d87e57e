use Rattle.sg_msg.specs.Parts.{pair_of}
use Rattle.sg_msg.proofs.PartChanges.{map-remove}
use Rattle.sg_msg.proofs.base.Base.remove.Goals as goal

pub returns : goal.returns
returns c =
    rw (c.remove.ensures.items, ← c.self.view_is) (map-remove (pair_of c.self.inside.texts) c.self.inside.pairs.items c.args.place)
