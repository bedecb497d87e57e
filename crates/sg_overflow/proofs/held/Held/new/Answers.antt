use Rattle.sg_overflow.proofs.Makes.{new_sound}
use Rattle.sg_overflow.proofs.held.Held.new.Goals as goal

pub invariant_of-result : goal.invariant_of-result
invariant_of-result g c =
    new_sound g.D.Disk.state c.args.spool c.args.limits c.new.result c.count-stored.result c.requires.open c.requires.unstaged c.requires.limit c.requires.small c.requires.list c.new.ensures c.count-stored.ensures.count
