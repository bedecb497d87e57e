use Rattle.std.proofs.Common.{take}
use Rattle.sg_machine.specs.Runs.{opened}
use Rattle.sg_standing.proofs.ImageLaws.{safe-held, held-between, legal-between}
use Rattle.sg_standing.proofs.laws.images_between_are_safe.Goals as goal

pub returns : goal.returns
returns c = λ setup opening events core h k event images lists there are in_lists.
    let start = opened setup opening in
    safe-held setup opening (take k events) event core images lists c.lists_are_one.ensures (legal-between core start events k event h there) (held-between core start events h k event images there are) in_lists
