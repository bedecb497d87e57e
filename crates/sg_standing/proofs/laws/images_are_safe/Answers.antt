use Rattle.sg_machine.specs.Runs.{opened}
use Rattle.sg_machine.specs.Safe.{nothing}
use Rattle.sg_standing.proofs.ImageLaws.{safe-held, held-now, legal-now}
use Rattle.sg_standing.proofs.laws.images_are_safe.Goals as goal

pub returns : goal.returns
returns c = λ setup opening events core images lists h are in_lists.
    let start = opened setup opening in
    safe-held setup opening events nothing core images lists c.lists_are_one.ensures (legal-now core start events h) (held-now core start events images h are) in_lists
