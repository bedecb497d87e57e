use Rattle.sg_machine.specs.Runs.{opened}
use Rattle.sg_standing.proofs.ImageLaws.{safe-held, held-within, legal-within}
use Rattle.sg_standing.proofs.laws.images_within_are_safe.Goals as goal

pub returns : goal.returns
returns c = λ setup opening events old new act does images lists h are in_lists.
    let start = opened setup opening in
    safe-held setup opening events (record { act = act; failed = does.failed }) old images lists c.lists_are_one.ensures (legal-within old new start events act does h) (held-within old new start events act does images h are) in_lists
