use Rattle.std.proofs.Common.{ap, ◌∙◌}
use Rattle.std.specs.FinMap as map
use Rattle.sg_block.proofs.Names.{get-by_bytes}
use Rattle.sg_block.proofs.table.NameMap.get.Goals as goal

pub returns : goal.returns
returns g c =
    c.get.ensures.value
    ∙ get-by_bytes c.self.inside.entries.entries c.args.name.now
    ∙ ap (λ m. map.get m c.args.name.now) c.self.view_is
