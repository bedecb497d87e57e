use Rattle.std.proofs.Common.{ap, ◌∙◌}
use Rattle.std.specs.FinMap as map
use Rattle.sg_block.proofs.Names.{insert-by_bytes}
use Rattle.sg_block.proofs.table.NameMap.insert.Goals as goal

pub returns : goal.returns
returns g c =
    insert-by_bytes c.self.inside.entries.entries c.insert.new.self.entries c.args.name c.args.value c.in_ok-insert.ensures.entries
    ∙ ap (λ m. map.insert m c.args.name.items c.args.value) c.self.view_is
