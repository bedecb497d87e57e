use Rattle.std.proofs.Common.{◌∷◌, Some, sym, ap, ◌∙◌}
use Rattle.atomic_table.specs.Table.{rest}
use Rattle.sg_booth.proofs.steps.lift.Goals as goal

pub exchange-requires : goal.exchange-requires
exchange-requires g c =
    let held = c.requires.slot.0 in
    let is = c.requires.slot.1 in
    (c.requires.table.0, (Some held, is ∙ ap (λ cs. (0, Some held) ∷ rest cs) (sym is)))
