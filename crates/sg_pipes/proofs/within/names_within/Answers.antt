use Rattle.std.proofs.Common.{◌≡◌, length, sym, ap₂, ◌∙◌, arith}
use Rattle.sg_pipes.specs.Named.{pipes_name_there}
use Rattle.sg_pipes.proofs.Naming.{names-stay}
use Rattle.sg_pipes.proofs.within.names_within.Goals as goal

pub returns-clause-within : goal.returns-clause-within
returns-clause-within c = λ e.
    let table = c.args.table.now in
    let many : c.len.result ≡ length table.dests.items = omega arith in
    names-stay (length table.dests.items) table.pipes.items table.tops.items
    (ap₂ pipes_name_there (sym many) (sym c.deref.ensures.value) ∙ sym c.pipes_name_there.ensures ∙ e)
