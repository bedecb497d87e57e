use Rattle.std.specs.Prelude.{take}
use Rattle.sg_machine.specs.Runs.{opened}
use Rattle.sg_machine.specs.Safe.{nothing}
use Rattle.sg_standing.specs.Images.{positions_in}
use Rattle.sg_laws.proofs.AgainLemmas.{safe-at}
use Rattle.sg_laws.proofs.reopening.openings_are_safe.Goals as goal

pub returns-clause-now : goal.returns-clause-now
returns-clause-now c = λ setup opening events core images disks h are numbers tell again opens.
    let start = opened setup opening in
    let begins = (c.images_open_as_they_stand.ensures.now core start events images disks h are numbers tell).begins again opens in
    safe-at start events nothing opens.opening.places (positions_in core.sources images) opens.opening.entries begins.positions
    (c.images_are_safe.ensures setup opening events core images opens.opening.entries h are begins.lists)

pub returns-clause-within : goal.returns-clause-within
returns-clause-within c = λ setup opening events old new act does images disks h are numbers tell again opens.
    let start = opened setup opening in
    let begins = (c.images_open_as_they_stand.ensures.within old new start events act does images disks h are numbers tell).begins again opens in
    safe-at start events (record { act = act; failed = does.failed }) opens.opening.places (positions_in old.sources images) opens.opening.entries begins.positions
    (c.images_within_are_safe.ensures setup opening events old new act does images opens.opening.entries h are begins.lists)

pub returns-clause-between : goal.returns-clause-between
returns-clause-between c = λ setup opening events core stands k event images disks there are numbers tell again opens.
    let start = opened setup opening in
    let begins = (c.images_open_as_they_stand.ensures.between core start events stands k event images disks there are numbers tell).begins again opens in
    safe-at start (take k events) event opens.opening.places (positions_in core.sources images) opens.opening.entries begins.positions
    (c.images_between_are_safe.ensures setup opening events core stands k event images opens.opening.entries there are begins.lists)
