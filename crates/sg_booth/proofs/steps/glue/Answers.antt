use Rattle.std.proofs.Common.{arith, ap, ◌∙◌}
use Rattle.sg_booth.proofs.Keeps.{joins, learns}
use Rattle.sg_booth.proofs.steps.glue.Goals as goal

pub join_seat-requires : goal.join_seat-requires
join_seat-requires g c =
    let words = c.requires.table.1.0 in
    let about = c.args.lock.now.shared.key in (
      c.requires.table.0,
      c.requires.table.2,
      c.requires.idle.1.0,
      omega arith,
      joins g.V.Office.step g.V.Office.may g.V.Office.room about.made.value about.turns c.args.place.now.id c.args.place.now.me.0 c.args.other.id c.args.other.me.0 c.requires.idle.1.1 c.requires.idle.1.3,
    )

pub load-requires : goal.load-requires
load-requires g c =
    let words = c.requires.table.1.0 in
    let about = c.args.lock.now.shared.key in
    let now = c.join_seat.ensures.2 in (
      c.join_seat.ensures.0 ∙ c.requires.table.0,
      omega arith,
      learns g.V.Office.step g.V.Office.may g.V.Office.room about.made.value about.turns _ _ c.join_seat.new.seat.me.0 c.join_seat.new.seat.me.1 (ap (λ m. m.0.sure) now ∙ c.requires.idle.0.2) (ap (λ m. m.0.out) now ∙ c.requires.idle.0.3),
    )
