use Rattle.std.proofs.Common.{arith}
use Rattle.sg_booth.proofs.Keeps.{hands}
use Rattle.sg_booth.proofs.steps.hand_over.Goals as goal

pub split_seat-requires : goal.split_seat-requires
split_seat-requires g c =
    let words = c.requires.table.1.0 in
    let about = c.args.lock.now.shared.key in
    (c.requires.table.0, omega arith, hands g.V.Office.step g.V.Office.may g.V.Office.room about.made.value about.turns c.args.place.now.id c.args.place.now.me.0)
