use Rattle.std.proofs.Common.{◌≡◌, ℤ, Bool, sym, subst, to_z, of_z, w64, arith}
use Rattle.std.proofs.lemmas.Int.{ints}
use Rattle.std.specs.Prelude.{IfOk}
use Rattle.sg_tree.specs.Readings.{ReadsByFormat, Reads5424}
use Rattle.sg_tree.proofs.reading.read_plain.Goals as goal

pub returns-then-rule : goal.returns-then-rule
returns-then-rule c =
    let same : to_z w64 (of_z w64 c.args.at) ≡ c.args.at = omega (arith, ints, c.requires.0, c.requires.1) in
    let peer = c.args.peer.now in
    let opts = c.args.rule.now.opts in
    subst (λ (b : Bool). IfOk c.read_5424.result (ReadsByFormat b c.args.item c.args.at peer opts)) (sym c.if-rule.true)
    (subst (λ (x : ℤ). IfOk c.read_5424.result (Reads5424 c.args.item x peer opts)) same c.read_5424.ensures)
