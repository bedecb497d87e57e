use Rattle.std.proofs.Common.{◌≡◌, ℕ, ℤ, List, ap, ◌∙◌, subst, inr, to_z, of_z, w64, arith}
use Rattle.std.proofs.lemmas.Int.{ints}
use Rattle.std.proofs.lemmas.Result.{IfOk-weaker}
use Rattle.sg_r5424.specs.Is5424.{Is5424, refusal}
use Rattle.sg_msg.specs.Message.{Content}
use Rattle.sg_tree.proofs.reading.read_5424.Goals as goal

pub returns-in-Err-Syntax : goal.returns-in-Err-Syntax
returns-in-Err-Syntax c =
    let same : to_z w64 (of_z w64 c.args.at) ≡ c.args.at = omega (arith, ints, c.requires.0, c.requires.1) in
    let peer = c.args.peer.now in
    let opts = c.args.opts.now in
    let told = rw c.in-Err-Syntax.field-0-is at c.in-Err-Syntax.ensures in
    let none : (other : Content) → ¬ Is5424 c.args.item c.args.at peer opts other =
    subst (λ (x : ℤ). (other : Content) → ¬ Is5424 c.args.item x peer opts other) same
    (subst (λ (x : List ℕ). (other : Content) → ¬ Is5424 x (to_z w64 (of_z w64 c.args.at)) peer opts other) c.in_ok-clone.ensures.cases told.1) in
    IfOk-weaker c.refused.result _ _ (λ message e. inr (none, e ∙ ap (λ (x : ℤ). refusal c.args.item x peer opts) same)) c.refused.ensures
