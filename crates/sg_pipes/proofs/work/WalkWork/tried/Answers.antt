use Rattle.std.proofs.Common.{◌≡◌, Bool, true, false, List, ◌++◌, Vec, sym, ap, ◌∙◌}
use Rattle.std.specs.Prelude.{◌&&◌, ◌||◌, cond}
use Rattle.std.proofs.lemmas.Result.{on_ok_weaker}
use Rattle.std.specs.declared.alloc.Global.{Global}
use Rattle.sg_pipes.specs.declared.gone.Gone.{Gone}
use Rattle.sg_msg.specs.declared.offer.Offer.{Offer}
use Rattle.sg_tree.specs.Walk.{WalkResult}
use Rattle.sg_table.specs.declared.pipe.Branch.{Branch}
use Rattle.sg_pipes.specs.Frames.{with_left, tries}
use Rattle.sg_pipes.specs.Messages.{messages_of}
use Rattle.sg_pipes.specs.Turns.{now}
use Rattle.sg_pipes.proofs.Running.{comes-now, comes-as, comes-from}
use Rattle.sg_pipes.proofs.Steps.{before, joined-now, joined-left}
use Rattle.sg_pipes.proofs.work.WalkWork.tried.Goals as goal

pub returns-then-ends-clause-turns : goal.returns-then-ends-clause-turns
returns-then-ends-clause-turns c =
    let pipes = c.args.pipes.now.items in
    let old = c.args.self.now in
    let w = now old in
    let left = c.args.trial.left in
    let dropped = c.args.drop_unmatched in
    let m : WalkResult = record { deliveries = w.deliveries; out = w.out; processed = w.processed || dropped } in
    let tb = c.take_back-mine in
    let taken = tb.ensures.taken in
    let d = tb.new.self.offers.items in
    let ed : d ≡ w.deliveries = ap (λ (v : Vec Offer Global). v.items) tb.ensures.rest.0 in
    let eo = c.in_ok-join.ensures.0 ∙ ap (λ (g : Gone). messages_of left.out ++ messages_of g.out) taken in
    let ep = c.in_ok-join.ensures.1 ∙ ap (λ (g : Gone). left.processed || (g.processed || dropped)) taken in
    let last : (m.processed && c.args.is_final) ≡ true = ap (λ (g : Gone). (g.processed || dropped) && c.args.is_final) (sym taken) ∙ c.if-ends.true in
    let made : WalkResult = with_left left m in
    comes-as pipes _ _ _ _
    (joined-now c.join.new.self left d m ed eo ep ∙ sym (ap (λ (x : Bool). cond x made (tries pipes old.offered.items c.args.trial made)) last))
    (comes-now pipes _ _ tb.ensures.rest.2 tb.ensures.rest.1)

pub returns-clause-turns : goal.returns-clause-turns
returns-clause-turns c =
    let pipes = c.args.pipes.now.items in
    let old = c.args.self.now in
    let w = now old in
    let trial = c.args.trial in
    let left = trial.left in
    let dropped = c.args.drop_unmatched in
    let m : WalkResult = record { deliveries = w.deliveries; out = w.out; processed = w.processed || dropped } in
    let tb = c.take_back-mine in
    let taken = tb.ensures.taken in
    let d = tb.new.self.offers.items in
    let ed : d ≡ w.deliveries = ap (λ (v : Vec Offer Global). v.items) tb.ensures.rest.0 in
    let eo = c.in_ok-join.ensures.0 ∙ ap (λ (g : Gone). messages_of left.out ++ messages_of g.out) taken in
    let ep = c.in_ok-join.ensures.1 ∙ ap (λ (g : Gone). left.processed || (g.processed || dropped)) taken in
    let last : (m.processed && c.args.is_final) ≡ false = ap (λ (g : Gone). (g.processed || dropped) && c.args.is_final) (sym taken) ∙ c.if-ends.false in
    let made : WalkResult = with_left left m in
    let same = ap (λ (v : Vec Branch Global). v.items) tb.ensures.rest.2 in
    let e = ap (λ (s : WalkResult). tries pipes old.offered.items trial s) (joined-left c.join.new.self left d m ed eo ep)
    ∙ sym (ap (λ (x : Bool). cond x made (tries pipes old.offered.items trial made)) last) in
    on_ok_weaker c.try_next.result (λ h. comes-as pipes _ _ _ _ (ap (λ (o : List Branch). tries pipes o trial (with_left c.join.new.self (before d))) same ∙ e)
    (comes-from pipes _ old _ _ tb.ensures.rest.2 tb.ensures.rest.1 h)) c.try_next.ensures.turns
