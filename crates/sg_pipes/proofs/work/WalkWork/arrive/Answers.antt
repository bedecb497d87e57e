use Rattle.std.proofs.Common.{◌≡◌, ℕ, ◌<◌, ◌≤◌, length, Option, Some, None, refl, sym, ap, ◌∙◌, arith}
use Rattle.std.specs.Prelude.{slice_get}
use Rattle.std.proofs.lemmas.Result.{on_ok_weaker}
use Rattle.sg_msg.specs.Message.{Content}
use Rattle.sg_tree.specs.Walk.{WalkResult, walk, branches, then_each, after_deliveries}
use Rattle.sg_table.specs.declared.pipe.Pipe.{Pipe}
use Rattle.sg_table.specs.declared.pipe.Pipe.TheVariants as pipe
use Rattle.sg_table.specs.Table.{siblings_of, branches_at, other_at, steps_at}
use Rattle.sg_pipes.specs.declared.frame.WalkFrame.TheVariants.{Rest, Out}
use Rattle.sg_pipes.specs.declared.frame.SiblingList.TheVariants.{At}
use Rattle.sg_pipes.specs.Frames.{from, branches_of, does}
use Rattle.sg_pipes.proofs.Running.{comes-as, comes-behind}
use Rattle.sg_pipes.proofs.Steps.{before-each}
use Rattle.sg_pipes.proofs.Piping.{past, here, starts, get-some, same-at}
use Rattle.sg_pipes.specs.Pipes.{start_of, start_at}
use Rattle.sg_pipes.proofs.work.WalkWork.arrive.Goals as goal

pub returns-then-place-len-clause-turns : goal.returns-then-place-len-clause-turns
returns-then-place-len-clause-turns c =
    let all = c.args.pipes.now.items in
    let le : length all ≤ c.args.at = omega arith in
    comes-as all _ _ _ _ (ap (after_deliveries c.args.self.now.offers.items) (past all c.args.at c.args.message c.args.flow le)) (c.leave.ensures all)

pub returns-in-End-clause-turns : goal.returns-in-End-clause-turns
returns-in-End-clause-turns c =
    let all = c.args.pipes.now.items in
    let at = c.args.at in
    let m = c.args.message in
    let f = c.args.flow in
    let old = c.args.self.now in
    let d = old.offers.items in
    let lt : at < length all = omega arith in
    let one : Pipe = pipe.End in
    let some : slice_get all at ≡ Some one = get-some all at c.index.result.now one lt c.index.ensures c.in-End.is in
    comes-as all _ _ _ _ (ap (after_deliveries d) (here all c.requires at m f one some)) (c.leave-in-End.ensures all)

pub returns-in_ok-push-in-Junction-clause-turns : goal.returns-in_ok-push-in-Junction-clause-turns
returns-in_ok-push-in-Junction-clause-turns c =
    let all = c.args.pipes.now.items in
    let at = c.args.at in
    let m = c.args.message in
    let f = c.args.flow in
    let old = c.args.self.now in
    let d = old.offers.items in
    let lt : at < length all = omega arith in
    let one : Pipe = pipe.Junction c.in-Junction.channels c.in-Junction.next in
    let some : slice_get all at ≡ Some one = get-some all at c.index.result.now one lt c.index.ensures c.in-Junction.is in
    let rest = λ (n : Content). walk (steps_at all c.in-Junction.next) n f in
    let group = from all old.offered.items (At at) 0 in
    let e = before-each d (branches group m f) rest
    ∙ ap (after_deliveries d) (ap (λ (o : Option Pipe). then_each (branches (siblings_of (branches_at (steps_at all) (branches_of o))) m f) rest) some ∙ here all c.requires at m f one some) in
    on_ok_weaker c.begin.result (λ h. comes-as all _ _ _ _ e (comes-behind all _ old _ _ (Rest c.in-Junction.next f) refl c.in_ok-push-in-Junction.ensures.items (h all))) c.begin.ensures

pub returns-in_ok-push-in-Embedded-clause-turns : goal.returns-in_ok-push-in-Embedded-clause-turns
returns-in_ok-push-in-Embedded-clause-turns c =
    let all = c.args.pipes.now.items in
    let at = c.args.at in
    let m = c.args.message in
    let f = c.args.flow in
    let old = c.args.self.now in
    let d = old.offers.items in
    let lt : at < length all = omega arith in
    let one : Pipe = pipe.Embedded c.in-Embedded.logs in
    let some : slice_get all at ≡ Some one = get-some all at c.index.result.now one lt c.index.ensures c.in-Embedded.is in
    let e = ap (λ (x : Content). does all old.offered.items (Out x) (after_deliveries d (branches (from all old.offered.items (At at) 0) m f))) c.in_ok-out-in-Embedded.ensures
    ∙ ap (λ (o : Option Pipe). does all old.offered.items (Out m) (after_deliveries d (branches (siblings_of (branches_at (steps_at all) (branches_of o))) m f))) some
    ∙ ap (after_deliveries d) (here all c.requires at m f one some) in
    on_ok_weaker c.begin-in-Embedded.result (λ h. comes-as all _ _ _ _ e (comes-behind all _ old _ _ (Out c.in_ok-out-in-Embedded.out) refl c.in_ok-push-in-Embedded.ensures.items (h all))) c.begin-in-Embedded.ensures

pub returns-in-Some-clause-turns : goal.returns-in-Some-clause-turns
returns-in-Some-clause-turns c =
    let all = c.args.pipes.now.items in
    let at = c.args.at in
    let m = c.args.message in
    let f = c.args.flow in
    let old = c.args.self.now in
    let d = old.offers.items in
    let lt : at < length all = omega arith in
    let one : Pipe = pipe.If c.in-If.tests c.in-If.other c.in-If.next in
    let some : slice_get all at ≡ Some one = get-some all at c.index.result.now one lt c.index.ensures c.in-If.is in
    let there : c.index_mut.result.now ≡ one = same-at all at c.index_mut.result.now one lt c.index_mut.ensures.value some in
    let tests = c.in-If.tests in
    let other = c.in-If.other in
    let next = c.in-If.next in
    let places = steps_at all in
    let rest = λ (n : Content). walk (places next) n f in
    let start : Some c.in-Some.start ≡ start_of tests.items other m = sym c.in-Some.is ∙ c.in_ok-start-in-If.ensures.value ∙ ap (λ (p : Pipe). start_at p other m) there in
    let goes = ap (λ (o : Option ℕ). walk (other_at places o) m f) start ∙ starts places tests.items other m f in
    let e = before-each d (walk (other_at places (Some c.in-Some.start)) m f) rest
    ∙ ap (after_deliveries d) (ap (λ (w : WalkResult). then_each w rest) goes ∙ here all c.requires at m f one some) in
    on_ok_weaker c.go.result (λ h. comes-as all _ _ _ _ e (comes-behind all _ old _ _ (Rest next f) refl c.in_ok-push-in-If.ensures.items (h all))) c.go.ensures

pub returns-in-None-clause-turns : goal.returns-in-None-clause-turns
returns-in-None-clause-turns c =
    let all = c.args.pipes.now.items in
    let at = c.args.at in
    let m = c.args.message in
    let f = c.args.flow in
    let old = c.args.self.now in
    let d = old.offers.items in
    let lt : at < length all = omega arith in
    let one : Pipe = pipe.If c.in-If.tests c.in-If.other c.in-If.next in
    let some : slice_get all at ≡ Some one = get-some all at c.index.result.now one lt c.index.ensures c.in-If.is in
    let there : c.index_mut.result.now ≡ one = same-at all at c.index_mut.result.now one lt c.index_mut.ensures.value some in
    let tests = c.in-If.tests in
    let other = c.in-If.other in
    let next = c.in-If.next in
    let places = steps_at all in
    let rest = λ (n : Content). walk (places next) n f in
    let start : None ≡ start_of tests.items other m = sym c.in-None.is ∙ c.in_ok-start-in-If.ensures.value ∙ ap (λ (p : Pipe). start_at p other m) there in
    let goes = ap (λ (o : Option ℕ). walk (other_at places o) m f) start ∙ starts places tests.items other m f in
    let e = before-each d (walk (other_at places (None)) m f) rest
    ∙ ap (after_deliveries d) (ap (λ (w : WalkResult). then_each w rest) goes ∙ here all c.requires at m f one some) in
    comes-as all _ _ _ _ e (comes-behind all _ old _ _ (Rest next f) refl c.in_ok-push-in-If.ensures.items (c.leave-in-None.ensures all))
