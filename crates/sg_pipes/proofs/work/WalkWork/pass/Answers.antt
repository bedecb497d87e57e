use Rattle.std.proofs.Common.{◌≡◌, ℕ, ◌<◌, true, false, List, ◌++◌, length, Some, refl, sym, ap, ◌∙◌, arith}
use Rattle.std.specs.Prelude.{slice_get}
use Rattle.sg_filter.specs.Decisions.{decides}
use Rattle.sg_parsers.specs.Parsed.{rule_takes}
use Rattle.sg_tree.specs.Walk.{after_deliveries, deliveries_to}
use Rattle.sg_table.specs.declared.pipe.Pipe.{Pipe}
use Rattle.sg_table.specs.declared.pipe.Pipe.TheVariants as pipe
use Rattle.sg_pipes.proofs.Running.{comes-as}
use Rattle.sg_pipes.proofs.Piping.{filter-on, filter-off, rewrite-on, parse-on, parse-off, deliver-on, get-some, same-at}
use Rattle.sg_pipes.specs.Pipes.{lets_pass, rewritten_at}
use Rattle.sg_pipes.proofs.work.WalkWork.pass.Goals as goal

pub returns-then-branch-clause-passes : goal.returns-then-branch-clause-passes
returns-then-branch-clause-passes c =
    let all = c.args.pipes.now.items in
    let at = c.args.at in
    let m = c.args.message.now in
    let f = c.args.flow in
    let old = c.args.self.now in
    let d = old.offers.items in
    let lt : at < length all = omega arith in
    let one : Pipe = pipe.Filter c.in-Filter.filter c.in-Filter.next in
    let some : slice_get all at ≡ Some one = get-some all at c.index.result.now one lt c.index.ensures c.in-Filter.is in
    let there : c.index_mut.result.now ≡ one = same-at all at c.index_mut.result.now one lt c.index_mut.ensures.value some in
    let on : decides c.in-Filter.filter m ≡ true = ap (λ (p : Pipe). lets_pass p m) (sym there) ∙ sym c.in_ok-passes-in-Filter.ensures.value ∙ c.if-branch.true in
    (ap (after_deliveries d) (filter-on all c.requires at m f c.in-Filter.filter c.in-Filter.next some on), refl, refl)

pub returns-else-branch-clause-passes : goal.returns-else-branch-clause-passes
returns-else-branch-clause-passes c =
    let all = c.args.pipes.now.items in
    let at = c.args.at in
    let m = c.args.message.now in
    let f = c.args.flow in
    let old = c.args.self.now in
    let d = old.offers.items in
    let lt : at < length all = omega arith in
    let one : Pipe = pipe.Filter c.in-Filter.filter c.in-Filter.next in
    let some : slice_get all at ≡ Some one = get-some all at c.index.result.now one lt c.index.ensures c.in-Filter.is in
    let there : c.index_mut.result.now ≡ one = same-at all at c.index_mut.result.now one lt c.index_mut.ensures.value some in
    let off : decides c.in-Filter.filter m ≡ false = ap (λ (p : Pipe). lets_pass p m) (sym there) ∙ sym c.in_ok-passes-in-Filter.ensures.value ∙ c.if-branch.false in
    comes-as all _ _ _ _ (ap (after_deliveries d) (filter-off all c.requires at m f c.in-Filter.filter c.in-Filter.next some off)) (c.stop.ensures all)

pub returns-in_ok-rewrite-in-Rewrite-clause-passes : goal.returns-in_ok-rewrite-in-Rewrite-clause-passes
returns-in_ok-rewrite-in-Rewrite-clause-passes c =
    let all = c.args.pipes.now.items in
    let at = c.args.at in
    let m = c.args.message.now in
    let f = c.args.flow in
    let old = c.args.self.now in
    let d = old.offers.items in
    let lt : at < length all = omega arith in
    let one : Pipe = pipe.Rewrite c.in-Rewrite.condition c.in-Rewrite.rewrite c.in-Rewrite.next in
    let some : slice_get all at ≡ Some one = get-some all at c.index.result.now one lt c.index.ensures c.in-Rewrite.is in
    let there : c.index_mut-in-Rewrite.result.now ≡ one = same-at all at c.index_mut-in-Rewrite.result.now one lt c.index_mut-in-Rewrite.ensures.value some in
    let made = c.in_ok-rewrite-in-Rewrite.ensures.value ∙ ap (λ (p : Pipe). rewritten_at p m) there in
    (ap (after_deliveries d) (rewrite-on all c.requires at m f c.in-Rewrite.condition c.in-Rewrite.rewrite c.in-Rewrite.next c.rewrite.new.message some made), refl, refl)

pub returns-then-taken-clause-passes : goal.returns-then-taken-clause-passes
returns-then-taken-clause-passes c =
    let all = c.args.pipes.now.items in
    let at = c.args.at in
    let m = c.args.message.now in
    let f = c.args.flow in
    let d = c.args.self.now.offers.items in
    let lt : at < length all = omega arith in
    let one : Pipe = pipe.Parse c.in-Parse.rule c.in-Parse.next in
    let some : slice_get all at ≡ Some one = get-some all at c.index.result.now one lt c.index.ensures c.in-Parse.is in
    let on : rule_takes c.in-Parse.rule m ≡ true = sym c.in_ok-taken-in-Parse.ensures.taken ∙ c.if-taken.true in
    (ap (after_deliveries d) (parse-on all c.requires at m f c.in-Parse.rule c.in-Parse.next c.apply.new.message some on c.in_ok-taken-in-Parse.ensures.ok), refl, refl)

pub returns-else-taken-clause-passes : goal.returns-else-taken-clause-passes
returns-else-taken-clause-passes c =
    let all = c.args.pipes.now.items in
    let at = c.args.at in
    let m = c.args.message.now in
    let f = c.args.flow in
    let d = c.args.self.now.offers.items in
    let lt : at < length all = omega arith in
    let one : Pipe = pipe.Parse c.in-Parse.rule c.in-Parse.next in
    let some : slice_get all at ≡ Some one = get-some all at c.index.result.now one lt c.index.ensures c.in-Parse.is in
    let off : rule_takes c.in-Parse.rule m ≡ false = sym c.in_ok-taken-in-Parse.ensures.taken ∙ c.if-taken.false in
    comes-as all _ _ _ _ (ap (after_deliveries d) (parse-off all c.requires at m f c.in-Parse.rule c.in-Parse.next some off)) (c.stop-else-taken.ensures all)

pub returns-in_ok-deliver-in-Deliver-clause-passes : goal.returns-in_ok-deliver-in-Deliver-clause-passes
returns-in_ok-deliver-in-Deliver-clause-passes c =
    let all = c.args.pipes.now.items in
    let at = c.args.at in
    let m = c.args.message.now in
    let f = c.args.flow in
    let old = c.args.self.now in
    let d = old.offers.items in
    let lt : at < length all = omega arith in
    let one : Pipe = pipe.Deliver c.in-Deliver.drivers c.in-Deliver.next in
    let some : slice_get all at ≡ Some one = get-some all at c.index.result.now one lt c.index.ensures c.in-Deliver.is in
    let added = c.in_ok-deliver-in-Deliver.ensures ∙ ap (λ (x : List ℕ). d ++ deliveries_to x m f) c.deref.ensures.value in
    (deliver-on all c.requires at m f c.in-Deliver.drivers c.in-Deliver.next d c.deliver.new.offers.items some added, refl, refl)
