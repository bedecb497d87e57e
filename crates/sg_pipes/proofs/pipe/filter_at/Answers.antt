use Rattle.std.proofs.Common.{◌≡◌, ◌<◌, true, false, length, Some, sym, ap, ◌∙◌, arith}
use Rattle.std.specs.Prelude.{slice_get}
use Rattle.sg_filter.specs.Decisions.{decides}
use Rattle.sg_table.specs.declared.pipe.Pipe.{Pipe}
use Rattle.sg_table.specs.declared.pipe.Pipe.TheVariants as pipe
use Rattle.sg_pipes.specs.Pipes.{lets_pass}
use Rattle.sg_pipes.proofs.Piping.{filter-on, filter-off, get-some, same-at}
use Rattle.sg_pipes.proofs.pipe.filter_at.Goals as goal

pub returns-then-branch-clause-filters : goal.returns-then-branch-clause-filters
returns-then-branch-clause-filters c =
    let all = c.args.pipes.now.items in
    let at = c.args.at in
    let m = c.args.message.now in
    let lt : at < length all = omega arith in
    let one : Pipe = pipe.Filter c.in-Filter.filter c.in-Filter.next in
    let some : slice_get all at ≡ Some one = get-some all at c.index.result.now one lt c.index.ensures c.in-Filter.is in
    let there : c.index_mut.result.now ≡ one = same-at all at c.index_mut.result.now one lt c.index_mut.ensures.value some in
    let on : decides c.in-Filter.filter m ≡ true = ap (λ (p : Pipe). lets_pass p m) (sym there) ∙ sym c.in_ok-passes-in-Filter.ensures.value ∙ c.if-branch.true in
    λ f. filter-on all c.requires at m f c.in-Filter.filter c.in-Filter.next some on

pub returns-else-branch-clause-filters : goal.returns-else-branch-clause-filters
returns-else-branch-clause-filters c =
    let all = c.args.pipes.now.items in
    let at = c.args.at in
    let m = c.args.message.now in
    let lt : at < length all = omega arith in
    let one : Pipe = pipe.Filter c.in-Filter.filter c.in-Filter.next in
    let some : slice_get all at ≡ Some one = get-some all at c.index.result.now one lt c.index.ensures c.in-Filter.is in
    let there : c.index_mut.result.now ≡ one = same-at all at c.index_mut.result.now one lt c.index_mut.ensures.value some in
    let off : decides c.in-Filter.filter m ≡ false = ap (λ (p : Pipe). lets_pass p m) (sym there) ∙ sym c.in_ok-passes-in-Filter.ensures.value ∙ c.if-branch.false in
    λ f. sym (filter-off all c.requires at m f c.in-Filter.filter c.in-Filter.next some off)
