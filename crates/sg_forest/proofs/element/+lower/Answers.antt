use Rattle.std.proofs.Common.{◌∙◌, List, [], map, ap, subst}
use Rattle.sg_parse_path.specs.declared.tree.RawElement.{RawElement}
use Rattle.sg_parse_path.specs.declared.tree.RawElement.TheVariants as e
use Rattle.sg_parse_path.specs.declared.tree.RawBranch.{RawBranch}
use Rattle.sg_parse_path.specs.declared.tree.RawLog.{RawLog}
use Rattle.sg_parse_expr.specs.declared.tree.Call.{Call}
use Rattle.sg_tree.specs.declared.tree.Element.{Element}
use Rattle.sg_tree.specs.declared.tree.Element.TheOpen.{Path-F}
use Rattle.sg_tree.specs.declared.tree.Path.{Path}
use Rattle.sg_forest.specs.Steps.{element_steps}
use Rattle.sg_forest.specs.Patterns.{element_patterns}
use Rattle.sg_forest.specs.Adds.{AreElements, AreBranches, AreLogs}
use Rattle.sg_forest.proofs.Adding.{adds-more, adds-all}
use Rattle.sg_forest.proofs.Making.{branch-made, log-rolled, marks-rolled, catchall-rolled, line-rolled, source-adds, destination-adds, filter-adds, rewrite-adds, parser-adds, junction-adds, else-adds, ifs-add}
use Rattle.sg_forest.proofs.element.+lower.Goals as goal

pub lower_branch-returns : goal.lower_branch-returns
lower_branch-returns t c =
    let names = c.args.names.now in
    let outlets = c.args.outlets.now in
    let rewrites : List (List Call) = map (λ calls. calls.now) c.args.rewrites.now in
    branch-made names outlets rewrites (c.in_ok-test.test, c.in_ok-elements.elements) c.args.branch.now c.in_ok-test.ensures
    (subst (λ (xs : List RawElement). AreElements names outlets rewrites xs c.in_ok-elements.elements.items) c.as_slice.ensures c.in_ok-elements.ensures)

pub lower_elements-loop-element-preserved : goal.lower_elements-loop-element-preserved
lower_elements-loop-element-preserved t c = λ named.
    let names = c.args.names.now in
    let rewrites : List (List Call) = map (λ calls. calls.now) c.args.rewrites.now in
    adds-more named (element_steps names c.args.outlets.now rewrites named) (element_patterns names rewrites named) c.args.elements.now c.loop-element.element-index c.element-item.result [] c.loop-element.found.items
    c.push_element.new.found.items c.loop-element-test.true c.element-item.is (c.loop-element.invariant named) (c.in_ok-push_element.ensures named)

pub lower_elements-returns : goal.lower_elements-returns
lower_elements-returns t c = λ named.
    let names = c.args.names.now in
    let rewrites : List (List Call) = map (λ calls. calls.now) c.args.rewrites.now in
    adds-all named (element_steps names c.args.outlets.now rewrites named) (element_patterns names rewrites named) c.args.elements.now c.loop-element.element-index [] c.loop-element.found.items c.loop-element-test.false
    (c.loop-element.invariant named)

pub lower_log-returns-clause-means : goal.lower_log-returns-clause-means
lower_log-returns-clause-means t c =
    let names = c.args.names.now in
    let outlets = c.args.outlets.now in
    let rewrites : List (List Call) = map (λ calls. calls.now) c.args.rewrites.now in
    let layer : Path-F Element Path = record {
      sources = c.args.sources;
      elements = c.in_ok-elements.elements;
      embedded = c.in_ok-embedded.embedded;
      is_final = c.has_flag.result;
      fallback = c.has_flag-2.result;
      catchall = c.has_flag-3.result;
      flow = c.has_flag-4.result;
      drop_unmatched = c.has_flag-5.result;
      line = c.line_of.result;
    } in
    log-rolled names outlets rewrites layer c.args.log.now
    (marks-rolled c.as_slice-flags.result.now c.args.log.now c.as_slice-flags.ensures _ _ _ _ c.has_flag.ensures c.has_flag-2.ensures c.has_flag-4.ensures c.has_flag-5.ensures)
    (subst (λ (xs : List RawElement). AreElements names outlets rewrites xs c.in_ok-elements.elements.items) c.as_slice.ensures c.in_ok-elements.ensures)
    (subst (λ (xs : List RawLog). AreLogs names outlets rewrites xs c.in_ok-embedded.embedded.items) c.as_slice-2.ensures c.in_ok-embedded.ensures)

pub lower_log-returns-clause-catchall : goal.lower_log-returns-clause-catchall
lower_log-returns-clause-catchall t c =
    let layer : Path-F Element Path = record {
      sources = c.args.sources;
      elements = c.in_ok-elements.elements;
      embedded = c.in_ok-embedded.embedded;
      is_final = c.has_flag.result;
      fallback = c.has_flag-2.result;
      catchall = c.has_flag-3.result;
      flow = c.has_flag-4.result;
      drop_unmatched = c.has_flag-5.result;
      line = c.line_of.result;
    } in
    catchall-rolled layer c.args.log.now c.as_slice-flags.result.now c.as_slice-flags.ensures c.has_flag-3.ensures

pub lower_log-returns-clause-line : goal.lower_log-returns-clause-line
lower_log-returns-clause-line t c =
    let layer : Path-F Element Path = record {
      sources = c.args.sources;
      elements = c.in_ok-elements.elements;
      embedded = c.in_ok-embedded.embedded;
      is_final = c.has_flag.result;
      fallback = c.has_flag-2.result;
      catchall = c.has_flag-3.result;
      flow = c.has_flag-4.result;
      drop_unmatched = c.has_flag-5.result;
      line = c.line_of.result;
    } in
    line-rolled layer c.args.log.now c.line_of.ensures

pub push_element-returns-in-Source : goal.push_element-returns-in-Source
push_element-returns-in-Source t c = source-adds c.args.names.now c.args.outlets.now (map (λ calls. calls.now) c.args.rewrites.now) c.args.element.now c.args.found.now.items _ _ c.in-Source.is

pub push_element-returns-in_ok-append-in-Destination : goal.push_element-returns-in_ok-append-in-Destination
push_element-returns-in_ok-append-in-Destination t c =
    let names = c.args.names.now in
    let outlets = c.args.outlets.now in
    let rewrites : List (List Call) = map (λ calls. calls.now) c.args.rewrites.now in
    destination-adds names outlets rewrites c.args.element.now c.args.found.now.items c.append.new.items.items c.in-Destination.destination c.in_ok-drivers-in-Destination.drivers c.in-Destination.is
    c.in_ok-drivers-in-Destination.ensures c.in_ok-append-in-Destination.ensures

pub push_element-returns-in_ok-append-in-Filter : goal.push_element-returns-in_ok-append-in-Filter
push_element-returns-in_ok-append-in-Filter t c =
    let names = c.args.names.now in
    let outlets = c.args.outlets.now in
    let rewrites : List (List Call) = map (λ calls. calls.now) c.args.rewrites.now in
    filter-adds names outlets rewrites c.args.element.now c.args.found.now.items c.append-in-Filter.new.items.items c.in-Filter.filter c.in_ok-expr-in-Filter.expr c.in-Filter.is c.in_ok-expr-in-Filter.ensures
    c.in_ok-append-in-Filter.ensures

pub push_element-returns-in_ok-push_calls-in-Rewrite : goal.push_element-returns-in_ok-push_calls-in-Rewrite
push_element-returns-in_ok-push_calls-in-Rewrite t c =
    let names = c.args.names.now in
    let outlets = c.args.outlets.now in
    let rewrites : List (List Call) = map (λ calls. calls.now) c.args.rewrites.now in
    rewrite-adds names outlets rewrites c.args.element.now c.args.found.now.items c.push_calls.new.elements.items c.in-Rewrite.rewrite c.calls_meant.result.now c.in-Rewrite.is c.calls_meant.ensures
    c.in_ok-push_calls-in-Rewrite.ensures

pub push_element-returns-in_ok-push_parsers-in-Parser : goal.push_element-returns-in_ok-push_parsers-in-Parser
push_element-returns-in_ok-push_parsers-in-Parser t c =
    let rewrites : List (List Call) = map (λ calls. calls.now) c.args.rewrites.now in
    parser-adds c.args.names.now c.args.outlets.now rewrites c.args.element.now c.args.found.now.items c.push_parsers.new.elements.items c.in-Parser.parser c.parsers_meant.result.now c.in-Parser.is c.parsers_meant.ensures
    c.in_ok-push_parsers-in-Parser.ensures

pub push_element-returns-in_ok-append-in-Junction : goal.push_element-returns-in_ok-append-in-Junction
push_element-returns-in_ok-append-in-Junction t c =
    let names = c.args.names.now in
    let outlets = c.args.outlets.now in
    let rewrites : List (List Call) = map (λ calls. calls.now) c.args.rewrites.now in
    junction-adds names outlets rewrites c.args.element.now c.args.found.now.items c.append-in-Junction.new.items.items c.in-Junction.channels c.in_ok-paths-in-Junction.paths c.in-Junction.is
    (subst (λ (xs : List RawLog). AreLogs names outlets rewrites xs c.in_ok-paths-in-Junction.paths.items) c.as_slice.ensures c.in_ok-paths-in-Junction.ensures) c.in_ok-append-in-Junction.ensures

pub push_element-returns-in_ok-append-in-Some : goal.push_element-returns-in_ok-append-in-Some
push_element-returns-in_ok-append-in-Some t c =
    let names = c.args.names.now in
    let outlets = c.args.outlets.now in
    let rewrites : List (List Call) = map (λ calls. calls.now) c.args.rewrites.now in
    else-adds names outlets rewrites c.args.element.now c.args.found.now.items c.append-in-Some.new.items.items c.in-If.branches c.in-Some.elements c.in_ok-tests-in-If.tests c.in_ok-rest-in-Some.rest
    (c.in-If.is ∙ ap (e.If c.in-If.branches) c.in-Some.is)
    (subst (λ (xs : List RawBranch). AreBranches names outlets rewrites xs c.in_ok-tests-in-If.tests.items) c.as_slice-in-If.ensures c.in_ok-tests-in-If.ensures)
    (subst (λ (xs : List RawElement). AreElements names outlets rewrites xs c.in_ok-rest-in-Some.rest.items) c.as_slice-in-Some.ensures c.in_ok-rest-in-Some.ensures) c.in_ok-append-in-Some.ensures

pub push_element-returns-in_ok-append-in-None : goal.push_element-returns-in_ok-append-in-None
push_element-returns-in_ok-append-in-None t c =
    let names = c.args.names.now in
    let outlets = c.args.outlets.now in
    let rewrites : List (List Call) = map (λ calls. calls.now) c.args.rewrites.now in
    ifs-add names outlets rewrites c.args.element.now c.args.found.now.items c.append-in-None.new.items.items c.in-If.branches c.in_ok-tests-in-If.tests
    (c.in-If.is ∙ ap (e.If c.in-If.branches) c.in-None.is)
    (subst (λ (xs : List RawBranch). AreBranches names outlets rewrites xs c.in_ok-tests-in-If.tests.items) c.as_slice-in-If.ensures c.in_ok-tests-in-If.ensures) c.in_ok-append-in-None.ensures
