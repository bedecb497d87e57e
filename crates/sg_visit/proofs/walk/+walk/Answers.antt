use Rattle.std.proofs.Common.{◌≡◌, ◌∙◌, List, [], ◌∷◌, ◌++◌, refl, sym, ap, Some, None}
use Rattle.std.specs.List.{flat_map}
use Rattle.std.proofs.lemmas.List.{append-nil}
use Rattle.sg_parse_path.specs.declared.reference.ReferenceKind.TheVariants as kind
use Rattle.sg_parse_path.specs.declared.tree.RawElement.{RawElement}
use Rattle.sg_parse_path.specs.declared.tree.RawElement.TheVariants as e
use Rattle.sg_parse_path.specs.declared.tree.RawBranch.{out-RawBranch}
use Rattle.sg_visit.specs.Leaves.{Leaf, element_leaves, branch_leaves, log_leaves}
use Rattle.sg_visit.proofs.Equations.{leaves_source, leaves_destination, leaves_filter, leaves_rewrite, leaves_parser, leaves_junction, leaves_if, leaves_branch, leaves_log}
use Rattle.sg_visit.proofs.Visiting.{visits-one, visits-join, visits-same, visits-more, visits-all}
use Rattle.sg_visit.proofs.walk.+walk.Goals as goal

pub visit_elements-loop-element-init : goal.visit_elements-loop-element-init
visit_elements-loop-element-init g t c = refl

pub visit_elements-loop-element-preserved : goal.visit_elements-loop-element-preserved
visit_elements-loop-element-preserved g t c =
    visits-more (g.V.Visit.step c.args.visitor.now) element_leaves c.args.elements.now _ _ c.args.state.now c.loop-element.state c.visit_element.new.state c.loop-element-test.true c.element-item.is c.loop-element.invariant c.in_ok-visit_element.ensures

pub visit_elements-returns : goal.visit_elements-returns
visit_elements-returns g t c = visits-all (g.V.Visit.step c.args.visitor.now) element_leaves _ _ _ _ c.loop-element-test.false c.loop-element.invariant

pub visit_branches-loop-branch-init : goal.visit_branches-loop-branch-init
visit_branches-loop-branch-init g t c = refl

pub visit_branches-loop-branch-preserved : goal.visit_branches-loop-branch-preserved
visit_branches-loop-branch-preserved g t c =
    visits-more (g.V.Visit.step c.args.visitor.now) branch_leaves c.args.branches.now _ _ c.args.state.now c.loop-branch.state c.visit_branch.new.state c.loop-branch-test.true c.branch-item.is c.loop-branch.invariant c.in_ok-visit_branch.ensures

pub visit_branches-returns : goal.visit_branches-returns
visit_branches-returns g t c = visits-all (g.V.Visit.step c.args.visitor.now) branch_leaves _ _ _ _ c.loop-branch-test.false c.loop-branch.invariant

pub visit_logs-loop-log-init : goal.visit_logs-loop-log-init
visit_logs-loop-log-init g t c = refl

pub visit_logs-loop-log-preserved : goal.visit_logs-loop-log-preserved
visit_logs-loop-log-preserved g t c =
    visits-more (g.V.Visit.step c.args.visitor.now) log_leaves c.args.logs.now _ _ c.args.state.now c.loop-log.state c.visit_log.new.state c.loop-log-test.true c.log-item.is c.loop-log.invariant c.in_ok-visit_log.ensures

pub visit_logs-returns : goal.visit_logs-returns
visit_logs-returns g t c = visits-all (g.V.Visit.step c.args.visitor.now) log_leaves _ _ _ _ c.loop-log-test.false c.loop-log.invariant

pub visit_branch-returns : goal.visit_branch-returns
visit_branch-returns g t c =
    let step = g.V.Visit.step c.args.visitor.now in
    let test = (out-RawBranch c.args.branch.now).test in
    visits-join step (Leaf.test test ∷ []) (flat_map element_leaves c.as_slice.result.now) _ _ _ _
    (visits-one step (Leaf.test test) (Leaf.test test ∷ []) _ _ c.in_ok-test.ensures refl) c.in_ok-visit_elements.ensures
    (ap (λ (es : List RawElement). Leaf.test test ∷ flat_map element_leaves es) c.as_slice.ensures ∙ sym (leaves_branch c.args.branch.now))

pub visit_log-returns : goal.visit_log-returns
visit_log-returns g t c =
    let step = g.V.Visit.step c.args.visitor.now in
    let inner = visits-join step (flat_map element_leaves c.as_slice.result.now) (flat_map log_leaves c.as_slice-2.result.now) _ _ _ _ c.in_ok-visit_elements.ensures c.in_ok-visit_logs.ensures refl in
    visits-join step (flat_map element_leaves c.as_slice.result.now ++ flat_map log_leaves c.as_slice-2.result.now) (Leaf.flags c.as_slice-3.result.now ∷ []) _ _ _ _
    inner (visits-one step (Leaf.flags c.as_slice-3.result.now) (Leaf.flags c.as_slice-3.result.now ∷ []) _ _ c.in_ok-flags.ensures refl)
    ((λ i. (flat_map element_leaves (c.as_slice.ensures i) ++ flat_map log_leaves (c.as_slice-2.ensures i)) ++ Leaf.flags (c.as_slice-3.ensures i) ∷ []) ∙ sym (leaves_log c.args.log.now))

pub visit_element-returns-in_ok-reference-in-Source : goal.visit_element-returns-in_ok-reference-in-Source
visit_element-returns-in_ok-reference-in-Source g t c =
    let step = g.V.Visit.step c.args.visitor.now in
    let word = c.in-Source.word in
    let source = c.in-Source.source in
    visits-join step (Leaf.source word ∷ []) (Leaf.reference kind.Source source ∷ []) _ _ _ _
    (visits-one step (Leaf.source word) (Leaf.source word ∷ []) _ _ c.in_ok-source-in-Source.ensures refl)
    (visits-one step (Leaf.reference kind.Source source) (Leaf.reference kind.Source source ∷ []) _ _ c.in_ok-reference-in-Source.ensures refl)
    (sym (ap element_leaves c.in-Source.is ∙ leaves_source word source))

pub visit_element-returns-in_ok-reference-in-Destination : goal.visit_element-returns-in_ok-reference-in-Destination
visit_element-returns-in_ok-reference-in-Destination g t c =
    visits-one (g.V.Visit.step c.args.visitor.now) (Leaf.reference kind.Destination c.in-Destination.destination) _ _ _ c.in_ok-reference-in-Destination.ensures
    (sym (ap element_leaves c.in-Destination.is ∙ leaves_destination c.in-Destination.destination))

pub visit_element-returns-in_ok-reference-in-Filter : goal.visit_element-returns-in_ok-reference-in-Filter
visit_element-returns-in_ok-reference-in-Filter g t c =
    visits-one (g.V.Visit.step c.args.visitor.now) (Leaf.reference kind.Filter c.in-Filter.filter) _ _ _ c.in_ok-reference-in-Filter.ensures
    (sym (ap element_leaves c.in-Filter.is ∙ leaves_filter c.in-Filter.filter))

pub visit_element-returns-in_ok-reference-in-Rewrite : goal.visit_element-returns-in_ok-reference-in-Rewrite
visit_element-returns-in_ok-reference-in-Rewrite g t c =
    visits-one (g.V.Visit.step c.args.visitor.now) (Leaf.reference kind.Rewrite c.in-Rewrite.rewrite) _ _ _ c.in_ok-reference-in-Rewrite.ensures
    (sym (ap element_leaves c.in-Rewrite.is ∙ leaves_rewrite c.in-Rewrite.rewrite))

pub visit_element-returns-in_ok-reference-in-Parser : goal.visit_element-returns-in_ok-reference-in-Parser
visit_element-returns-in_ok-reference-in-Parser g t c =
    visits-one (g.V.Visit.step c.args.visitor.now) (Leaf.reference kind.Parser c.in-Parser.parser) _ _ _ c.in_ok-reference-in-Parser.ensures
    (sym (ap element_leaves c.in-Parser.is ∙ leaves_parser c.in-Parser.parser))

pub visit_element-returns-in_ok-visit_logs-in-Junction : goal.visit_element-returns-in_ok-visit_logs-in-Junction
visit_element-returns-in_ok-visit_logs-in-Junction g t c =
    visits-same (g.V.Visit.step c.args.visitor.now) (flat_map log_leaves c.as_slice.result.now) _ _ _ c.in_ok-visit_logs-in-Junction.ensures
    (ap (flat_map log_leaves) c.as_slice.ensures ∙ sym (ap element_leaves c.in-Junction.is ∙ leaves_junction c.in-Junction.channels))

pub visit_element-returns-in_ok-visit_elements-in-Some : goal.visit_element-returns-in_ok-visit_elements-in-Some
visit_element-returns-in_ok-visit_elements-in-Some g t c =
    let branches = c.in-If.branches in
    let elements = c.in-Some.elements in
    visits-join (g.V.Visit.step c.args.visitor.now) (flat_map branch_leaves c.as_slice-in-If.result.now) (flat_map element_leaves c.as_slice-in-Some.result.now) _ _ _ _ c.in_ok-visit_branches-in-If.ensures c.in_ok-visit_elements-in-Some.ensures
    ((λ i. flat_map branch_leaves (c.as_slice-in-If.ensures i) ++ flat_map element_leaves (c.as_slice-in-Some.ensures i)) ∙ sym (ap element_leaves (c.in-If.is ∙ ap (e.If branches) c.in-Some.is) ∙ leaves_if branches (Some elements)))

pub visit_element-returns-in-None : goal.visit_element-returns-in-None
visit_element-returns-in-None g t c =
    let branches = c.in-If.branches in
    visits-same (g.V.Visit.step c.args.visitor.now) (flat_map branch_leaves c.as_slice-in-If.result.now) _ _ _ c.in_ok-visit_branches-in-If.ensures
    (ap (flat_map branch_leaves) c.as_slice-in-If.ensures ∙ sym (append-nil (flat_map branch_leaves branches)) ∙ sym (ap element_leaves (c.in-If.is ∙ ap (e.If branches) c.in-None.is) ∙ leaves_if branches None))
