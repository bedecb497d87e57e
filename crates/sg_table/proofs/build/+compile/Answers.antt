use Rattle.std.proofs.Common.{◌≡◌, ℕ, ◌+◌, ◌-◌, ◌<◌, List, [], ◌∷◌, ◌++◌, length, map, take, drop, get_or, Vec, refl, sym, ap, ap₂, ◌∙◌, subst, arith}
use Rattle.std.proofs.lemmas.List.{take_more, drop_more}
use Rattle.std.proofs.lemmas.Result.{IfOk-weaker}
use Rattle.std.specs.declared.alloc.Global.{Global}
use Rattle.sg_filter.proofs.Turning.{only-none, only-more}
use Rattle.sg_filter.specs.Decisions.{Decision, decision_of}
use Rattle.sg_filter.specs.Patterns.{AreValid, patterns_of}
use Rattle.sg_filter.specs.declared.expr.Expr.{Expr}
use Rattle.sg_tree.specs.declared.tree.Element.{Element}
use Rattle.sg_tree.specs.declared.tree.Path.{Path, out-Path}
use Rattle.sg_tree.specs.Walk.{Marks, Steps, Siblings, Choice, choose, junction, embedded, none_left, size, choice_size}
use Rattle.sg_tree.specs.Plain.{element_view, in_front, steps_view, choice_view, own_steps}
use Rattle.sg_tree.proofs.Views.{view-Junction, view-If}
use Rattle.sg_table.specs.declared.pipe.Pipe.TheVariants as pipe
use Rattle.sg_table.specs.Compiled.{Compiled, MadePipe, own, choices}
use Rattle.sg_table.specs.Patterns.{PatternTexts, MakesPatterns, RefusesPatterns, branch_patterns, choices_patterns, element_patterns, list_patterns, other_patterns, path_patterns, siblings_patterns}
use Rattle.sg_table.specs.Table.{siblings_of, choice_of, branches_at, tests_at, other_at, steps_at}
use Rattle.sg_table.proofs.Tables.{tests-same, grows-none, grows-more, grows-kept, grows-length, pushed}
use Rattle.sg_table.proofs.Parts.{siblings-own, choices-own, behind-none, behind-some, map-last-at, tests-within, one-sibling, one-test, ended, zero-of, not-zero}
use Rattle.sg_table.proofs.Patterned.{patterns-If, patterns-Path, valid-append, valid-behind, valid-last, refused-behind, refused-item, makes-front}
use Rattle.sg_table.proofs.Sizes.{at-least, list-size, item-size, sibling-size, branch-size, choice-none, choice-other}
use Rattle.sg_table.proofs.build.+compile.Goals as goal

pub branch-returns-clause-compiled : goal.branch-returns-clause-compiled
branch-returns-clause-compiled g t c =
    IfOk-weaker c.list.result _ _ (λ at made. ended c.args.named.now c.args.pipes.now.items c.push.new.pipes.items c.list.new.pipes.items c.in_ok-next.next at c.args.elements.now c.in_ok-next.ensures.value.0 c.in_ok-next.ensures.value.1 made) c.list.ensures.compiled

pub choice-tests-requires : goal.choice-tests-requires
choice-tests-requires g t c = λ κs out. (omega (arith, choice-none c.args.named.now c.args.branches.now c.args.other.now), out)

pub choice-other_start-requires : goal.choice-other_start-requires
choice-other_start-requires g t c = λ κs out. (omega (arith, choice-other c.args.named.now c.args.branches.now c.args.other.now), out)

pub choice-returns-in-Ok-other_start-clause-compiled : goal.choice-returns-in-Ok-other_start-clause-compiled
choice-returns-in-Ok-other_start-clause-compiled g t c =
    let named = c.args.named.now in
    let bs = c.args.branches.now in
    let o = c.args.other.now in
    let old = c.args.pipes.now.items in
    let one = c.tests.new.pipes.items in
    let mid = c.other_start.new.pipes.items in
    let s = steps_at old c.args.next in
    let tests = c.in-Ok.tests in
    let other = c.in-Ok-other_start.other in
    let made = c.in-Ok.ensures.compiled in
    let last = c.in-Ok-other_start.ensures.compiled in
    let grows = grows-more old one mid made.grows last.grows in
    let below : c.args.next < length mid = omega (arith, grows-length old mid grows, c.requires) in
    let within = tests-within (length one) (length mid) tests.items (grows-length one mid last.grows) made.within in
    let choice : tests_at (steps_at mid) tests.items ≡ choices named bs = tests-same (steps_at mid) (steps_at one) (length one) (λ k h. grows-kept one mid k last.grows h) tests.items made.within ∙ made.means in
    record {
      grows = grows;
      below = (below, (within, last.within));
      means = ap₂ (λ (x : List (Decision × Steps)) (y : Steps). choose (choice_of x (other_at (steps_at mid) other)) y) choice (grows-kept old mid c.args.next grows c.requires)
          ∙ ap (λ (x : Steps). choose (choice_of (choices named bs) x) s) last.means
          ∙ ap (λ (x : Choice). choose x s) (choices-own named bs o);
    }

pub choice-returns-in-Err-other_start-clause-makes : goal.choice-returns-in-Err-other_start-clause-makes
choice-returns-in-Err-other_start-clause-makes g t c =
    let named = c.args.named.now in
    let first = choices_patterns named c.args.branches.now in
    let last = other_patterns named c.args.other.now in
    refused-behind _ _ _ first last (first ++ last) c.in-Err-other_start.refusal refl c.in-Ok.ensures.only c.in-Err-other_start.ensures.makes

pub choice-returns-in-Ok-other_start-clause-makes : goal.choice-returns-in-Ok-other_start-clause-makes
choice-returns-in-Ok-other_start-clause-makes g t c =
    let named = c.args.named.now in
    valid-behind (g.B.Machine.state c.args.builder.now) (g.B.Machine.state c.tests.new.builder) (g.B.Machine.state c.other_start.new.builder) (choices_patterns named c.args.branches.now) (other_patterns named c.args.other.now) c.in-Ok.ensures.makes c.in-Ok-other_start.ensures.makes

pub element-choice-requires : goal.element-choice-requires
element-choice-requires g t c =
    let named = c.args.named.now in
    let same = ap (λ x. choice_size (choice_view named x c.in-If.other)) c.deref-in-If.ensures.value in
    let is = ap (λ (x : Element). size (element_view named x none_left)) c.in-If.is ∙ ap size (view-If named c.in-If.branches c.in-If.other none_left) in
    λ κs out. (omega (arith, same, is), (out, c.requires))

pub element-returns-in-Ok-siblings-clause-compiled : goal.element-returns-in-Ok-siblings-clause-compiled
element-returns-in-Ok-siblings-clause-compiled g t c =
    let named = c.args.named.now in
    let old = c.args.pipes.now.items in
    let mid = c.siblings.new.pipes.items in
    let s = steps_at old c.args.next in
    let channels = c.in-Ok-siblings.channels in
    let made = c.in-Ok-siblings.ensures.compiled in
    let below : c.args.next < length mid = omega (arith, grows-length old mid made.grows, c.requires) in
    record {
      grows = made.grows;
      below = (below, made.within);
      means = ap₂ (λ (x : List (Marks × Steps)) (y : Steps). junction (siblings_of x) y) (made.means ∙ ap (λ (x : List Path). map (own named) x) c.deref-in-Junction.ensures.value) (grows-kept old mid c.args.next made.grows c.requires)
          ∙ ap (λ (x : Siblings). junction x s) (siblings-own named c.in-Junction.channels.items)
          ∙ sym (ap (λ (e : Element). element_view named e s) c.in-Junction.is ∙ view-Junction named c.in-Junction.channels s);
    }

pub element-returns-in-If-clause-compiled : goal.element-returns-in-If-clause-compiled
element-returns-in-If-clause-compiled g t c =
    let named = c.args.named.now in
    let old = c.args.pipes.now.items in
    let mid = c.choice.new.pipes.items in
    let s = steps_at old c.args.next in
    let is : choose (choice_view named c.deref-in-If.result.now c.in-If.other) s ≡ element_view named c.args.element.now s =
    ap (λ bs. choose (choice_view named bs c.in-If.other) s) c.deref-in-If.ensures.value
    ∙ sym (ap (λ (e : Element). element_view named e s) c.in-If.is ∙ view-If named c.in-If.branches c.in-If.other s) in
    IfOk-weaker c.choice.result _ _ (λ made h. subst (MadePipe old mid made) is h) c.choice.ensures.compiled

pub element-returns-in-If-clause-makes : goal.element-returns-in-If-clause-makes
element-returns-in-If-clause-makes g t c =
    let named = c.args.named.now in
    let is : choices_patterns named c.deref-in-If.result.now ++ other_patterns named c.in-If.other ≡ element_patterns named c.args.element.now =
    ap (λ bs. choices_patterns named bs ++ other_patterns named c.in-If.other) c.deref-in-If.ensures.value
    ∙ sym (ap (element_patterns named) c.in-If.is ∙ patterns-If named c.in-If.branches c.in-If.other) in
    subst (λ (ps : PatternTexts). MakesPatterns (g.B.Machine.state c.args.builder.now) (g.B.Machine.state c.choice.new.builder) ps c.choice.result) is c.choice.ensures.makes

pub end-returns-then-is_empty-clause-compiled : goal.end-returns-then-is_empty-clause-compiled
end-returns-then-is_empty-clause-compiled g t c =
    let named = c.args.named.now in
    let old = c.args.pipes.now.items in
    let emb = c.args.embedded.now in
    let is = behind-none named emb (zero-of (length emb) c.if-is_empty.ensures) in
    let put = c.in_ok-push.ensures.value in
    pushed old old c.push.new.pipes.items pipe.End c.in_ok-push.field-0 (steps_view named [] emb) (record { grows = grows-none old; below = tt; means = is }) put.0 put.1

pub end-returns-in_ok-push-in-Ok-clause-compiled : goal.end-returns-in_ok-push-in-Ok-clause-compiled
end-returns-in_ok-push-in-Ok-clause-compiled g t c =
    let named = c.args.named.now in
    let old = c.args.pipes.now.items in
    let mid = c.siblings.new.pipes.items in
    let emb = c.args.embedded.now in
    let logs = c.in-Ok.logs in
    let made = c.in-Ok.ensures.compiled in
    let is : embedded (siblings_of (branches_at (steps_at mid) logs.items)) ≡ steps_view named [] emb =
    ap (λ (x : List (Marks × Steps)). embedded (siblings_of x)) made.means ∙ ap embedded (siblings-own named emb)
    ∙ behind-some named emb (not-zero (length emb) c.if-is_empty.ensures) in
    let put = c.in_ok-push-in-Ok.ensures.value in
    pushed old mid c.push-in-Ok.new.pipes.items (pipe.Embedded logs) c.in_ok-push-in-Ok.field-0 (steps_view named [] emb) (record { grows = made.grows; below = made.within; means = is }) put.0 put.1

pub list-element-requires : goal.list-element-requires
list-element-requires g t c =
    let named = c.args.named.now in
    let els = c.args.elements.now in
    let i = c.loop-i.i in
    let e = c.index-elements-i.result in
    let is : size (element_view named e none_left) ≡ size (element_view named (get_or els (i - 1) e) none_left) = ap (λ (x : Element). size (element_view named x none_left)) c.index-elements-i.is in
    λ κs out. (omega (arith, is, item-size named els (i - 1) e (omega arith)), (out, c.loop-i.invariant.compiled.within))

pub list-loop-i-preserved : goal.list-loop-i-preserved
list-loop-i-preserved g t c =
    let named = c.args.named.now in
    let els = c.args.elements.now in
    let i = c.loop-i.i in
    let j = i - 1 in
    let e = c.index-elements-i.result in
    let old = c.args.pipes.now.items in
    let cur = c.loop-i.pipes.items in
    let mid = c.element.new.pipes.items in
    let new = c.push.new.pipes.items in
    let s = steps_at old c.args.next in
    let inv = c.loop-i.invariant in
    let put = c.in_ok-first-in-Ok.ensures.value in
    let one = pushed cur mid new c.in-Ok.pipe c.in_ok-first-in-Ok.first (element_view named e (steps_at cur c.loop-i.first)) c.in-Ok.ensures.compiled put.0 put.1 in
    let next : j + 1 ≡ i = omega arith in
    let here : drop j els ≡ e ∷ drop i els = drop_more els j e (omega arith) ∙ ap₂ (λ (x : Element) (n : ℕ). x ∷ drop n els) (sym c.index-elements-i.is) next in
    record {
      compiled = record {
        grows = grows-more old cur new inv.compiled.grows one.grows;
        within = one.within;
        means = one.means ∙ ap (element_view named e) inv.compiled.means ∙ ap (λ (xs : List Element). in_front (map (element_view named) xs) s) (sym here);
      };
      valid = subst (λ (xs : List Element). AreValid (list_patterns named xs)) (sym here) (valid-append (element_patterns named e) (list_patterns named (drop i els)) c.in-Ok.ensures.makes.0 inv.valid);
      stays = c.in-Ok.ensures.makes.1 ∙ inv.stays;
      only = only-more _ _ _ inv.only c.in-Ok.ensures.only;
    }

pub list-returns-in-Err-clause-makes : goal.list-returns-in-Err-clause-makes
list-returns-in-Err-clause-makes g t c =
    let e = c.index-elements-i.result in
    refused-item (element_patterns c.args.named.now) c.args.elements.now (c.loop-i.i - 1) e e _ _ _ c.in-Err.refusal (omega arith) c.index-elements-i.is c.loop-i.invariant.only c.in-Err.ensures.makes

pub path-end-requires : goal.path-end-requires
path-end-requires g t c =
    let named = c.args.named.now in
    let p = c.args.path.now in
    let same = ap (λ (x : List Path). size (steps_view named [] x)) c.deref.ensures.value in
    λ κs out. (omega (arith, same, list-size named (out-Path p).elements.items (steps_view named [] (out-Path p).embedded.items), at-least (steps_view named (out-Path p).elements.items [])), out)

pub path-returns-in-Err-clause-makes : goal.path-returns-in-Err-clause-makes
path-returns-in-Err-clause-makes g t c =
    let named = c.args.named.now in
    let p = c.args.path.now in
    let old = g.B.Machine.state c.args.builder.now in
    let new = g.B.Machine.state c.end.new.builder in
    let why = c.in-Err.refusal in
    refused-behind old old new (list_patterns named (out-Path p).elements.items) (siblings_patterns named (out-Path p).embedded.items) (path_patterns named p) why (patterns-Path named p)
    (only-none old) (subst (λ (x : List Path). RefusesPatterns old new (siblings_patterns named x) why) c.deref.ensures.value c.in-Err.ensures.makes)

pub path-list-requires : goal.path-list-requires
path-list-requires g t c =
    let named = c.args.named.now in
    let p = c.args.path.now in
    let same = ap (λ (x : List Element). size (steps_view named x [])) c.deref-2.ensures.value in
    λ κs out. (omega (arith, same, list-size named (out-Path p).elements.items (steps_view named [] (out-Path p).embedded.items), at-least (steps_view named [] (out-Path p).embedded.items)), (out, c.in-Ok.ensures.compiled.within))

pub path-returns-clause-makes : goal.path-returns-clause-makes
path-returns-clause-makes g t c =
    let named = c.args.named.now in
    let p = c.args.path.now in
    let old = g.B.Machine.state c.args.builder.now in
    let mid = g.B.Machine.state c.end.new.builder in
    let new = g.B.Machine.state c.list.new.builder in
    makes-front old mid new (list_patterns named (out-Path p).elements.items) (siblings_patterns named (out-Path p).embedded.items) (path_patterns named p) c.list.result (patterns-Path named p)
    (subst (λ (x : List Path). AreValid (siblings_patterns named x)) c.deref.ensures.value c.in-Ok.ensures.makes.0, c.in-Ok.ensures.makes.1) c.in-Ok.ensures.only
    (subst (λ (x : List Element). MakesPatterns mid new (list_patterns named x) c.list.result) c.deref-2.ensures.value c.list.ensures.makes)

pub siblings-path-requires : goal.siblings-path-requires
siblings-path-requires g t c =
    let named = c.args.named.now in
    let ps = c.args.paths.now in
    let i = c.loop-one.one-index in
    let p = c.one-item.result in
    let is : size (own_steps named p) ≡ size (own_steps named (get_or ps i p)) = ap (λ (x : Path). size (own_steps named x)) c.one-item.is in
    λ κs out. (omega (arith, is, sibling-size named ps i p (omega arith)), out)

pub siblings-returns-in-Err-clause-makes : goal.siblings-returns-in-Err-clause-makes
siblings-returns-in-Err-clause-makes g t c =
    let p = c.one-item.result in
    refused-item (path_patterns c.args.named.now) c.args.paths.now c.loop-one.one-index p p _ _ _ c.in-Err.refusal (omega arith) c.one-item.is c.loop-one.invariant.only c.in-Err.ensures.makes

pub siblings-loop-one-preserved : goal.siblings-loop-one-preserved
siblings-loop-one-preserved g t c =
    let named = c.args.named.now in
    let ps = c.args.paths.now in
    let i = c.loop-one.one-index in
    let p = c.one-item.result in
    let inv = c.loop-one.invariant in
    let next : take (i + 1) ps ≡ take i ps ++ p ∷ [] = take_more ps i p (omega arith) ∙ ap (λ y. take i ps ++ y ∷ []) (sym c.one-item.is) in
    record {
      compiled = one-sibling named c.args.pipes.now.items c.loop-one.pipes.items c.path.new.pipes.items c.loop-one.branches.items c.append.new.items.items c.branch_of.result c.in-Ok.start p
          (map (own named) (take i ps)) (map (own named) (take (i + 1) ps)) inv.compiled c.in-Ok.ensures.compiled c.branch_of.ensures.0 c.branch_of.ensures.1 c.in_ok-append-in-Ok.ensures
          (map-last-at (own named) (take i ps) (take (i + 1) ps) p next);
      valid = valid-last (map (path_patterns named) (take i ps)) (path_patterns named p) (map (path_patterns named) (take (i + 1) ps)) inv.valid c.in-Ok.ensures.makes.0 (map-last-at (path_patterns named) (take i ps) (take (i + 1) ps) p next);
      stays = c.in-Ok.ensures.makes.1 ∙ inv.stays;
      only = only-more _ _ _ inv.only c.in-Ok.ensures.only;
    }

pub test-returns-in_Err-start-clause-makes : goal.test-returns-in_Err-start-clause-makes
test-returns-in_Err-start-clause-makes g t c =
    let named = c.args.named.now in
    let first = patterns_of named c.args.expr.now in
    let last = list_patterns named c.args.elements.now in
    refused-behind _ _ _ first last (first ++ last) c.in_Err-start.refusal refl c.in-Ok.ensures.only c.in_Err-start.ensures.makes

pub tests-test-requires : goal.tests-test-requires
tests-test-requires g t c =
    let named = c.args.named.now in
    let bs = c.args.branches.now in
    let i = c.loop-branch.branch-index in
    let b = c.branch-item.result in
    let same = ap (λ (x : List Element). size (steps_view named x [])) c.deref.ensures.value in
    let is : size (steps_view named b.1.items []) ≡ size (steps_view named (get_or bs i b).1.items []) = ap (λ (x : Expr × Vec Element Global). size (steps_view named x.1.items [])) c.branch-item.is in
    λ κs out. (omega (arith, same, is, branch-size named bs i b (omega arith)), out)

pub tests-returns-in-Err-clause-makes : goal.tests-returns-in-Err-clause-makes
tests-returns-in-Err-clause-makes g t c =
    let named = c.args.named.now in
    let b = c.branch-item.result in
    let why = c.in-Err.refusal in
    let cur = g.B.Machine.state c.loop-branch.builder in
    let new = g.B.Machine.state c.test.new.builder in
    refused-item (branch_patterns named) c.args.branches.now c.loop-branch.branch-index b b _ cur new why (omega arith) c.branch-item.is c.loop-branch.invariant.only
    (subst (λ (x : List Element). RefusesPatterns cur new (patterns_of named b.0 ++ list_patterns named x) why) c.deref.ensures.value c.in-Err.ensures.makes)

pub tests-loop-branch-preserved : goal.tests-loop-branch-preserved
tests-loop-branch-preserved g t c =
    let named = c.args.named.now in
    let bs = c.args.branches.now in
    let i = c.loop-branch.branch-index in
    let b = c.branch-item.result in
    let inv = c.loop-branch.invariant in
    let next : take (i + 1) bs ≡ take i bs ++ b ∷ [] = take_more bs i b (omega arith) ∙ ap (λ y. take i bs ++ y ∷ []) (sym c.branch-item.is) in
    let one = subst (λ (x : List Element). Compiled c.loop-branch.pipes.items c.test.new.pipes.items c.in-Ok.test.start (steps_view named x [])) c.deref.ensures.value c.in-Ok.ensures.compiled in
    record {
      compiled = one-test named c.args.pipes.now.items c.loop-branch.pipes.items c.test.new.pipes.items c.loop-branch.tests.items c.append.new.items.items c.in-Ok.test b
          (choices named (take i bs)) (choices named (take (i + 1) bs)) inv.compiled one c.in-Ok.ensures.filter c.in_ok-append-in-Ok.ensures
          (map-last-at (λ (x : Expr × Vec Element Global). (decision_of named x.0, steps_view named x.1.items [])) (take i bs) (take (i + 1) bs) b next);
      valid = valid-last (map (branch_patterns named) (take i bs)) (branch_patterns named b) (map (branch_patterns named) (take (i + 1) bs)) inv.valid
          (subst (λ (x : List Element). AreValid (patterns_of named b.0 ++ list_patterns named x)) c.deref.ensures.value c.in-Ok.ensures.makes.0)
          (map-last-at (branch_patterns named) (take i bs) (take (i + 1) bs) b next);
      stays = c.in-Ok.ensures.makes.1 ∙ inv.stays;
      only = only-more _ _ _ inv.only c.in-Ok.ensures.only;
    }
