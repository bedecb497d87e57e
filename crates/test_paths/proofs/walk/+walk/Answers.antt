use Rattle.std.proofs.Common.{◌≡◌, ℕ, ◌+◌, suc, ◌≤◌, List, [], ◌∷◌, ◌++◌, Bool, true, false, drop, Vec, refl, sym, ap, ◌∙◌, arith}
use Rattle.std.specs.Prelude.{cond, ◌&&◌}
use Rattle.std.proofs.lemmas.List.{drop_more, drop_all}
use Rattle.std.specs.declared.alloc.Global.{Global}
use Rattle.sg_msg.specs.declared.offer.Offer.{Offer}
use Rattle.sg_tree.specs.declared.tree.Element.{Element}
use Rattle.sg_tree.specs.declared.tree.Path.{Path}
use Rattle.sg_filter.specs.Decisions.{decides, decision_of}
use Rattle.sg_parsers.specs.Parsed.{rule_takes}
use Rattle.sg_tree.specs.Rules.{rule_of}
use Rattle.sg_tree.specs.Walk.{Steps, walk, round, chosen, branches, then_each, deliveries_to, both, size, siblings_size, choice_size}
use Rattle.sg_tree.specs.Plain.{steps_view, siblings_view, choice_view, marks}
use Rattle.test_paths.specs.Gives.{GivesWalked}
use Rattle.sg_tree.proofs.Turning.{in-round}
use Rattle.test_paths.proofs.Going.{goes-on, sofar-at}
use Rattle.test_paths.proofs.Turning.{ok-at, at-Filter, at-Rewrite, at-Parse, at-Deliver, at-Junction, at-If, at-Path, mine, later, round-skips, round-goes-on, filter-on, rewrite-on, parse-on, parse-off, deliver-on, stops, moved, then-ok, behind-ok, behind-size}
use Rattle.test_paths.proofs.walk.+walk.Goals as goal
use Rattle.test_paths.proofs.walk.+walk.Goals.{walk-in-Filter+in_ok-holds-in-Filter+else-not-branch, walk-in-Rewrite+in_ok-rewrite-in-Rewrite, walk-in-Parse+in_ok-taken-in-Parse+else-not-taken, walk-in-Deliver+in_ok-deliver-in-Deliver, round-then-path-late+in_ok-mine+in_ok-join+else-ends, round-else-path-late}

pub choose-walk-requires : goal.choose-walk-requires
choose-walk-requires g t c =
    let named = c.args.named.now in
    let xs = c.args.tests.now in
    let o = c.args.other.now in
    let i = c.loop-branch.branch-index in
    let b = c.branch-item.result in
    let here : drop i xs ≡ b ∷ drop (i + 1) xs = drop_more xs i b (omega arith) ∙ ap (λ y. y ∷ drop (i + 1) xs) (sym c.branch-item.is) in
    let sized : choice_size (choice_view named (drop i xs) o) ≡ suc (size (steps_view named b.1.items []) + choice_size (choice_view named (drop (i + 1) xs) o)) = ap (λ ys. choice_size (choice_view named ys o)) here in
    let same : size (steps_view named c.deref.result.now []) ≡ size (steps_view named b.1.items []) = ap (λ (ys : List Element). size (steps_view named ys [])) c.deref.ensures.value in
    λ κs out. (omega (arith, sized, same, c.loop-branch.invariant.1), out)

pub choose-returns-then-branch : goal.choose-returns-then-branch
choose-returns-then-branch g t c =
    let named = c.args.named.now in
    let xs = c.args.tests.now in
    let o = c.args.other.now in
    let i = c.loop-branch.branch-index in
    let b = c.branch-item.result in
    let m = c.args.message in
    let f = c.args.flow in
    let here : drop i xs ≡ b ∷ drop (i + 1) xs = drop_more xs i b (omega arith) ∙ ap (λ y. y ∷ drop (i + 1) xs) (sym c.branch-item.is) in
    let on : decides (decision_of named b.0) m ≡ true = sym c.in_ok-holds.ensures ∙ c.if-branch.true in
    let taken : chosen (choice_view named xs o) c.args.message f ≡ walk (steps_view named b.1.items []) m f =
    c.loop-branch.invariant.0 ∙ ap (λ ys. chosen (choice_view named ys o) m f) here ∙ ap (λ (y : Bool). cond y (walk (steps_view named b.1.items []) m f) (chosen (choice_view named (drop (i + 1) xs) o) m f)) on in
    let same : walk (steps_view named c.deref.result.now []) m f ≡ walk (steps_view named b.1.items []) m f = ap (λ (ys : List Element). walk (steps_view named ys []) m f) c.deref.ensures.value in
    ok-at c.walk.result _ _ _ _ _ c.loop-branch.invariant.2 (same ∙ sym taken) c.walk.ensures

pub choose-walk-requires-in-Some : goal.choose-walk-requires-in-Some
choose-walk-requires-in-Some g t c =
    let named = c.args.named.now in
    let xs = c.args.tests.now in
    let i = c.loop-branch.branch-index in
    let none : drop i xs ≡ [] = drop_all i xs c.loop-branch-test.false in
    let sized : choice_size (choice_view named (drop i xs) c.args.other.now) ≡ suc (size (steps_view named c.in-Some.elements.items [])) = ap (λ ys. choice_size (choice_view named ys c.args.other.now)) none ∙ ap (λ o. choice_size (choice_view named [] o)) c.in-Some.is in
    let same : size (steps_view named c.deref-in-Some.result.now []) ≡ size (steps_view named c.in-Some.elements.items []) = ap (λ (ys : List Element). size (steps_view named ys [])) c.deref-in-Some.ensures.value in
    λ κs out. (omega (arith, sized, same, c.loop-branch.invariant.1), out)

pub choose-walk-requires-in-None : goal.choose-walk-requires-in-None
choose-walk-requires-in-None g t c =
    let named = c.args.named.now in
    let xs = c.args.tests.now in
    let i = c.loop-branch.branch-index in
    let none : drop i xs ≡ [] = drop_all i xs c.loop-branch-test.false in
    let sized : choice_size (choice_view named (drop i xs) c.args.other.now) ≡ 3 = ap (λ ys. choice_size (choice_view named ys c.args.other.now)) none ∙ ap (λ o. choice_size (choice_view named [] o)) c.in-None.is in
    λ κs out. (omega (arith, sized, c.loop-branch.invariant.1), out)

pub choose-returns-in-Some : goal.choose-returns-in-Some
choose-returns-in-Some g t c =
    let named = c.args.named.now in
    let xs = c.args.tests.now in
    let i = c.loop-branch.branch-index in
    let m = c.args.message in
    let f = c.args.flow in
    let none : drop i xs ≡ [] = drop_all i xs c.loop-branch-test.false in
    let taken : chosen (choice_view named xs c.args.other.now) c.args.message f ≡ walk (steps_view named c.in-Some.elements.items []) m f =
    c.loop-branch.invariant.0 ∙ ap (λ ys. chosen (choice_view named ys c.args.other.now) m f) none ∙ ap (λ o. chosen (choice_view named [] o) m f) c.in-Some.is in
    let same : walk (steps_view named c.deref-in-Some.result.now []) m f ≡ walk (steps_view named c.in-Some.elements.items []) m f = ap (λ (ys : List Element). walk (steps_view named ys []) m f) c.deref-in-Some.ensures.value in
    ok-at c.walk-in-Some.result _ _ _ _ _ c.loop-branch.invariant.2 (same ∙ sym taken) c.walk-in-Some.ensures

pub choose-returns-in-None : goal.choose-returns-in-None
choose-returns-in-None g t c =
    let named = c.args.named.now in
    let xs = c.args.tests.now in
    let i = c.loop-branch.branch-index in
    let m = c.args.message in
    let f = c.args.flow in
    let none : drop i xs ≡ [] = drop_all i xs c.loop-branch-test.false in
    let taken : chosen (choice_view named xs c.args.other.now) c.args.message f ≡ walk (steps_view named [] []) m f =
    c.loop-branch.invariant.0 ∙ ap (λ ys. chosen (choice_view named ys c.args.other.now) m f) none ∙ ap (λ o. chosen (choice_view named [] o) m f) c.in-None.is in
    ok-at c.walk-in-None.result _ _ _ _ _ c.loop-branch.invariant.2 (sym taken) c.walk-in-None.ensures

pub walk-returns-then-not-taken : goal.walk-returns-then-not-taken
walk-returns-then-not-taken g t c =
    let named = c.args.named.now in
    let xs = c.args.elements.now in
    let i = c.loop-at.at in
    let e = c.index-elements-at.result in
    let f = c.args.flow in
    let m = c.loop-at.message in
    let logs = c.args.embedded.now in
    let old = c.args.offers.now.items in
    let had = c.loop-at.offers.items in
    let whole = walk (steps_view named xs logs) c.args.message f in
    let rest = steps_view named (drop (i + 1) xs) logs in
    let steps = steps_view named (drop i xs) logs in
    let here : drop i xs ≡ e ∷ drop (i + 1) xs = drop_more xs i e (omega arith) ∙ ap (λ y. y ∷ drop (i + 1) xs) (sym c.index-elements-at.is) in
    let is = at-Parse named (drop i xs) (drop (i + 1) xs) logs e here c.in-Parse.rule c.in-Parse.is in
    let off : rule_takes c.in-Parse.rule m ≡ false = sym c.in_ok-taken-in-Parse.ensures.taken ∙ c.if-not-taken.true in
    stops old had whole _ (parse-off old had whole steps rest m f c.loop-at.invariant.0 c.in-Parse.rule is off) c.new-then-not-taken.ensures.items refl

pub walk-walk_junction-requires : goal.walk-walk_junction-requires
walk-walk_junction-requires g t c =
    let named = c.args.named.now in
    let xs = c.args.elements.now in
    let i = c.loop-at.at in
    let e = c.index-elements-at.result in
    let here : drop i xs ≡ e ∷ drop (i + 1) xs = drop_more xs i e (omega arith) ∙ ap (λ y. y ∷ drop (i + 1) xs) (sym c.index-elements-at.is) in
    let sized = ap size (at-Junction named (drop i xs) (drop (i + 1) xs) c.args.embedded.now e here c.in-Junction.channels c.in-Junction.is) in
    let same : siblings_size (siblings_view named c.deref-in-Junction.result.now) ≡ siblings_size (siblings_view named c.in-Junction.channels.items) = ap (λ (ps : List Path). siblings_size (siblings_view named ps)) c.deref-in-Junction.ensures.value in
    let behind : size (steps_view named c.elements_from.result.now c.args.embedded.now) ≡ size (steps_view named (drop (i + 1) xs) c.args.embedded.now) = ap (λ (ys : List Element). size (steps_view named ys c.args.embedded.now)) c.elements_from.ensures in
    λ κs out. (omega (arith, sized, same, behind, c.loop-at.invariant.1), out)

pub walk-returns-in-Junction : goal.walk-returns-in-Junction
walk-returns-in-Junction g t c =
    let named = c.args.named.now in
    let xs = c.args.elements.now in
    let i = c.loop-at.at in
    let e = c.index-elements-at.result in
    let f = c.args.flow in
    let m = c.loop-at.message in
    let logs = c.args.embedded.now in
    let here : drop i xs ≡ e ∷ drop (i + 1) xs = drop_more xs i e (omega arith) ∙ ap (λ y. y ∷ drop (i + 1) xs) (sym c.index-elements-at.is) in
    let is = at-Junction named (drop i xs) (drop (i + 1) xs) logs e here c.in-Junction.channels c.in-Junction.is in
    let w = branches (siblings_view named c.deref-in-Junction.result.now) m f in
    let same = ap (λ (ps : List Path). then_each (branches (siblings_view named ps) m f) (λ n. walk (steps_view named (drop (i + 1) xs) logs) n f)) c.deref-in-Junction.ensures.value in
    let behind = ap (λ (ys : List Element). then_each w (λ n. walk (steps_view named ys logs) n f)) c.elements_from.ensures in
    behind-ok c.walk_junction.result _ _ _ _ _ (then_each w (λ n. walk (steps_view named c.elements_from.result.now logs) n f)) c.loop-at.invariant.0
    (ap (λ (s : Steps). walk s m f) is ∙ sym same ∙ sym behind) c.walk_junction.ensures

pub walk-walk_if-requires : goal.walk-walk_if-requires
walk-walk_if-requires g t c =
    let named = c.args.named.now in
    let xs = c.args.elements.now in
    let i = c.loop-at.at in
    let e = c.index-elements-at.result in
    let here : drop i xs ≡ e ∷ drop (i + 1) xs = drop_more xs i e (omega arith) ∙ ap (λ y. y ∷ drop (i + 1) xs) (sym c.index-elements-at.is) in
    let sized = ap size (at-If named (drop i xs) (drop (i + 1) xs) c.args.embedded.now e here c.in-If.tests c.in-If.other c.in-If.is) in
    let same = ap (λ ps. choice_size (choice_view named ps c.in-If.other)) c.deref-in-If.ensures.value in
    let behind : size (steps_view named c.elements_from-in-If.result.now c.args.embedded.now) ≡ size (steps_view named (drop (i + 1) xs) c.args.embedded.now) = ap (λ (ys : List Element). size (steps_view named ys c.args.embedded.now)) c.elements_from-in-If.ensures in
    λ κs out. (omega (arith, sized, same, behind, c.loop-at.invariant.1), out)

pub walk-returns-in-If : goal.walk-returns-in-If
walk-returns-in-If g t c =
    let named = c.args.named.now in
    let xs = c.args.elements.now in
    let i = c.loop-at.at in
    let e = c.index-elements-at.result in
    let f = c.args.flow in
    let m = c.loop-at.message in
    let logs = c.args.embedded.now in
    let here : drop i xs ≡ e ∷ drop (i + 1) xs = drop_more xs i e (omega arith) ∙ ap (λ y. y ∷ drop (i + 1) xs) (sym c.index-elements-at.is) in
    let is = at-If named (drop i xs) (drop (i + 1) xs) logs e here c.in-If.tests c.in-If.other c.in-If.is in
    let w = chosen (choice_view named c.deref-in-If.result.now c.in-If.other) m f in
    let same = ap (λ ps. then_each (chosen (choice_view named ps c.in-If.other) m f) (λ n. walk (steps_view named (drop (i + 1) xs) logs) n f)) c.deref-in-If.ensures.value in
    let behind = ap (λ (ys : List Element). then_each w (λ n. walk (steps_view named ys logs) n f)) c.elements_from-in-If.ensures in
    behind-ok c.walk_if.result _ _ _ _ _ (then_each w (λ n. walk (steps_view named c.elements_from-in-If.result.now logs) n f)) c.loop-at.invariant.0
    (ap (λ (s : Steps). walk s m f) is ∙ sym same ∙ sym behind) c.walk_if.ensures

pub walk_junction-returns : goal.walk_junction-returns
walk_junction-returns g t c =
    then-ok c.rest.result _ _ _ _ (branches (siblings_view c.args.named.now c.args.channels.now) c.args.message.now c.args.flow)
    (λ n. walk (steps_view c.args.named.now c.args.elements.now c.args.embedded.now) n c.args.flow) c.in_ok-first.ensures c.rest.ensures

pub walk_if-returns : goal.walk_if-returns
walk_if-returns g t c =
    then-ok c.rest.result _ _ _ _ (chosen (choice_view c.args.named.now c.args.tests.now c.args.other.now) c.args.message c.args.flow)
    (λ n. walk (steps_view c.args.named.now c.args.elements.now c.args.embedded.now) n c.args.flow) c.in_ok-first.ensures c.rest.ensures

pub walk-loop-at-preserved : goal.walk-loop-at-preserved
walk-loop-at-preserved g t c =
    let named = c.args.named.now in
    let xs = c.args.elements.now in
    let i = c.loop-at.at in
    let e = c.index-elements-at.result in
    let f = c.args.flow in
    let m = c.loop-at.message in
    let logs = c.args.embedded.now in
    let whole = walk (steps_view named xs logs) c.args.message f in
    let rest = steps_view named (drop (i + 1) xs) logs in
    let here : drop i xs ≡ e ∷ drop (i + 1) xs = drop_more xs i e (omega arith) ∙ ap (λ y. y ∷ drop (i + 1) xs) (sym c.index-elements-at.is) in
    let old = c.args.offers.now.items in
    let had = c.loop-at.offers.items in
    let new = c.match-elements-at.offers.items in
    let next = c.match-elements-at.message in
    let steps = steps_view named (drop i xs) logs in
    elim c.match-elements-at.branch [
      | walk-in-Filter+in_ok-holds-in-Filter+else-not-branch w ↦
          let is = at-Filter named (drop i xs) (drop (i + 1) xs) logs e here w.in-Filter.expr w.in-Filter.is in
          let sized = ap size is in
          let on : decides (decision_of named w.in-Filter.expr) m ≡ true = sym w.in_ok-holds-in-Filter.ensures ∙ w.if-not-branch.false in (
            moved old had new whole rest m next f (ap (λ (v : Vec Offer Global). v.items) w.offers-is) w.message-is (filter-on old had whole steps rest m f c.loop-at.invariant.0 (decision_of named w.in-Filter.expr) is on),
            omega (arith, sized, c.loop-at.invariant.1),
          )
      | walk-in-Rewrite+in_ok-rewrite-in-Rewrite w ↦
          let is = at-Rewrite named (drop i xs) (drop (i + 1) xs) logs e here w.in-Rewrite.rule w.in-Rewrite.is in
          let sized = ap size is in (
            moved old had new whole rest w.rewrite.new.message next f (ap (λ (v : Vec Offer Global). v.items) w.offers-is) w.message-is
                (rewrite-on old had whole steps rest m f c.loop-at.invariant.0 (rule_of named w.in-Rewrite.rule) w.rewrite.new.message is w.in_ok-rewrite-in-Rewrite.ensures),
            omega (arith, sized, c.loop-at.invariant.1),
          )
      | walk-in-Parse+in_ok-taken-in-Parse+else-not-taken w ↦
          let is = at-Parse named (drop i xs) (drop (i + 1) xs) logs e here w.in-Parse.rule w.in-Parse.is in
          let sized = ap size is in
          let on : rule_takes w.in-Parse.rule m ≡ true = sym w.in_ok-taken-in-Parse.ensures.taken ∙ w.if-not-taken.false in (
            moved old had new whole rest w.apply.new.message next f (ap (λ (v : Vec Offer Global). v.items) w.offers-is) w.message-is
                (parse-on old had whole steps rest m f c.loop-at.invariant.0 w.in-Parse.rule w.apply.new.message is on w.in_ok-taken-in-Parse.ensures.ok),
            omega (arith, sized, c.loop-at.invariant.1),
          )
      | walk-in-Deliver+in_ok-deliver-in-Deliver w ↦
          let is = at-Deliver named (drop i xs) (drop (i + 1) xs) logs e here w.in-Deliver.drivers w.in-Deliver.is in
          let sized = ap size is in
          let added = w.in_ok-deliver-in-Deliver.ensures ∙ ap (λ (ds : List ℕ). had ++ deliveries_to ds m f) w.deref.ensures.value in (
            moved old w.deliver.new.offers.items new whole rest m next f (ap (λ (v : Vec Offer Global). v.items) w.offers-is) w.message-is
                (deliver-on old had whole steps rest m f c.loop-at.invariant.0 w.in-Deliver.drivers.items w.deliver.new.offers.items is added),
            omega (arith, sized, c.loop-at.invariant.1),
          )
    ]

pub walk-branches-requires : goal.walk-branches-requires
walk-branches-requires g t c =
    let named = c.args.named.now in
    let xs = c.args.elements.now in
    let i = c.loop-at.at in
    let none : drop i xs ≡ [] = drop_all i xs c.loop-at-test.false in
    let sized : size (steps_view named (drop i xs) c.args.embedded.now) ≡ size (steps_view named [] c.args.embedded.now) = ap (λ (ys : List Element). size (steps_view named ys c.args.embedded.now)) none in
    λ κs out. (omega (arith, sized, behind-size named c.args.embedded.now, c.loop-at.invariant.1), out)

pub round-loop-path-preserved : goal.round-loop-path-preserved
round-loop-path-preserved g t c =
    let named = c.args.named.now in
    let ps = c.args.siblings.now in
    let i = c.loop-path.path-index in
    let p = c.path-item.result in
    let late = c.args.late in
    let f = c.args.flow in
    let m = c.args.message.now in
    let more = drop (i + 1) ps in
    let here : drop i ps ≡ p ∷ more = drop_more ps i p (omega arith) ∙ ap (λ y. y ∷ more) (sym c.path-item.is) in
    let old = c.args.offers.now.items in
    let had = c.loop-path.offers.items in
    let whole = round (siblings_view named ps) late m f in
    let sized = ap siblings_size (at-Path named (drop i ps) more p here) in
    let smaller : siblings_size (siblings_view named more) ≤ siblings_size (siblings_view named ps) = omega (arith, sized, c.loop-path.invariant.1) in
    elim c.if-path-late.branch [
      | round-then-path-late+in_ok-mine+in_ok-join+else-ends w ↦
          let turn = in-round late (marks p) true w.if-path-late.true in
          let next = w.in_ok-mine.mine in
          let took : GivesWalked had w.one.new.offers.items next (mine named (drop i ps) more p here late m f) = w.in_ok-mine.ensures in
          let last : ((mine named (drop i ps) more p here late m f).processed && (marks p).is_final) ≡ false = ap (λ (x : Bool). x && (marks p).is_final) (sym took.processed) ∙ w.if-ends.false in
          let so = sofar-at old had had c.loop-path.gone c.loop-path.gone whole _ (both (mine named (drop i ps) more p here late m f) (later named (drop i ps) more p here late m f)) refl refl (round-goes-on named (drop i ps) more p here late m f turn last) c.loop-path.invariant.0 in
          let joined = w.in_ok-join.ensures in (
            sofar-at old w.one.new.offers.items c.if-path-late.offers.items w.join.new.self c.if-path-late.gone whole _ _ (ap (λ (v : Vec Offer Global). v.items) w.offers-is) w.gone-is refl
                (goes-on old had w.one.new.offers.items c.loop-path.gone next w.join.new.self whole (mine named (drop i ps) more p here late m f) (later named (drop i ps) more p here late m f) so took joined.0 joined.1),
            smaller,
          )
      | round-else-path-late w ↦
          let turn = in-round late (marks p) false w.if-path-late.false in (
            sofar-at old had c.if-path-late.offers.items c.loop-path.gone c.if-path-late.gone whole _ _ (ap (λ (v : Vec Offer Global). v.items) w.offers-is) w.gone-is
                (round-skips named (drop i ps) more p here late m f turn) c.loop-path.invariant.0,
            smaller,
          )
    ]
