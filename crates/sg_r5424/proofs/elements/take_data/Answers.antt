use Rattle.std.proofs.Common.{◌≡◌, ℕ, List, ◌∷◌, length, drop, arith, subst, sym, ap, ◌∙◌}
use Rattle.sg_msg.specs.Build.{Build}
use Rattle.sg_r5424.specs.Data.{IsData}
use Rattle.sg_r5424.specs.Spans.{EndsItem}
use Rattle.sg_r5424.proofs.ElementLemmas.{so_far_more, so_far_end, so_far_stuck, element_shorter}
use Rattle.sg_r5424.proofs.EndLemmas.{ends-element}
use Rattle.sg_r5424.proofs.elements.take_data.Goals as goal

pub returns-then-not-first_is-2 : goal.returns-then-not-first_is-2
returns-then-not-first_is-2 c =
    let opens : c.take_text.new.text ≡ 91 ∷ drop 1 c.as_slice.result.now = sym c.as_slice.ensures ∙ c.if-not-first_is.ensures in
    let end = so_far_end c.take_text.new.text (drop 1 c.as_slice.result.now) c.args.builder.now c.elements.text c.elements.builder opens c.elements.invariant.1
    (λ rest h. c.if-not-first_is-2.ensures rest (c.as_slice-in-elements.ensures ∙ h)) in
    let kept = c.if-take_text.ensures.kept in
    let left = end.1.2 in (
      end.0,
      (subst (λ (x : List ℕ). IsData x end.0 c.elements.text) kept end.1.0, end.1.1, omega (arith, ap length kept)),
    )

pub returns-then-not-branch : goal.returns-then-not-branch
returns-then-not-branch c =
    let opens : c.take_text.new.text ≡ 91 ∷ drop 1 c.as_slice.result.now = sym c.as_slice.ensures ∙ c.if-not-first_is.ensures in
    let again : c.elements.text ≡ 91 ∷ drop 1 c.as_slice-in-elements.result.now = sym c.as_slice-in-elements.ensures ∙ c.if-not-first_is-2.ensures in
    let never = rw c.if-not-branch.true at c.in_ok-take_element.ensures in
    let stuck = so_far_stuck c.take_text.new.text (drop 1 c.as_slice.result.now) c.args.builder.now c.elements.text c.elements.builder (drop 1 c.as_slice-in-elements.result.now) opens c.elements.invariant.1 again never.0 in
    let kept = c.if-take_text.ensures.kept in
    let left = never.1 in
    let so_far = c.elements.invariant.1.shorter in (
      λ pairs rest h. stuck pairs rest (subst (λ (x : List ℕ). IsData x pairs rest) (sym kept) h),
      omega (arith, ap length kept),
    )

pub elements-smaller : goal.elements-smaller
elements-smaller c =
    let one = rw c.if-not-branch.false at c.in_ok-take_element.ensures in
    element_shorter c.elements.text one.0 c.take_element.new.text one.1.0

pub elements-preserved : goal.elements-preserved
elements-preserved c =
    let one = rw c.if-not-branch.false at c.in_ok-take_element.ensures in (
      ends-element c.args.builder.now.item c.elements.text one.0 c.take_element.new.text one.1.0 c.elements.invariant.0,
      so_far_more c.take_text.new.text c.args.builder.now c.elements.text c.elements.builder one.0 c.take_element.new.text c.take_element.new.builder c.elements.invariant.1 one.1.0 one.1.2 one.1.1,
    )

pub take_element-requires : goal.take_element-requires
take_element-requires c =
    let same : c.elements.builder.item ≡ c.args.builder.now.item = ap (λ (b : Build). b.item) c.elements.invariant.1.set in
    (subst (λ (i : List ℕ). EndsItem i c.elements.text) (sym same) c.elements.invariant.0, ap length same ∙ c.requires.1)
