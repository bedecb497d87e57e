-- A turn at a sibling.
use Rattle.std.proofs.Common.{◌≡◌, ℕ, zero, suc, ◌+◌, Bool, true, false, List, [], ◌∷◌, ◌++◌, drop, Some, None, refl, sym, ap, ◌∙◌, arith}
use mathlib.Core.Bool.{beq}
use Rattle.std.specs.Prelude.{◌&&◌, ◌||◌, cond, slice_get}
use Rattle.std.proofs.lemmas.List.{append-nil}
use Rattle.sg_msg.specs.Message.{Content}
use Rattle.sg_msg.specs.declared.offer.Offer.{Offer}
use Rattle.sg_tree.specs.Walk.{WalkResult, Siblings, no_siblings, sibling, walk, round, both, after_deliveries, counted, up_to_final, stopped}
use Rattle.sg_tree.proofs.Going.{walked, or-false}
use Rattle.sg_tree.proofs.Turning.{in-round}
use Rattle.sg_table.specs.declared.pipe.Branch.{Branch}
use Rattle.sg_table.specs.declared.pipe.Pipe.{Pipe}
use Rattle.sg_table.specs.Table.{marks, siblings_of, branches_at, steps_at}
use Rattle.sg_pipes.specs.declared.frame.SiblingTrial.{SiblingTrial}
use Rattle.sg_pipes.specs.declared.frame.WalkFrame.TheVariants.{Tried}
use Rattle.sg_pipes.specs.Frames.{group_of, with_left, trying, from, tries, does}
use Rattle.sg_pipes.specs.Messages.{messages_of}
use Rattle.sg_pipes.proofs.Steps.{before, round-over, round-passes, round-walks}

pub none-left : (xs : List Branch) (i : ℕ) → slice_get xs i ≡ None → drop i xs ≡ []
none-left [] zero e = refl
none-left [] (suc i) e = refl
none-left (x ∷ xs) zero e = absurd (cc)
none-left (x ∷ xs) (suc i) e = none-left xs i e

pub some-left : (xs : List Branch) (i : ℕ) (b : Branch) → slice_get xs i ≡ Some b → drop i xs ≡ b ∷ drop (suc i) xs
some-left [] zero b e = absurd (cc)
some-left [] (suc i) b e = absurd (cc)
some-left (x ∷ xs) zero b e = let same : x ≡ b = cc in ap (λ (y : Branch). y ∷ xs) same
some-left (x ∷ xs) (suc i) b e = some-left xs i b e

module _ (pipes : List Pipe) (offered : List Branch) (trial : SiblingTrial) (d : List Offer) where
  abbrev list : List Branch
  list = group_of offered pipes trial.group

  abbrev all : Siblings
  all = from pipes offered trial.group 0

  abbrev start : WalkResult
  start = with_left trial.left (before d)

  none-from : slice_get list trial.index ≡ None → from pipes offered trial.group trial.index ≡ no_siblings
  none-from e = ap (λ (bs : List Branch). siblings_of (branches_at (steps_at pipes) bs)) (none-left list trial.index e)

  over : slice_get list trial.index ≡ None
      → tries pipes offered trial start ≡ cond (trial.late || start.processed) start (trying true start all all trial.message trial.flow)
  over e = round-over trial.late start all trial.message trial.flow (from pipes offered trial.group trial.index) (ap (λ (s : Siblings). round s trial.late trial.message trial.flow) (none-from e))

  same-p : (b : Bool) → (trial.late || trial.left.processed) ≡ b → (trial.late || start.processed) ≡ b
  same-p b e = ap (λ (x : Bool). trial.late || x) (or-false trial.left.processed) ∙ e

  pub over-done : slice_get list trial.index ≡ None → (trial.late || trial.left.processed) ≡ true
      → walked d (messages_of trial.left.out) trial.left.processed ≡ tries pipes offered trial start
  over-done e h =
      (λ i. walked d (sym (append-nil (messages_of trial.left.out)) i) (sym (or-false trial.left.processed) i))
      ∙ sym (over e ∙ ap (λ (x : Bool). cond x start (trying true start all all trial.message trial.flow)) (same-p true h))

  pub over-again : slice_get list trial.index ≡ None → (trial.late || trial.left.processed) ≡ false
      → trying true start all all trial.message trial.flow ≡ tries pipes offered trial start
  over-again e h = sym (over e ∙ ap (λ (x : Bool). cond x start (trying true start all all trial.message trial.flow)) (same-p false h))

  module _ (b : Branch) (n : ℕ) (e : slice_get list trial.index ≡ Some b) (next : n ≡ trial.index + 1) where
    abbrev rest : Siblings
    rest = from pipes offered trial.group n

    some-from : from pipes offered trial.group trial.index ≡ sibling (marks b) (steps_at pipes b.start) rest
    some-from =
        let k : suc trial.index ≡ n = omega arith in
        ap (λ (bs : List Branch). siblings_of (branches_at (steps_at pipes) bs)) (some-left list trial.index b e ∙ ap (λ (j : ℕ). b ∷ drop j list) k)

    abbrev mine : WalkResult
    mine = counted (marks b) (walk (steps_at pipes b.start) trial.message (trial.flow || b.flow))

    turned : (x : Bool) → beq b.fallback trial.late ≡ x
        → round (from pipes offered trial.group trial.index) trial.late trial.message trial.flow
        ≡ cond x (up_to_final b.is_final mine (round rest trial.late trial.message trial.flow)) (round rest trial.late trial.message trial.flow)
    turned x h =
        ap (λ (s : Siblings). round s trial.late trial.message trial.flow) some-from
        ∙ ap (λ (y : Bool). cond y (up_to_final b.is_final mine (round rest trial.late trial.message trial.flow)) (round rest trial.late trial.message trial.flow)) (in-round trial.late (marks b) x h)

    pub passes : beq b.fallback trial.late ≡ false → trying trial.late start rest all trial.message trial.flow ≡ tries pipes offered trial start
    passes h = sym (round-passes trial.late start (from pipes offered trial.group trial.index) rest all trial.message trial.flow (turned false h))

    -- a sibling that stops the message leaves nothing
    pub leaves-none : beq b.fallback trial.late ≡ true → walk (steps_at pipes b.start) trial.message (trial.flow || b.flow) ≡ stopped → b.drop_unmatched ≡ false
        → trying trial.late start rest all trial.message trial.flow ≡ tries pipes offered trial start
    leaves-none h stops dropped =
        let more = round rest trial.late trial.message trial.flow in
        sym (round-passes trial.late start (from pipes offered trial.group trial.index) rest all trial.message trial.flow
        (turned true h ∙ ap (λ (w : WalkResult). up_to_final b.is_final (counted (marks b) w) more) stops ∙ ap (λ (x : Bool). up_to_final b.is_final (record stopped { processed = x }) more) dropped))

    left-mine : both start mine ≡ with_left trial.left (record { deliveries = d ++ mine.deliveries; out = mine.out; processed = mine.processed })
    left-mine =
        λ i. walked (d ++ mine.deliveries) (ap (λ (x : List Content). x ++ mine.out) (append-nil (messages_of trial.left.out)) i) (ap (λ (x : Bool). x || mine.processed) (or-false trial.left.processed) i)

    pub takes : beq b.fallback trial.late ≡ true
        → does pipes offered (Tried (record trial { index = n }) b.is_final b.drop_unmatched) (after_deliveries d (walk (steps_at pipes b.start) trial.message (trial.flow || b.flow)))
        ≡ tries pipes offered trial start
    takes h =
        sym (round-walks trial.late b.is_final start mine (from pipes offered trial.group trial.index) rest all trial.message trial.flow (turned true h)
        ∙ ap (λ (w : WalkResult). cond (mine.processed && b.is_final) w (trying trial.late w rest all trial.message trial.flow)) left-mine)
