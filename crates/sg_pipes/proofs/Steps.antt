-- What each kind of frame comes to.
use Rattle.std.proofs.Common.{◌≡◌, Bool, true, false, List, [], ◌∷◌, ◌++◌, refl, sym, ap, ◌∙◌}
use Rattle.std.specs.Prelude.{◌&&◌, ◌||◌, cond}
use Rattle.std.proofs.lemmas.List.{append_assoc, append-nil}
use Rattle.sg_msg.specs.Message.{Content}
use Rattle.sg_msg.specs.declared.offer.Offer.{Offer}
use Rattle.sg_pipes.specs.declared.gone.Gone.{Gone}
use Rattle.sg_tree.specs.Walk.{WalkResult, Siblings, round, branches, each, then_each, both, two_rounds, after_deliveries, up_to_final, stopped}
use Rattle.sg_tree.proofs.Going.{both-assoc, both-stopped, walked, or-assoc, or-false, and-left}
use Rattle.sg_pipes.specs.Messages.{messages_of}
use Rattle.sg_pipes.specs.Frames.{with_left, trying}

or-true : (a : Bool) → (a || true) ≡ true
or-true true = refl
or-true false = refl

-- the deliveries so far stand before all
abbrev pub before : List Offer → WalkResult
before d = record { deliveries = d; out = []; processed = false }

pub before-rounds : (d : List Offer) (a b : WalkResult) → two_rounds (both (before d) a) b ≡ after_deliveries d (two_rounds a b)
before-rounds d a b = go a.deliveries a.out a.processed
  where
    go : (x : List Offer) (y : List Content) (p : Bool) → two_rounds (both (before d) (walked x y p)) b ≡ after_deliveries d (two_rounds (walked x y p) b)
    go x y true = refl
    go x y false = λ i. walked (append_assoc d x b.deliveries i) (y ++ b.out) b.processed

pub before-each : (d : List Offer) (a : WalkResult) (rest : Content → WalkResult) → then_each (after_deliveries d a) rest ≡ after_deliveries d (then_each a rest)
before-each d a rest = λ i. walked (append_assoc d a.deliveries (each rest a.out).deliveries i) (each rest a.out).out (a.processed && (each rest a.out).processed)

-- no sibling is left in this round
pub round-over : (late : Bool) (s : WalkResult) (all : Siblings) (m : Content) (f : Bool) (none : Siblings) → round none late m f ≡ stopped
    → trying late s none all m f ≡ cond (late || s.processed) s (trying true s all all m f)
round-over true s all m f none e = ap (both s) e ∙ both-stopped s
round-over false s all m f none e =
    ap (λ (w : WalkResult). two_rounds w (round all true m f)) (ap (both s) e ∙ both-stopped s)

-- a sibling of the other round
pub round-passes : (late : Bool) (s : WalkResult) (next rest all : Siblings) (m : Content) (f : Bool) → round next late m f ≡ round rest late m f
    → trying late s next all m f ≡ trying late s rest all m f
round-passes true s next rest all m f e = ap (both s) e
round-passes false s next rest all m f e = ap (λ (w : WalkResult). two_rounds (both s w) (round all true m f)) e

-- a sibling of this round
pub round-walks : (late is_final : Bool) (s mine : WalkResult) (next rest all : Siblings) (m : Content) (f : Bool) → round next late m f ≡ up_to_final is_final mine (round rest late m f)
    → trying late s next all m f ≡ cond (mine.processed && is_final) (both s mine) (trying late (both s mine) rest all m f)
round-walks late is_final s mine next rest all m f e = go late (mine.processed && is_final) refl e
  where
    go : (late last : Bool) → (mine.processed && is_final) ≡ last → round next late m f ≡ up_to_final is_final mine (round rest late m f)
        → trying late s next all m f ≡ cond (mine.processed && is_final) (both s mine) (trying late (both s mine) rest all m f)
    go true true l e = ap (both s) (e ∙ ap (λ (x : Bool). cond x mine (both mine (round rest true m f))) l) ∙ sym (ap (λ (x : Bool). cond x (both s mine) (both (both s mine) (round rest true m f))) l)
    go true false l e =
        ap (both s) (e ∙ ap (λ (x : Bool). cond x mine (both mine (round rest true m f))) l) ∙ sym (both-assoc s mine (round rest true m f))
        ∙ sym (ap (λ (x : Bool). cond x (both s mine) (both (both s mine) (round rest true m f))) l)
    go false true l e =
        ap (λ (w : WalkResult). two_rounds (both s w) (round all true m f)) (e ∙ ap (λ (x : Bool). cond x mine (both mine (round rest false m f))) l)
        ∙ ap (λ (x : Bool). cond x (both s mine) (both (both s mine) (round all true m f))) (ap (λ (x : Bool). s.processed || x) (and-left mine.processed is_final l) ∙ or-true s.processed)
        ∙ sym (ap (λ (x : Bool). cond x (both s mine) (two_rounds (both (both s mine) (round rest false m f)) (round all true m f))) l)
    go false false l e =
        ap (λ (w : WalkResult). two_rounds (both s w) (round all true m f)) (e ∙ ap (λ (x : Bool). cond x mine (both mine (round rest false m f))) l)
        ∙ ap (λ (w : WalkResult). two_rounds w (round all true m f)) (sym (both-assoc s mine (round rest false m f)))
        ∙ sym (ap (λ (x : Bool). cond x (both s mine) (two_rounds (both (both s mine) (round rest false m f)) (round all true m f))) l)

pub left-is : (d : List Offer) (o o' : List Content) (p p' : Bool) → o ≡ o' → p ≡ p' → walked d o p ≡ after_deliveries d (walked [] o' p')
left-is d o o' p p' eo ep = λ i. walked (sym (append-nil d) i) (eo i) (ep i)

and-comm : (a b : Bool) → (a && b) ≡ (b && a)
and-comm true true = refl
and-comm true false = refl
and-comm false true = refl
and-comm false false = refl

-- nothing was left before
pub nothing-left : (d : List Offer) (left : Gone) → messages_of left.out ≡ [] → left.processed ≡ false → with_left left (before d) ≡ before d
nothing-left d left eo ep = λ i. walked d ((append-nil (messages_of left.out) ∙ eo) i) ((or-false left.processed ∙ ep) i)

pub begin-is : (d : List Offer) (left : Gone) (all : Siblings) (m : Content) (f : Bool) → messages_of left.out ≡ [] → left.processed ≡ false
    → trying false (with_left left (before d)) all all m f ≡ after_deliveries d (branches all m f)
begin-is d left all m f eo ep =
    ap (λ (s : WalkResult). trying false s all all m f) (nothing-left d left eo ep) ∙ before-rounds d (round all false m f) (round all true m f)

-- what was left is joined
pub joined-left : (joined left : Gone) (d : List Offer) (w : WalkResult) → d ≡ w.deliveries → messages_of joined.out ≡ messages_of left.out ++ w.out → joined.processed ≡ (left.processed || w.processed)
    → with_left joined (before d) ≡ with_left left w
joined-left joined left d w ed eo ep = λ i. walked (ed i) ((append-nil (messages_of joined.out) ∙ eo) i) ((or-false joined.processed ∙ ep) i)

pub joined-now : (joined left : Gone) (d : List Offer) (w : WalkResult) → d ≡ w.deliveries → messages_of joined.out ≡ messages_of left.out ++ w.out → joined.processed ≡ (left.processed || w.processed)
    → walked d (messages_of joined.out) joined.processed ≡ with_left left w
joined-now joined left d w ed eo ep = λ i. walked (ed i) (eo i) (ep i)

-- the rest that waits
abbrev pub waited : List Offer → List Content → Bool → Bool → WalkResult → WalkResult
waited d o counts p later = walked (d ++ later.deliveries) (o ++ later.out) (counts && (p || later.processed))

pub waited-over : (d : List Offer) (o : List Content) (counts p : Bool) → walked d o (p && counts) ≡ waited d o counts p stopped
waited-over d o counts p = λ i. walked (sym (append-nil d) i) (sym (append-nil o) i) ((and-comm p counts ∙ ap (λ (x : Bool). counts && x) (sym (or-false p))) i)

pub waited-more : (d : List Offer) (o : List Content) (counts p : Bool) (w e : WalkResult) → waited (d ++ w.deliveries) (o ++ w.out) counts (p || w.processed) e ≡ waited d o counts p (both w e)
waited-more d o counts p w e =
    λ i. walked (append_assoc d w.deliveries e.deliveries i) (append_assoc o w.out e.out i) (ap (λ (x : Bool). counts && x) (or-assoc p w.processed e.processed) i)

pub waited-at : (d d' : List Offer) (o o' : List Content) (counts counts' p p' : Bool) (l l' : WalkResult) → d ≡ d' → o ≡ o' → counts ≡ counts' → p ≡ p' → l ≡ l' → waited d o counts p l ≡ waited d' o' counts' p' l'
waited-at d d' o o' counts counts' p p' l l' ed eo ec ep el = λ i. waited (ed i) (eo i) (ec i) (ep i) (el i)

pub out-is : (d : List Offer) (m : Content) → after_deliveries d (walked [] (m ∷ []) true) ≡ walked d (m ∷ []) true
out-is d m = λ i. walked (append-nil d i) (m ∷ []) true
