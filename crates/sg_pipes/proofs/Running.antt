-- Frames that wait, one after another.
use Rattle.std.proofs.Common.{◌≡◌, Bool, true, false, List, [], ◌∷◌, ◌++◌, refl, sym, ap, ap₂, ◌∙◌, subst}
use Rattle.std.specs.Prelude.{reverse}
use Rattle.std.proofs.lemmas.List.{append_assoc, append-nil, reverse-append}
use Rattle.sg_tree.specs.Walk.{WalkResult}
use Rattle.sg_table.specs.declared.pipe.Branch.{Branch}
use Rattle.sg_table.specs.declared.pipe.Pipe.{Pipe}
use Rattle.sg_pipes.specs.declared.frame.WalkFrame.{WalkFrame}
use Rattle.sg_pipes.specs.declared.work.WalkWork.{WalkWork}
use Rattle.sg_pipes.specs.Frames.{run, does}
use Rattle.sg_pipes.specs.Turns.{ComesToFrames, WorkComesTo, DeliversOffers, TurnsWalk, now}

pub run-append : (pipes : List Pipe) (offered : List Branch) (xs ys : List WalkFrame) (w : WalkResult) → run pipes offered (xs ++ ys) w ≡ run pipes offered ys (run pipes offered xs w)
run-append pipes offered [] ys w = refl
run-append pipes offered (x ∷ xs) ys w = run-append pipes offered xs ys (does pipes offered x w)

-- nothing is pushed
pub comes-now : (pipes : List Pipe) (old new : WalkWork) → new.offered ≡ old.offered → new.frames ≡ old.frames → ComesToFrames pipes (now new) old new
comes-now pipes old new eo ef = record { offered = eo; more = []; frames = ap (λ v. v.items) ef ∙ sym (append-nil old.frames.items); comes = refl }

-- one frame is pushed
pub comes-pushed : (pipes : List Pipe) (old new : WalkWork) (frame : WalkFrame) → new.offered ≡ old.offered → new.frames.items ≡ old.frames.items ++ frame ∷ []
    → ComesToFrames pipes (does pipes old.offered.items frame (now new)) old new
comes-pushed pipes old new frame eo ef = record { offered = eo; more = frame ∷ []; frames = ef; comes = refl }

-- it comes from the same
pub comes-as : (pipes : List Pipe) (made made' : WalkResult) (old new : WalkWork) → made ≡ made' → ComesToFrames pipes made old new → ComesToFrames pipes made' old new
comes-as pipes made made' old new e c = subst (λ (w : WalkResult). ComesToFrames pipes w old new) e c

-- a frame was pushed before
pub comes-behind : (pipes : List Pipe) (made : WalkResult) (old mid new : WalkWork) (frame : WalkFrame) → mid.offered ≡ old.offered → mid.frames.items ≡ old.frames.items ++ frame ∷ []
    → ComesToFrames pipes made mid new → ComesToFrames pipes (does pipes old.offered.items frame made) old new
comes-behind pipes made old mid new frame eo ef c = record {
  offered = c.offered ∙ eo;
  more = frame ∷ c.more;
  frames = c.frames ∙ ap (λ (x : List WalkFrame). x ++ c.more) ef ∙ append_assoc old.frames.items (frame ∷ []) c.more;
  comes = ap (λ (x : List WalkFrame). run pipes old.offered.items x (now new)) (reverse-append (frame ∷ []) c.more)
      ∙ run-append pipes old.offered.items (reverse c.more) (frame ∷ []) (now new)
      ∙ ap (does pipes old.offered.items frame) (ap (λ v. run pipes v.items (reverse c.more) (now new)) (sym eo) ∙ c.comes);
}

-- a turn, and what is done after it
pub works-on : (pipes : List Pipe) (old popped mid new : WalkWork) (frame : WalkFrame) → popped.offered ≡ old.offered → now popped ≡ now old → old.frames.items ≡ popped.frames.items ++ frame ∷ []
    → TurnsWalk pipes frame popped mid
    → run pipes old.offered.items (reverse old.frames.items) (now old) ≡ run pipes mid.offered.items (reverse mid.frames.items) (now mid)
works-on pipes old popped mid new frame eo en ef t =
    let offered = old.offered.items in
    let below = reverse popped.frames.items in
    let same : popped.offered.items ≡ offered = ap (λ v. v.items) eo in
    let made : run pipes offered (reverse t.more) (now mid) ≡ does pipes offered frame (now old) =
    ap (λ x. run pipes x (reverse t.more) (now mid)) (sym same) ∙ t.comes ∙ ap₂ (λ x w. does pipes x frame w) same en in
    ap (λ (x : List WalkFrame). run pipes offered x (now old)) (ap reverse ef ∙ reverse-append popped.frames.items (frame ∷ []))
    ∙ ap (run pipes offered below) (sym made)
    ∙ sym (run-append pipes offered (reverse t.more) below (now mid))
    ∙ ap (λ (x : List WalkFrame). run pipes offered x (now mid)) (sym (ap reverse t.frames ∙ reverse-append popped.frames.items t.more))
    ∙ ap (λ x. run pipes x (reverse mid.frames.items) (now mid)) (sym (ap (λ v. v.items) t.offered ∙ same))

-- from work with the same frames
pub comes-from : (pipes : List Pipe) (made : WalkResult) (old mid new : WalkWork) → mid.offered ≡ old.offered → mid.frames ≡ old.frames → ComesToFrames pipes made mid new → ComesToFrames pipes made old new
comes-from pipes made old mid new eo ef c = record {
  offered = c.offered ∙ eo;
  more = c.more;
  frames = c.frames ∙ ap (λ v. v.items ++ c.more) ef;
  comes = ap (λ v. run pipes v.items (reverse c.more) (now new)) (sym eo) ∙ c.comes;
}

-- from work with the same frames, from which the same comes
pub comes-on : (pipes : List Pipe) (made made' : WalkResult) (old mid new : WalkWork) → mid.frames ≡ old.frames → mid.offered ≡ old.offered → made' ≡ made → ComesToFrames pipes made' mid new → ComesToFrames pipes made old new
comes-on pipes made made' old mid new ef eo e c = comes-from pipes made old mid new eo ef (comes-as pipes made' made mid new e c)

-- a turn over the same pipes, of the same frame, from the same work
pub turns-at : (pipes pipes' : List Pipe) (frame frame' : WalkFrame) (old old' new : WalkWork) → pipes' ≡ pipes → frame' ≡ frame → old' ≡ old → TurnsWalk pipes' frame' old' new → TurnsWalk pipes frame old new
turns-at pipes pipes' frame frame' old old' new ep ef eo t =
    subst (λ (ps : List Pipe). TurnsWalk ps frame old new) ep
    (subst (λ (f : WalkFrame). TurnsWalk pipes' f old new) ef (subst (λ (w : WalkWork). TurnsWalk pipes' frame' w new) eo t))

-- what comes is delivered too
pub comes-to : (alone : Bool) (pipes : List Pipe) (made : WalkResult) (old new : WalkWork) → ComesToFrames pipes made old new → WorkComesTo alone pipes made old new
comes-to true pipes made old new c = record { offered = c.offered; more = c.more; frames = c.frames; delivers = ap (λ (w : WalkResult). w.deliveries) c.comes }
comes-to false pipes made old new c = c

-- nothing is pushed, and the deliveries are those
pub delivers-now : (pipes : List Pipe) (made : WalkResult) (old new : WalkWork) → new.offered ≡ old.offered → new.frames ≡ old.frames → new.offers.items ≡ made.deliveries → DeliversOffers pipes made old new
delivers-now pipes made old new eo ef ed = record { offered = eo; more = []; frames = ap (λ v. v.items) ef ∙ sym (append-nil old.frames.items); delivers = ed }

pub delivers-as : (pipes : List Pipe) (made made' : WalkResult) (old new : WalkWork) → made ≡ made' → DeliversOffers pipes made old new → DeliversOffers pipes made' old new
delivers-as pipes made made' old new e c = subst (λ (w : WalkResult). DeliversOffers pipes w old new) e c
