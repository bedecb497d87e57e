-- Siblings that are walked each by itself.
use Rattle.std.proofs.Common.{◌≡◌, ℕ, suc, ◌+◌, Bool, true, false, List, [], ◌∷◌, ◌++◌, drop, Option, Some, None, refl, sym, ap, subst, ◌∙◌, arith}
use Rattle.std.specs.Prelude.{◌&&◌, ◌||◌, cond, slice_get}
use Rattle.std.proofs.lemmas.List.{append-nil}
use Rattle.sg_msg.specs.Message.{Content}
use Rattle.sg_msg.specs.declared.offer.Offer.{Offer}
use Rattle.sg_tree.specs.Walk.{WalkResult, walk, round, branches, both, two_rounds, counted, after_deliveries}
use Rattle.sg_table.specs.declared.pipe.Branch.{Branch}
use Rattle.sg_table.specs.declared.pipe.Pipe.{Pipe}
use Rattle.sg_table.specs.Table.{StepsByPlace, marks, siblings_of, branches_at, steps_at}
use Rattle.sg_pipes.specs.declared.work.WalkWork.{WalkWork}
use Rattle.sg_pipes.specs.Frames.{has_fallback, has_final_or_fallback, delivered_by}
use Rattle.sg_pipes.specs.Turns.{DeliversOffers, DeliversWith, behind, now}
use Rattle.sg_pipes.proofs.Over.{none-late, twice-stopped}
use Rattle.sg_pipes.proofs.Trying.{none-left, some-left}

no-fallback : (bs : List Branch) → has_final_or_fallback bs ≡ false → has_fallback bs ≡ false
no-fallback [] e = refl
no-fallback (b ∷ bs) e = go b.is_final b.fallback e (no-fallback bs)
  where
    go : (last late : Bool) → ((last || late) || has_final_or_fallback bs) ≡ false → (has_final_or_fallback bs ≡ false → has_fallback bs ≡ false) → (late || has_fallback bs) ≡ false
    go true late e h = absurd (cc)
    go false true e h = absurd (cc)
    go false false e h = h e

round-delivers : (at : StepsByPlace) (bs : List Branch) (m : Content) (f : Bool) → has_final_or_fallback bs ≡ false
    → (round (siblings_of (branches_at at bs)) false m f).deliveries ≡ delivered_by at bs m f
round-delivers at [] m f e = refl
round-delivers at (b ∷ bs) m f e = go b.is_final b.fallback mine.processed e (round-delivers at bs m f)
  where
    mine : WalkResult
    mine = counted (marks b) (walk (at b.start) m (f || b.flow))

    more : WalkResult
    more = round (siblings_of (branches_at at bs)) false m f

    go : (last late processed : Bool) → ((last || late) || has_final_or_fallback bs) ≡ false → (has_final_or_fallback bs ≡ false → more.deliveries ≡ delivered_by at bs m f)
        → (cond (cond late false true) (cond (processed && last) mine (both mine more)) more).deliveries ≡ mine.deliveries ++ delivered_by at bs m f
    go true late processed e h = absurd (cc)
    go false true processed e h = absurd (cc)
    go false false true e h = ap (λ (ds : List Offer). mine.deliveries ++ ds) (h e)
    go false false false e h = ap (λ (ds : List Offer). mine.deliveries ++ ds) (h e)

-- where it counts for none what the others leave, each one's deliveries come
pub each-delivers : (at : StepsByPlace) (bs : List Branch) (m : Content) (f : Bool) → has_final_or_fallback bs ≡ false
    → delivered_by at bs m f ≡ (branches (siblings_of (branches_at at bs)) m f).deliveries
each-delivers at bs m f e =
    let first = round (siblings_of (branches_at at bs)) false m f in
    sym (ap (λ (w : WalkResult). (two_rounds first w).deliveries) (none-late at bs m f (no-fallback bs e)) ∙ ap (λ (w : WalkResult). w.deliveries) (twice-stopped first) ∙ round-delivers at bs m f e)

-- one step, and another behind it
pub then-with : (pipes : List Pipe) (m : Content) (f : Bool) (old mid new : WalkWork) (xs ys zs : List Branch) → DeliversWith pipes m f old xs mid ys → DeliversWith pipes m f mid ys new zs
    → DeliversWith pipes m f old xs new zs
then-with pipes m f old mid new xs ys zs a b = (b.0 ∙ a.0, b.1, b.2 ∙ a.2)

-- where each is walked, and nothing is left to be done
pub each-offers : (pipes : List Pipe) (m : Content) (f : Bool) (old new : WalkWork) → old.frames.items ≡ [] → has_final_or_fallback old.offered.items ≡ false → DeliversWith pipes m f old old.offered.items new []
    → DeliversOffers pipes (after_deliveries (now old).deliveries (branches (siblings_of (branches_at (steps_at pipes) old.offered.items)) m f)) old new
each-offers pipes m f old new none plain d = record {
  offered = d.0;
  more = [];
  frames = d.1 ∙ sym (append-nil old.frames.items ∙ none);
  delivers = sym (append-nil new.offers.items) ∙ d.2 ∙ ap (λ (ds : List Offer). old.offers.items ++ ds) (each-delivers (steps_at pipes) old.offered.items m f plain);
}

-- the next one is looked at
pub next-with : (pipes : List Pipe) (m : Content) (f : Bool) (old mid new : WalkWork) (all : List Branch) (i : ℕ) (b : Branch) (waiting next : Option Branch) → slice_get all i ≡ Some b
    → DeliversWith pipes m f old all mid (behind waiting (drop i all))
    → DeliversWith pipes m f mid (behind waiting (b ∷ drop (i + 1) all)) new (behind next (drop (i + 1) all))
    → DeliversWith pipes m f old all new (behind next (drop (i + 1) all))
next-with pipes m f old mid new all i b waiting next some before step =
    let more = drop (i + 1) all in
    let k : suc i ≡ i + 1 = omega arith in
    let split : drop i all ≡ b ∷ more = some-left all i b some ∙ ap (λ (j : ℕ). b ∷ drop j all) k in
    then-with pipes m f old mid new all (behind waiting (b ∷ more)) (behind next more) (subst (λ (bs : List Branch). DeliversWith pipes m f old all mid (behind waiting bs)) split before) step

-- none is left but the one that waits
pub none-behind : (pipes : List Pipe) (m : Content) (f : Bool) (old mid : WalkWork) (all : List Branch) (i : ℕ) (waiting last : Option Branch) → slice_get all i ≡ None → waiting ≡ last
    → DeliversWith pipes m f old all mid (behind waiting (drop i all)) → DeliversWith pipes m f old all mid (behind last [])
none-behind pipes m f old mid all i waiting last none same before =
    subst (λ (w : Option Branch). DeliversWith pipes m f old all mid (behind w [])) same
    (subst (λ (bs : List Branch). DeliversWith pipes m f old all mid (behind waiting bs)) (none-left all i none) before)
