-- Siblings of which none is tried any more.
use Rattle.std.proofs.Common.{◌≡◌, ℕ, Bool, true, false, List, [], ◌∷◌, ◌++◌, None, refl, sym, ap, ◌∙◌}
use Rattle.std.specs.Prelude.{◌&&◌, ◌||◌, cond, slice_get}
use Rattle.sg_msg.specs.Message.{Content}
use Rattle.sg_tree.specs.Walk.{WalkResult, Siblings, no_siblings, walk, round, branches, both, two_rounds, counted, up_to_final, stopped}
use Rattle.sg_tree.proofs.Going.{walked, both-stopped, or-false}
use Rattle.sg_table.specs.declared.pipe.Branch.{Branch}
use Rattle.sg_table.specs.declared.pipe.Pipe.{Pipe}
use Rattle.sg_table.specs.Table.{StepsByPlace, marks, siblings_of, branches_at, steps_at}
use Rattle.sg_pipes.specs.declared.frame.SiblingList.{SiblingList}
use Rattle.sg_pipes.specs.declared.frame.SiblingTrial.{SiblingTrial}
use Rattle.sg_pipes.specs.declared.frame.WalkFrame.TheVariants.{Last, Tried}
use Rattle.sg_pipes.specs.declared.gone.Gone.{Gone}
use Rattle.sg_pipes.specs.Messages.{messages_of}
use Rattle.sg_pipes.specs.Frames.{IsWalkOver, group_of, has_fallback, with_left, from, tries, does}
use Rattle.sg_pipes.proofs.Steps.{round-over}
use Rattle.sg_pipes.proofs.Trying.{none-left}

-- where none waits for it, the second round does nothing
pub none-late : (at : StepsByPlace) (bs : List Branch) (m : Content) (f : Bool) → has_fallback bs ≡ false → round (siblings_of (branches_at at bs)) true m f ≡ stopped
none-late at [] m f e = refl
none-late at (b ∷ bs) m f e = go b.fallback e (none-late at bs m f)
  where
    more : WalkResult
    more = round (siblings_of (branches_at at bs)) true m f

    go : (x : Bool) → (x || has_fallback bs) ≡ false → (has_fallback bs ≡ false → more ≡ stopped)
        → cond x (up_to_final b.is_final (counted (marks b) (walk (at b.start) m (f || b.flow))) more) more ≡ stopped
    go true e h = absurd (cc)
    go false e h = h e

pub twice-stopped : (s : WalkResult) → two_rounds s stopped ≡ s
twice-stopped s = go s.processed
  where
    go : (x : Bool) → cond x s (both s stopped) ≡ s
    go true = refl
    go false = both-stopped s

module _ (pipes : List Pipe) (offered : List Branch) (group : SiblingList) (index : ℕ) (none : slice_get (group_of offered pipes group) index ≡ None) where
  none-from : from pipes offered group index ≡ no_siblings
  none-from = ap (λ (bs : List Branch). siblings_of (branches_at (steps_at pipes) bs)) (none-left (group_of offered pipes group) index none)

  round-none : (late : Bool) (m : Content) (f : Bool) → round (from pipes offered group index) late m f ≡ stopped
  round-none late m f = ap (λ (s : Siblings). round s late m f) none-from

  pub over-late : IsWalkOver pipes offered group index true
  over-late = λ s m f. round-over true s (from pipes offered group 0) m f (from pipes offered group index) (round-none true m f)

  pub over-both : has_fallback (group_of offered pipes group) ≡ false → IsWalkOver pipes offered group index false
  over-both early = λ s m f.
      ap (λ (w : WalkResult). two_rounds (both s w) (round (from pipes offered group 0) true m f)) (round-none false m f)
      ∙ ap (λ (w : WalkResult). two_rounds (both s stopped) w) (none-late (steps_at pipes) (group_of offered pipes group) m f early)
      ∙ ap (λ (w : WalkResult). two_rounds w stopped) (both-stopped s)
      ∙ twice-stopped s

-- behind the last sibling no other is tried
pub last-is : (pipes : List Pipe) (offered : List Branch) (trial : SiblingTrial) (is_final drop_unmatched : Bool) (w : WalkResult) → IsWalkOver pipes offered trial.group trial.index trial.late
    → does pipes offered (Last trial.left drop_unmatched) w ≡ does pipes offered (Tried trial is_final drop_unmatched) w
last-is pipes offered trial is_final drop_unmatched w over = go (mine.processed && is_final)
  where
    mine : WalkResult
    mine = record w { processed = w.processed || drop_unmatched }

    go : (x : Bool) → with_left trial.left mine ≡ cond x (with_left trial.left mine) (tries pipes offered trial (with_left trial.left mine))
    go true = refl
    go false = sym (over (with_left trial.left mine) trial.message trial.flow)

-- where nothing was left before, the last sibling's own is all
pub last-alone : (pipes : List Pipe) (offered : List Branch) (left : Gone) (drop_unmatched : Bool) (w : WalkResult) → messages_of left.out ≡ [] → left.processed ≡ false → drop_unmatched ≡ false
    → w ≡ does pipes offered (Last left drop_unmatched) w
last-alone pipes offered left drop_unmatched w eo ep ed =
    λ i. walked w.deliveries (sym (ap (λ (o : List Content). o ++ w.out) eo) i)
    (sym (ap (λ (x : Bool). x || (w.processed || drop_unmatched)) ep ∙ ap (λ (x : Bool). w.processed || x) ed ∙ or-false w.processed) i)

-- a sibling that is tried alone
pub alone-is : (at : StepsByPlace) (b : Branch) (m : Content) (f : Bool) → b.fallback ≡ false → b.drop_unmatched ≡ false → walk (at b.start) m (f || b.flow) ≡ branches (siblings_of (branches_at at (b ∷ []))) m f
alone-is at b m f ef ed = sym (ap rounds ef ∙ twice-stopped mine ∙ final (own.processed && b.is_final) ∙ (λ i. walked w.deliveries w.out ((ap (λ (x : Bool). w.processed || x) ed ∙ or-false w.processed) i)))
  where
    w : WalkResult
    w = walk (at b.start) m (f || b.flow)

    own : WalkResult
    own = counted (marks b) w

    mine : WalkResult
    mine = up_to_final b.is_final own stopped

    rounds : Bool → WalkResult
    rounds late = two_rounds (cond (cond late false true) mine stopped) (cond late mine stopped)

    final : (x : Bool) → cond x own (both own stopped) ≡ own
    final true = refl
    final false = both-stopped own
