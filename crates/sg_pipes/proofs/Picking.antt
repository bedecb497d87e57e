-- The next sibling that is walked.
use Rattle.std.proofs.Common.{◌≡◌, ℕ, ◌+◌, ◌-◌, ◌<◌, Bool, true, false, List, length, Some, None, refl, sym, ap, ◌∙◌, arith}
use mathlib.Core.Bool.{beq}
use Rattle.std.specs.Prelude.{◌||◌, slice_get}
use Rattle.sg_list.proofs.ListLemmas.{slice_get-below}
use Rattle.sg_tree.specs.Walk.{WalkResult, walk, stopped, after_deliveries}
use Rattle.sg_table.specs.declared.pipe.Branch.{Branch}
use Rattle.sg_table.specs.declared.pipe.Pipe.{Pipe}
use Rattle.sg_table.specs.Table.{steps_at}
use Rattle.sg_pipes.specs.declared.frame.SiblingList.{SiblingList}
use Rattle.sg_pipes.specs.declared.frame.SiblingTrial.{SiblingTrial}
use Rattle.sg_pipes.specs.declared.frame.WalkFrame.TheVariants.{Try, Tried}
use Rattle.sg_pipes.specs.Frames.{group_of, does}
use Rattle.sg_pipes.specs.Turns.{Picks}
use Rattle.sg_pipes.proofs.Trying.{passes, leaves-none, takes}

-- one sibling fewer is left
pub fewer-left : (pipes pipes' : List Pipe) (offered : List Branch) (group : SiblingList) (index : ℕ) (b : Branch) → slice_get (group_of offered pipes group) index ≡ Some b → pipes' ≡ pipes
    → length (group_of offered pipes' group) - (index + 1) < length (group_of offered pipes group) - index
fewer-left pipes pipes' offered group index b some same =
    let below = slice_get-below (group_of offered pipes group) index b some in
    let long : length (group_of offered pipes' group) ≡ length (group_of offered pipes group) = ap (λ (ps : List Pipe). length (group_of offered ps group)) same in
    omega (arith, below, long)

-- the siblings before this one leave nothing
pub record IsAhead (pipes : List Pipe) (offered : List Branch) (first trial : SiblingTrial) : Type 0 where
  pub same : trial ≡ record first { index = trial.index }
  pub ahead : (before : WalkResult) → does pipes offered (Try trial) before ≡ does pipes offered (Try first) before

module _ (pipes : List Pipe) (offered : List Branch) (first trial : SiblingTrial) (is : IsAhead pipes offered first trial) where
  pub none-picked : slice_get (group_of offered pipes trial.group) trial.index ≡ None → Picks pipes offered first trial None
  none-picked none = (is.same, ap (λ (t : SiblingTrial). slice_get (group_of offered pipes t.group) trial.index) (sym is.same) ∙ none, is.ahead)

  module _ (b : Branch) (some : slice_get (group_of offered pipes trial.group) trial.index ≡ Some b) where
    abbrev behind : SiblingTrial
    behind = record trial { index = trial.index + 1 }

    same-behind : behind ≡ record first { index = trial.index + 1 }
    same-behind = ap (λ (t : SiblingTrial). record t { index = trial.index + 1 }) is.same

    -- a sibling of the other round
    pub over-other : beq b.fallback trial.late ≡ false → IsAhead pipes offered first behind
    over-other h = record {
      same = same-behind;
      ahead = λ before. passes pipes offered trial before.deliveries b (trial.index + 1) some refl h ∙ is.ahead before;
    }

    pub over-stopped : beq b.fallback trial.late ≡ true → ((flow : Bool) → walk (steps_at pipes b.start) trial.message flow ≡ stopped) → b.drop_unmatched ≡ false
        → IsAhead pipes offered first behind
    over-stopped h stops dropped = record {
      same = same-behind;
      ahead = λ before. leaves-none pipes offered trial before.deliveries b (trial.index + 1) some refl h (stops (trial.flow || b.flow)) dropped ∙ is.ahead before;
    }

    pub picked : (next : ℕ) → beq b.fallback trial.late ≡ true → ((flow : Bool) → walk (steps_at pipes next) trial.message flow ≡ walk (steps_at pipes b.start) trial.message flow)
        → Picks pipes offered first behind (Some (record b { start = next }))
    picked next h enters = (
      same-behind,
      (λ before.
          ap (λ (t : SiblingTrial). does pipes offered (Tried behind b.is_final b.drop_unmatched) (after_deliveries before.deliveries (walk (steps_at pipes next) t.message (t.flow || b.flow)))) (sym is.same)
          ∙ ap (λ (w : WalkResult). does pipes offered (Tried behind b.is_final b.drop_unmatched) (after_deliveries before.deliveries w)) (enters (trial.flow || b.flow))
          ∙ takes pipes offered trial before.deliveries b (trial.index + 1) some refl h
          ∙ is.ahead before),
    )
